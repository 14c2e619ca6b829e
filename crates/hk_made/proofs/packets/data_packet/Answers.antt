use Rattle.std.proofs.Common.{rules, ◌≡◌, ◌+◌, ◌%◌, ◌∷◌, ◌++◌, flat_map, length, ap, sym, ◌∙◌, arith}
use Rattle.std.specs.Int.{w16, to_be_bytes}
use Rattle.std.specs.List.{range_with_len, slice_index}
use Rattle.hk_spec_streams.specs.Station.{DATA}
use Rattle.hk_spec_made.specs.Input.{played, print_bytes}
use Rattle.hk_made.proofs.Ranges.{written-more}
use Rattle.hk_made.proofs.Played.{print_text, prints_text-all, length-prints_text}
use Rattle.hk_made.proofs.packets.data_packet.Goals as goal

pub loop-i-preserved : goal.loop-i-preserved
loop-i-preserved c =
    let song = c.args.song.now in
    let draws = c.args.draws.now in
    let i = c.loop-i.i in
    let text = c.loop-i.packet.items in
    let bit : c.from-bit.result ≡ slice_index draws i = search rules in
    let print : c.played.result ≡ played c.args.flips (slice_index song (c.args.from + i)) (slice_index draws i % 32) =
    c.played.ensures ∙ ap (λ b. played c.args.flips (slice_index song (c.args.from + i)) (b % 32)) bit in
    written-more (print_text c.args.flips song c.args.from draws) (DATA ∷ to_be_bytes w16 4800) text c.put_print.new.text.items 0 i i c.loop-i.invariant (omega arith)
    (c.in_ok-put_print.ensures ∙ ap (λ p. text ++ print_bytes p) print)

pub returns-clause-bytes : goal.returns-clause-bytes
returns-clause-bytes c =
    let print = print_text c.args.flips c.args.song.now c.args.from c.args.draws.now in
    let all : c.loop-i.i ≡ 600 = omega (arith, c.loop-i-test.false, c.loop-i.auto.i-end) in
    c.loop-i.invariant ∙ ap (λ n. (DATA ∷ to_be_bytes w16 4800) ++ flat_map print (range_with_len 0 n)) all
    ∙ ap (λ bytes. (DATA ∷ to_be_bytes w16 4800) ++ bytes) (sym (prints_text-all c.args.flips c.args.song.now c.args.from c.args.draws.now))

pub returns-clause-size : goal.returns-clause-size
returns-clause-size c =
    omega (arith, ap length (returns-clause-bytes c), length-prints_text c.args.flips c.args.song.now c.args.from c.args.draws.now)
