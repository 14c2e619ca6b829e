use Rattle.std.proofs.Common.{◌≡◌, ◌++◌, flat_map, ap, ◌∙◌, arith}
use Rattle.std.specs.List.{range_with_len}
use Rattle.hk_made.proofs.Ranges.{written-more}
use Rattle.hk_made.proofs.Rounds.{hellos, round_text, all-made}
use Rattle.hk_made.proofs.input.made_input.Goals as goal

pub loop-round-preserved : goal.loop-round-preserved
loop-round-preserved c =
    let programme = c.in_ok-programme.programme in
    let round = c.loop-round.round in
    written-more (round_text programme.flips programme.highs.items programme.stations) (hellos c.args.stations) c.loop-round.text.items c.put_round.new.text.items
    0 round round c.loop-round.invariant (omega arith) c.in_ok-put_round.ensures

pub returns : goal.returns
returns c =
    let programme = c.in_ok-programme.programme in
    let all : c.loop-round.round ≡ 4 = omega (arith, c.loop-round-test.false, c.loop-round.auto.round-end) in
    all-made c.loop-round.text.items programme.highs.items c.args.seed c.args.stations programme.stations c.args.flips programme.flips
    c.in_ok-programme.ensures.stations c.in_ok-programme.ensures.flips c.in_ok-programme.ensures.highs
    (c.loop-round.invariant ∙ ap (λ n. hellos c.args.stations ++ flat_map (round_text programme.flips programme.highs.items programme.stations) (range_with_len 0 n)) all)
