use Rattle.std.proofs.Common.{◌≡◌, ◌-◌, ◌<◌, suc, length, get_or, drop, subst, sym, ap, ◌∙◌, arith, length-drop}
use Rattle.std.proofs.Math.Seq.{drop-cons}
use Rattle.std.proofs.lemmas.List.{drop_all}
use Rattle.hk_nodes.specs.Chains.{END}
use Rattle.hk_nodes.specs.Store.{with_node}
use Rattle.hk_table.specs.Songs.{bucket_at, IsLonger}
use Rattle.hk_table.proofs.Buckets.{bucket_low}
use Rattle.hk_table.proofs.Adding.{Taken, none_longer, one_longer}
use Rattle.hk_table.proofs.table.take_song.Goals as goal

pub loop-pos-init : goal.loop-pos-init
loop-pos-init c =
    subst (λ ws. IsLonger (bucket_at c.args.shift) c.args.slot (length c.args.words.now) c.args.nodes.now c.args.nodes.now ws END)
    (sym (drop_all (length c.args.words.now) c.args.words.now (omega arith)))
    (none_longer (bucket_at c.args.shift) c.args.slot (length c.args.words.now) c.args.nodes.now c.requires.orderly)

pub take-head-requires-clause-bucket : goal.take-head-requires-clause-bucket
take-head-requires-clause-bucket c =
    omega (
      arith,
      c.of.ensures,
      c.requires.buckets,
      c.loop-pos.invariant.buckets,
      bucket_low (32 - c.args.shift) c.args.shift (get_or c.args.words.now (c.loop-pos.pos - 1) 0) (omega (arith, c.requires.shift)),
    )

pub loop-pos-preserved : goal.loop-pos-preserved
loop-pos-preserved c =
    let from = c.loop-pos.pos - 1 in
    let word = get_or c.args.words.now from 0 in
    let next : c.loop-pos.pos ≡ suc from = omega arith in
    let was : IsLonger (bucket_at c.args.shift) c.args.slot (suc from) c.args.nodes.now c.loop-pos.nodes (drop (suc from) c.args.words.now) c.loop-pos.head =
    subst (λ p. IsLonger (bucket_at c.args.shift) c.args.slot p c.args.nodes.now c.loop-pos.nodes (drop p c.args.words.now) c.loop-pos.head) next c.loop-pos.invariant in
    let low : bucket_at c.args.shift word < length c.loop-pos.nodes.chains = omega (
      arith,
      c.requires.buckets,
      c.loop-pos.invariant.buckets,
      bucket_low (32 - c.args.shift) c.args.shift word (omega (arith, c.requires.shift)),
    ) in
    let take : Taken (bucket_at c.args.shift word) c.args.slot from word c.loop-pos.head c.take-head.result c.loop-pos.nodes c.take-head.new.self = record {
      taken = c.take-head.ensures.taken
          ∙ ap (λ b. with_node c.loop-pos.nodes c.take-head.result b word c.args.slot from c.loop-pos.head) c.of.ensures;
      free = c.take-head.ensures.free;
      there = c.take-head.ensures.node;
      head = c.take-head.ensures.head;
      song = c.take-head.ensures.song;
      songs = c.take-head.ensures.songs;
      heads = c.take-head.ensures.heads;
      orderly = c.take-head.ensures.orderly;
    } in
    let some : 0 < c.loop-pos.nodes.spare =
    omega (arith, c.loop-pos.invariant.spare, c.requires.spare, length-drop c.loop-pos.pos c.args.words.now) in
    subst (λ ws. IsLonger (bucket_at c.args.shift) c.args.slot from c.args.nodes.now c.take-head.new.self ws c.take-head.result)
    (sym (drop-cons c.args.words.now from 0 (omega arith)))
    (one_longer (bucket_at c.args.shift) c.args.slot from c.args.nodes.now c.loop-pos.nodes c.take-head.new.self (drop (suc from) c.args.words.now)
    c.loop-pos.head word c.take-head.result was some low take)
