use Rattle.std.proofs.Common.{rules, ◌≡◌, ◌<◌, ◌+◌, ◌*◌, ◌/◌, ◌^◌, w32, w64, FitsSigned, pos, nat_abs, get_or, ℤ, List, subst, sym, ap, ◌∙◌, arith}
use Rattle.std.proofs.lemmas.Int.{to_z-of_z}
use Rattle.hk_circle.proofs.Filling.{HasBegun, begins, begun_more, begun_all, place_within}
use Rattle.hk_circle.proofs.tables.add_stage.Goals as goal

pub put-requires : goal.put-requires
put-requires c =
    let place = c.loop-k.k * (1024 / c.args.half) in
    let inside : place < 2048 = place_within c.loop-k.k c.args.half c.loop-k-test.true in
    let below : nat_abs (get_or c.args.table.now place (pos 0)) < 32769 = c.requires.below place (pos 0) (omega (arith, inside, c.requires.whole)) in
    let fits_read : FitsSigned w32 (get_or c.args.table.now place (pos 0)) = search rules in
    let is = simp to_z-of_z at c.from.ensures in
    let fits : FitsSigned w64 c.from.result = search rules in
    simp to_z-of_z (omega (arith, below, ap nat_abs is))

pub loop-k-preserved : goal.loop-k-preserved
loop-k-preserved c = λ f table stages.
    let k = c.loop-k.k in
    let place = k * (1024 / c.args.half) in
    let inside : place < 2048 = place_within k c.args.half c.loop-k-test.true in
    let below : nat_abs (get_or c.args.table.now place (pos 0)) < 32769 = c.requires.below place (pos 0) (omega (arith, inside, c.requires.whole)) in
    let fits_read : FitsSigned w32 (get_or c.args.table.now place (pos 0)) = search rules in
    let fits : FitsSigned w64 c.from.result = search rules in
    let read = simp to_z-of_z at c.from.ensures in
    let is : c.from.result ≡ f (k * (1024 / 2 ^ c.args.before)) = read ∙ table.each place inside ∙ ap (λ h. f (k * (1024 / h))) c.requires.half in
    subst (λ (xs : List ℤ). HasBegun c.args.before (k + 1) f xs) (sym (simp to_z-of_z at c.in_ok-put.ensures))
    (begun_more c.args.before k f c.loop-k.stages.items c.from.result (c.loop-k.invariant f table stages) is (omega (arith, below, ap nat_abs read)))

pub loop-k-init : goal.loop-k-init
loop-k-init c = λ f table stages. begins c.args.before f c.args.stages.now.items stages

pub returns : goal.returns
returns c = record {
  more = λ f table stages.
      let all : c.loop-k.k ≡ 2 ^ c.args.before = omega (arith, c.requires.half, c.loop-k.auto.k-end, c.loop-k-test.false) in
      begun_all c.args.before f c.loop-k.stages.items (subst (λ n. HasBegun c.args.before n f c.loop-k.stages.items) all (c.loop-k.invariant f table stages));
}
