use Rattle.std.proofs.Common.{rules, ◌≡◌, ◌+ℤ◌, ◌/◌, pos, w32, FitsSigned, to_z, arith, sym, subst}
use Rattle.std.proofs.lemmas.Int.{to_z-of_z, ints}
use Rattle.hk_spec_sound.specs.Ranges.{IsSample}
use Rattle.hk_decimate.proofs.Sums.{mean_range}
use Rattle.hk_decimate.proofs.mean.rounded_mean.Goals as goal

pub returns-clause-value : goal.returns-clause-value
returns-clause-value c =
    let half : to_z w32 (c.args.weight / 2) ≡ pos (c.args.weight / 2) = omega (arith, ints) in
    let whole : to_z w32 c.args.weight ≡ pos c.args.weight = omega (arith, ints) in
    let sum_fits = c.ranges.sum in
    let fits : FitsSigned w32 (c.args.sum +ℤ pos (c.args.weight / 2)) = omega (arith, ints) in
    let mean_fits : FitsSigned w32 c.div_euclid.result = search rules in
    let mean = simp (to_z-of_z, half, whole) at c.div_euclid.ensures in
    simp to_z-of_z mean

pub returns-clause-range : goal.returns-clause-range
returns-clause-range c =
    let half : to_z w32 (c.args.weight / 2) ≡ pos (c.args.weight / 2) = omega (arith, ints) in
    let whole : to_z w32 c.args.weight ≡ pos c.args.weight = omega (arith, ints) in
    let sum_fits = c.ranges.sum in
    let fits : FitsSigned w32 (c.args.sum +ℤ pos (c.args.weight / 2)) = omega (arith, ints) in
    let mean_fits : FitsSigned w32 c.div_euclid.result = search rules in
    let mean = simp (to_z-of_z, half, whole) at c.div_euclid.ensures in
    simp to_z-of_z (subst IsSample (sym mean) (mean_range c.args.sum c.args.weight c.requires.some c.requires.from c.requires.to))
