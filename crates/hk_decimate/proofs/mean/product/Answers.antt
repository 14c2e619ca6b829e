use Rattle.std.proofs.Common.{◌≡◌, ◌*ℤ◌, pos, w32, FitsSigned, to_z, arith}
use Rattle.std.proofs.lemmas.Int.{to_z-of_z, ints}
use Rattle.hk_decimate.proofs.Sums.{product_range}
use Rattle.hk_decimate.proofs.mean.product.Goals as goal

pub returns-clause-from : goal.returns-clause-from
returns-clause-from c =
    let w = c.args.weight in
    let range = product_range w c.args.x c.requires.sample in
    let x_fits = c.ranges.x in
    let same : to_z w32 w ≡ pos w = omega (arith, ints) in
    let fits : FitsSigned w32 (pos w *ℤ c.args.x) = omega (arith, ints, range.0, range.1) in
    simp (to_z-of_z, same) range.0

pub returns-clause-to : goal.returns-clause-to
returns-clause-to c =
    let w = c.args.weight in
    let range = product_range w c.args.x c.requires.sample in
    let x_fits = c.ranges.x in
    let same : to_z w32 w ≡ pos w = omega (arith, ints) in
    let fits : FitsSigned w32 (pos w *ℤ c.args.x) = omega (arith, ints, range.0, range.1) in
    simp (to_z-of_z, same) range.1
