use Rattle.std.proofs.Common.{◌≡◌, ◌*◌, take, sum, pos, neg_ℤ, ◌≤ℤ◌}
use Rattle.hk_spec_sound.specs.Numbers.{total}
use Rattle.hk_spec_sound.specs.Samples.{weights}
use Rattle.hk_decimate.proofs.Sums.{products}
use Rattle.hk_decimate.proofs.mean.weighted_mean.Given as goal

abbrev pub invariant-loop-k : goal.invariant-loop-k
invariant-loop-k l = record {
  so_far : l.sum ≡ total (take l.k (products (weights l.factor) l.window));
  from : neg_ℤ (pos (32768 * sum (take l.k (weights l.factor)))) ≤ℤ l.sum;
  to : l.sum ≤ℤ pos (32767 * sum (take l.k (weights l.factor)));
}
