use Rattle.std.proofs.Common.{◌≡◌, ◌<◌, ℕ, pos, length, get_or}
use Rattle.hk_transform.specs.Parts.{reversed}
use Rattle.hk_transform.proofs.order.load_reversed.Given as goal

abbrev pub invariant-loop-k : goal.invariant-loop-k
invariant-loop-k l = record {
  len : length l.into ≡ 2048;
  done : (j : ℕ) → j < l.k → get_or l.into j (pos 0) ≡ get_or l.frame (reversed 11 j) (pos 0);
}
