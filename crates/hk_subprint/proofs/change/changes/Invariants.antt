use Rattle.std.proofs.Common.{◌≡◌, ◌<◌, ◌^◌, ℕ, pos, nat_abs, get_or, length}
use Rattle.hk_spec_sound.specs.Prints.{differences}
use Rattle.hk_subprint.proofs.change.changes.Given as goal

abbrev pub invariant-loop-m : goal.invariant-loop-m
invariant-loop-m l = record {
  all : length l.differences ≡ 32;
  same : (k : ℕ) → k < l.m → get_or l.differences k (pos 0) ≡ get_or (differences l.before l.now) k (pos 0);
  below : (k : ℕ) → k < l.m → nat_abs (get_or l.differences k (pos 0)) < 2 ^ 82;
}
