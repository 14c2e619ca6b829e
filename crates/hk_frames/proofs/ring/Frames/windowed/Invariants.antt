-- The places before n have their samples, weighted.
use Rattle.std.proofs.Common.{◌≡◌, ◌<◌, ◌≤◌, ℕ, pos, ◌*ℤ◌, get_or, length, nat_abs}
use Rattle.hk_spec_sound.specs.Numbers.{scaled_down}
use Rattle.hk_spec_sound.specs.Circle.{quarter, hann_of}
use Rattle.hk_frames.proofs.ring.Frames.windowed.Given as goal

abbrev pub invariant-loop-n : goal.invariant-loop-n
invariant-loop-n l = record {
  size : length l.into ≡ 2048;
  value : (k : ℕ) → k < l.n → get_or l.into k (pos 0) ≡ scaled_down (get_or l.self.last k (pos 0) *ℤ hann_of (quarter 9) k);
  within : (k : ℕ) → k < l.n → nat_abs (get_or l.into k (pos 0)) ≤ 32768;
}
