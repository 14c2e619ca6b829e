use Rattle.std.proofs.Common.{◌≡◌, ◌<◌, ◌%◌, ◌^◌, ℕ, List, length, get_or}
use Rattle.hk_spec_sound.specs.Circle.{quarter}
use Rattle.hk_spec_sound.specs.Spectrum.{Complex, complexes, transform, AreBelow}
use Rattle.hk_transform.specs.Parts.{halves_of}
use Rattle.hk_transform.proofs.Joining.{at}
use Rattle.hk_transform.proofs.whole.whole_stage.Given as goal

-- of each half the bins before this one are there
abbrev pub invariant-loop-k : goal.invariant-loop-k
invariant-loop-k l = record {
  re_len : length l.re ≡ 2048;
  im_len : length l.im ≡ 2048;
  bins : (items : List Complex) → length items ≡ 2048 → complexes l.halves_re l.halves_im ≡ halves_of 10 items
      → (j : ℕ) (d : Complex) → j < 2048 → j % 1024 < l.k → at l.re l.im j ≡ get_or (transform (quarter 9) 11 items) j d;
  re_below : AreBelow (2 ^ 34) l.re;
  im_below : AreBelow (2 ^ 34) l.im;
}
