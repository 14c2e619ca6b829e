use Rattle.std.proofs.Common.{◌≡◌, ◌-◌, ◌*◌, ◌^◌, ◌≤◌, List, length, map}
use Rattle.hk_spec_sound.specs.Circle.{quarter}
use Rattle.hk_spec_sound.specs.Spectrum.{Complex, complexes, transform, AreBelow}
use Rattle.hk_transform.specs.Parts.{joined_lists, parts_of}
use Rattle.hk_transform.proofs.stages.ten_stages.Given as goal

-- Before a stage the blocks have the transforms of the parts with the digits that are left.
abbrev pub invariant-loop-before : goal.invariant-loop-before
invariant-loop-before l = record {
  few : l.before ≤ 10;
  half : l.half ≡ 2 ^ l.before;
  re_len : length l.re ≡ 2048;
  im_len : length l.im ≡ 2048;
  spectrum : (items : List Complex) → length items ≡ 2048 → complexes l.fn.re l.fn.im ≡ joined_lists (parts_of 11 items)
      → complexes l.re l.im ≡ joined_lists (map (transform (quarter 9) l.before) (parts_of (11 - l.before) items));
  re_below : AreBelow (3 ^ l.before * 32769) l.re;
  im_below : AreBelow (3 ^ l.before * 32769) l.im;
}
