use Rattle.std.proofs.Common.{◌≡◌, ◌<◌, ◌^◌, ℕ, get_or, length}
use Rattle.hk_spec_sound.specs.Spectrum.{complexes, energies}
use Rattle.hk_spec_sound.specs.Prints.{full_analysis}
use Rattle.hk_bands.proofs.energies.band_energies.Given as goal

abbrev pub invariant-loop-m : goal.invariant-loop-m
invariant-loop-m l = record {
  all : length l.band ≡ 33;
  bands : (k : ℕ) → k < l.m → get_or l.band k 0 ≡ get_or (energies full_analysis.edges (complexes l.re l.im)) k 0;
  below : (k : ℕ) → k < l.m → get_or l.band k 0 < 2 ^ 80;
}
