use Rattle.std.proofs.Common.{◌≡◌, ◌≤◌, ◌*◌, ◌^◌, take}
use Rattle.hk_spec_sound.specs.Spectrum.{complexes, energy}
use Rattle.hk_bands.proofs.energies.energy.Given as goal

abbrev pub invariant-loop-i : goal.invariant-loop-i
invariant-loop-i l = record {
  so_far : l.sum ≡ energy (take l.i (complexes l.re l.im));
  bounded : l.sum ≤ l.i * 2 ^ 69;
}
