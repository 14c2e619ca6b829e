use Rattle.std.proofs.Common.{◌^◌}
use Rattle.hk_spec_sound.specs.Spectrum.{AreBelow}
use Rattle.hk_bands.proofs.tests.fill.Given as goal

abbrev pub invariant-loop-k : goal.invariant-loop-k
invariant-loop-k l = AreBelow (2 ^ 34) l.parts
