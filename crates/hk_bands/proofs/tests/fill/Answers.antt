use Rattle.std.proofs.Common.{◌^◌, arith}
use Rattle.hk_spec_sound.proofs.Spectra.{zeros_are_below}
use Rattle.hk_bands.proofs.tests.fill.Goals as goal

pub loop-k-init : goal.loop-k-init
loop-k-init c = zeros_are_below (2 ^ 34) 2048 (omega arith)
