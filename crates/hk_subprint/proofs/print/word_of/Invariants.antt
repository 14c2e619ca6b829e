use Rattle.std.proofs.Common.{◌≡◌, drop}
use Rattle.hk_spec_sound.specs.Numbers.{number_of_bits}
use Rattle.hk_subprint.proofs.Signs.{signs}
use Rattle.hk_subprint.proofs.print.word_of.Given as goal

abbrev pub invariant-loop-m : goal.invariant-loop-m
invariant-loop-m l = l.word ≡ number_of_bits (drop l.m (signs l.d))
