use Rattle.std.proofs.Common.{◌≡◌, drop}
use Rattle.hk_spec_sound.specs.Numbers.{number_of_bits}
use Rattle.hk_weak.proofs.WeakBits.{weak_bits}
use Rattle.hk_weak.proofs.ranks.weakest.Given as goal

abbrev pub invariant-loop-m : goal.invariant-loop-m
invariant-loop-m l = l.mask ≡ number_of_bits (drop l.m (weak_bits l.k l.d))
