use Rattle.std.proofs.Common.{◌≡◌, map}
use Rattle.hk_outside.specs.declared.place.Place.TheVariants as places
use Rattle.hk_outside.proofs.memory_door.inside.Given as goal

-- those that were taken out are all there
abbrev pub invariant-loop-object : goal.invariant-loop-object
invariant-loop-object g l = l.all.items ≡ map places.Inside l.yielded
