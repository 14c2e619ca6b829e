-- A refused try leaves the reader as it was.
use Rattle.std.proofs.Common.{◌≡◌}
use Rattle.left_right.specs.Sides.{view}
use Rattle.hk_publish.proofs.visitor.enter_as.Given as goal

abbrev pub invariant-loop : goal.invariant-loop
invariant-loop g l = record {
  place : l.reader.place.id ≡ l.fn.reader.place.id;
  view : view l.reader.place ≡ view l.fn.reader.place;
}
