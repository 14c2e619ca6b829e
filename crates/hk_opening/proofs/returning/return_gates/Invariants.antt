-- The gates from here on are back.
use Rattle.std.proofs.Common.{◌≡◌, ◌≤◌, ◌<◌, ℕ, take, length, Some}
use Rattle.std.specs.Prelude.{slice_get, vec_len}
use Rattle.hk_outside.specs.declared.door.Held.TheVariants.{Back}
use Rattle.hk_opening.specs.Handing.{SameDoor}
use Rattle.hk_opening.proofs.returning.return_gates.Given as goal

abbrev pub invariant-loop-gate : goal.invariant-loop-gate
invariant-loop-gate g l = record {
  left : l.gates.items ≡ take (length l.gates.items) l.fn.gates.items;
  few : length l.gates.items ≤ length l.fn.gates.items;
  back : (w : ℕ) (gate : _) → length l.gates.items ≤ w → slice_get l.fn.gates.items w ≡ Some gate → ((g.D.Door.doorway l.door).gates w).held ≡ Back;
  told : (w : ℕ) (gate : _) → length l.gates.items ≤ w → slice_get l.fn.gates.items w ≡ Some gate → ((g.D.Door.doorway l.door).gates w).faults ≡ g.D.Gate.Gate.faults gate;
  front : (w : ℕ) → w < length l.gates.items → (g.D.Door.doorway l.door).gates w ≡ (g.D.Door.doorway l.fn.door).gates w;
  others : (w : ℕ) → length l.fn.gates.items ≤ w → (g.D.Door.doorway l.door).gates w ≡ (g.D.Door.doorway l.fn.door).gates w;
  same : SameDoor (g.D.Door.doorway l.fn.door) (g.D.Door.doorway l.door);
  operator : (g.D.Door.doorway l.door).operator ≡ (g.D.Door.doorway l.fn.door).operator;
  stations : (n : ℕ) → (g.D.Door.doorway l.door).stations n ≡ (g.D.Door.doorway l.fn.door).stations n;
}

abbrev pub decreases-loop-gate : goal.decreases-loop-gate
decreases-loop-gate g l = vec_len l.gates
