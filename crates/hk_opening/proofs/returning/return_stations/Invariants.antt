-- The stations from here on are back.
use Rattle.std.proofs.Common.{◌≡◌, ◌≤◌, ◌<◌, ℕ, take, length, Some}
use Rattle.std.specs.Prelude.{slice_get, vec_len}
use Rattle.hk_outside.specs.declared.door.Held.TheVariants.{Back}
use Rattle.hk_opening.specs.Handing.{SameDoor}
use Rattle.hk_opening.proofs.returning.return_stations.Given as goal

abbrev pub invariant-loop-link : goal.invariant-loop-link
invariant-loop-link g l = record {
  left : l.stations.items ≡ take (length l.stations.items) l.fn.stations.items;
  few : length l.stations.items ≤ length l.fn.stations.items;
  back : (n : ℕ) (pair : _) → length l.stations.items ≤ n → slice_get l.fn.stations.items n ≡ Some pair → ((g.D.Door.doorway l.door).stations n).held ≡ Back;
  link_told : (n : ℕ) (pair : _) → length l.stations.items ≤ n → slice_get l.fn.stations.items n ≡ Some pair
      → ((g.D.Door.doorway l.door).stations n).gives ≡ record { bytes = g.D.Link.Link.left pair.0; faults = g.D.Link.Link.faults pair.0 };
  log_told : (n : ℕ) (pair : _) → length l.stations.items ≤ n → slice_get l.fn.stations.items n ≡ Some pair
      → ((g.D.Door.doorway l.door).stations n).takes ≡ record { bytes = g.D.Log.Sink.written pair.1; faults = g.D.Log.Sink.faults pair.1 };
  front : (n : ℕ) → n < length l.stations.items → (g.D.Door.doorway l.door).stations n ≡ (g.D.Door.doorway l.fn.door).stations n;
  others : (n : ℕ) → length l.fn.stations.items ≤ n → (g.D.Door.doorway l.door).stations n ≡ (g.D.Door.doorway l.fn.door).stations n;
  same : SameDoor (g.D.Door.doorway l.fn.door) (g.D.Door.doorway l.door);
  operator : (g.D.Door.doorway l.door).operator ≡ (g.D.Door.doorway l.fn.door).operator;
  gates : (w : ℕ) → (g.D.Door.doorway l.door).gates w ≡ (g.D.Door.doorway l.fn.door).gates w;
}

abbrev pub decreases-loop-link : goal.decreases-loop-link
decreases-loop-link g l = vec_len l.stations
