-- The stations below this number are out, and the others sit in their seats as if they were dealt from it on.
use Rattle.std.proofs.Common.{◌≡◌, ◌≤◌, ◌<◌, List, take, drop, length}
use Rattle.std.specs.Prelude.{vec_capacity}
use Rattle.hk_loop.specs.declared.seat.Seat.{Seat}
use Rattle.hk_seating.specs.Dealing.{dealt}
use Rattle.hk_seating.specs.Seating.{gates_of, rows_of, AreOf, AreSeated}
use Rattle.hk_seating.proofs.unseating.unseat_stations.Given as goal

abbrev pub invariant-loop-number : goal.invariant-loop-number
invariant-loop-number g l = record {
  seated : (seats : List (Seat _ _ _)) → AreSeated seats l.fn.crew.items → length seats ≡ l.fn.count
      → rows_of l.crew.items ≡ dealt (length l.crew.items) l.number (drop l.number seats);
  out : (seats : List (Seat _ _ _)) → AreSeated seats l.fn.crew.items → length seats ≡ l.fn.count
      → AreOf (take l.number seats) l.pairs.items l.stations.items l.views.items;
  manned : 0 < length l.crew.items;
  gates : gates_of l.crew.items ≡ gates_of l.fn.crew.items;
  pairs : length l.pairs.items ≡ l.number;
  stations : length l.stations.items ≡ l.number;
  views : length l.views.items ≡ l.number;
  pairs_room : l.fn.count ≤ vec_capacity l.pairs;
  stations_room : l.fn.count ≤ vec_capacity l.stations;
  views_room : l.fn.count ≤ vec_capacity l.views;
}
