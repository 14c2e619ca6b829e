-- The stations that are left and those that are dealt are all.
use Rattle.std.proofs.Common.{◌≡◌, ◌≤◌, ◌<◌, ◌+◌, ◌++◌, List, map, length}
use Rattle.std.specs.Prelude.{vec_len, vec_capacity}
use Rattle.std.specs.List.{All}
use Rattle.hk_loop.specs.declared.seat.Seat.{Seat}
use Rattle.hk_seating.specs.Dealing.{dealt}
use Rattle.hk_seating.specs.Seating.{gates_of, rows_of, seats_of}
use Rattle.hk_seating.proofs.seating.seat_stations.Given as goal

abbrev pub invariant-loop-link : goal.invariant-loop-link
invariant-loop-link g l = record {
  seated : (rest : List (Seat _ _ _))
      × (seats_of l.pairs.items l.stations.items l.views.items ++ rest ≡ seats_of l.fn.pairs.items l.fn.stations.items l.fn.views.items)
      × (rows_of l.crew.items ≡ dealt (length l.crew.items) (length l.pairs.items) rest)
      × (length l.pairs.items + length rest ≡ length l.fn.pairs.items);
  manned : 0 < length l.crew.items;
  room : All (λ worker. length l.fn.pairs.items ≤ vec_capacity worker.seats) l.crew.items;
  gates : gates_of l.crew.items ≡ gates_of l.fn.crew.items;
  scratches : map (λ worker. worker.scratch) l.crew.items ≡ map (λ worker. worker.scratch) l.fn.crew.items;
  stations : length l.stations.items ≡ length l.pairs.items;
  views : length l.views.items ≡ length l.pairs.items;
  pairs_room : vec_capacity l.pairs ≡ vec_capacity l.fn.pairs;
  stations_room : vec_capacity l.stations ≡ vec_capacity l.fn.stations;
  views_room : vec_capacity l.views ≡ vec_capacity l.fn.views;
}

abbrev pub decreases-loop-link : goal.decreases-loop-link
decreases-loop-link g l = vec_len l.pairs
