use Rattle.std.proofs.Common.{◌≡◌, ◌≤◌, length, ap}
use Rattle.std.specs.Prelude.{vec_capacity}
use Rattle.hk_seating.proofs.Lists.{same_all}
use Rattle.hk_seating.proofs.Seats.{rows_empty}
use Rattle.hk_seating.proofs.seating.seat_all.Goals as goal

pub seat_stations-requires-clause-empty : goal.seat_stations-requires-clause-empty
seat_stations-requires-clause-empty g c =
    rows_empty c.man_gates.new.crew.items (same_all (λ worker. worker.seats) (λ bench. bench.seats) (λ seats. length seats.items ≡ 0) _ _ c.man_gates.ensures.seats (λ k d inside. ap length (c.requires.empty k d inside)))

pub seat_stations-requires-clause-room : goal.seat_stations-requires-clause-room
seat_stations-requires-clause-room g c =
    same_all (λ worker. worker.seats) (λ bench. bench.seats) (λ seats. length c.args.pairs.now.items ≤ vec_capacity seats) c.man_gates.new.crew.items c.args.benches.now.items c.man_gates.ensures.seats c.requires.seats_room
