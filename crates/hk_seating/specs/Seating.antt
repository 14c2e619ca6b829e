-- Stations in the seats of a crew.
use Rattle.std.specs.Prelude.{◌≡◌, ℕ, List, [], ◌∷◌, map, length}
use Rattle.hk_station.specs.declared.station.Station.{Station}
use Rattle.hk_loop.specs.declared.seat.Seat.{Seat}
use Rattle.hk_monitor.specs.declared.crew.Crewman.{Crewman}
use Rattle.hk_seating.specs.Dealing.{dealt}

module _ {K S V : Type 0} where
  -- the seats of stations, from their links and logs, their machines and their views
  abbrev pub seats_of : List (K × S) → List Station → List V → List (Seat K S V)
  seats_of (pair ∷ pairs) (station ∷ stations) (view ∷ views) =
      record { link = pair.0; log = pair.1; station = station; view = view } ∷ seats_of pairs stations views
  seats_of _ _ _ = []

  -- These are the links and logs, the stations and the views of these seats.
  pub record AreOf (seats : List (Seat K S V)) (pairs : List (K × S)) (stations : List Station) (views : List V) : Type 0 where
    pub pairs_are : pairs ≡ map (λ seat. (seat.link, seat.log)) seats
    pub stations_are : stations ≡ map (λ seat. seat.station) seats
    pub views_are : views ≡ map (λ seat. seat.view) seats

  module _ {G : Type 0} where
    -- the gate of each worker
    abbrev pub gates_of : List (Crewman K S G V) → List G
    gates_of crew = map (λ worker. worker.gate) crew

    -- the seats of each worker
    abbrev pub rows_of : List (Crewman K S G V) → List (List (Seat K S V))
    rows_of crew = map (λ worker. worker.seats.items) crew

    -- Station n of these sits at worker n mod so many workers, and each worker's last seat is its station of the least number.
    abbrev pub AreSeated : List (Seat K S V) → List (Crewman K S G V) → Type 0
    AreSeated seats crew = rows_of crew ≡ dealt (length crew) 0 seats

    -- so many stations sit so
    abbrev pub HasSeated : ℕ → List (Crewman K S G V) → Type 0
    HasSeated count crew = (seats : List (Seat K S V)) × AreSeated seats crew × (length seats ≡ count)

    -- These came out of the seats of so many stations.
    abbrev pub CameOut : ℕ → List (Crewman K S G V) → List (K × S) → List Station → List V → Type 0
    CameOut count crew pairs stations views =
        (seats : List (Seat K S V)) → AreSeated seats crew → length seats ≡ count → AreOf seats pairs stations views
