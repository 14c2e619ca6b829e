-- The first station whose version is over what was published.
use Rattle.std.specs.Prelude.{ℕ, nat_le, if◌then◌else◌, List, fold, Option, Some, None}
use Rattle.hk_station.specs.Hearing.{station_number, version_of}
use Rattle.hk_station.specs.declared.station.Station.{Station}
use Rattle.hk_loop.specs.declared.seat.Seat.{Seat}
use Rattle.hk_monitor.specs.declared.crew.Crewman.{Crewman}
use Rattle.hk_monitor.specs.declared.crew.Mismatch.{Mismatch}

-- what is told of a station whose version is over so many
abbrev pub over_of : ℕ → Station → Option Mismatch
over_of published station =
    if nat_le (version_of station) published then None else Some (record { station = station_number station; seen = version_of station; desk = published })

-- of two the one with the lesser number
abbrev pub earlier : Option Mismatch → Option Mismatch → Option Mismatch
earlier None other = other
earlier (Some m) None = Some m
earlier (Some m) (Some other) = if nat_le m.station other.station then Some m else Some other

module _ {K S V : Type 0} where
  abbrev pub with_seat : ℕ → Option Mismatch → Seat K S V → Option Mismatch
  with_seat published found seat = earlier found (over_of published seat.station)

  -- the first of what was found and of these seats
  abbrev pub first_of_seats : ℕ → Option Mismatch → List (Seat K S V) → Option Mismatch
  first_of_seats published found seats = fold (with_seat published) found seats

  -- the first of what was found and of all seats of these workers
  abbrev pub first_of_crew : {G : Type 0} → ℕ → Option Mismatch → List (Crewman K S G V) → Option Mismatch
  first_of_crew published found crew = fold (λ m worker. first_of_seats published m worker.seats.items) found crew
