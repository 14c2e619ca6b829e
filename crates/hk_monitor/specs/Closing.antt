-- The closing look, and what it leaves.
use Rattle.std.specs.Prelude.{◌≡◌, ℕ, List, [], ◌∷◌, ◌++◌, length}
use mathlib.Core.List.{IsPrefix}
use Rattle.hk_spec_matching.specs.Catalogue.{Journal}
use Rattle.hk_loop.specs.declared.seat.Seat.{Seat}
use Rattle.hk_loop.specs.Rows.{Each}
use Rattle.hk_publish.specs.Known.{Known}
use Rattle.hk_monitor.specs.declared.crew.Crewman.{Crewman}

-- A reading has learned what was published, and has looked once more.
pub record LooksAgain (published : Journal) (old new : Known) : Type 0 where
  pub home : new.home ≡ old.home
  pub limits : new.limits ≡ old.limits
  pub grows : IsPrefix old.seen new.seen
  pub told : IsPrefix published new.seen
  pub shown : new.shown ≡ old.shown ++ length new.seen ∷ []

module _ {K S : Type 0} where
  -- So has the reading of a seat, and the rest of the seat stays.
  pub record ClosesSeat (published : Journal) (old new : Seat K S Known) : Type 0 where
    pub link : new.link ≡ old.link
    pub log : new.log ≡ old.log
    pub station : new.station ≡ old.station
    pub looks : LooksAgain published old.view new.view

  -- So have all of a worker, and its gate and its scratch stay.
  pub record ClosesSeats {G : Type 0} (published : Journal) (old new : Crewman K S G Known) : Type 0 where
    pub gate : new.gate ≡ old.gate
    pub scratch : new.scratch ≡ old.scratch
    pub seats : Each (ClosesSeat published) old.seats.items new.seats.items
