-- What one who shares a catalogue knows of it.
use Rattle.std.specs.Prelude.{ℕ, List, [], Option, None}
use Rattle.logbook.specs.Pages.{Book}
use Rattle.hk_spec_matching.specs.Catalogue.{Limits, Journal}

-- which journal it is, and the limits
pub record Origin : Type 0 where
  pub book : Book
  pub limits : Limits

-- the origin once it is known, the journal that was seen last, the journal that each enter found, and a version for each look
pub record View : Type 0 where
  pub origin : Option Origin
  pub seen : Journal
  pub entered : List Journal
  pub shown : List ℕ

abbrev pub new_view : View
new_view = record { origin = None; seen = []; entered = []; shown = [] }
