-- A reading of a shared catalogue, as contracts see it.
use Rattle.std.specs.Prelude.{◌≡◌, ℕ, List, [], ◌∷◌, ◌++◌, length, Some, None, false}
use Rattle.std.specs.Option.{option_map_or}
use mathlib.Core.List.{IsPrefix}
use Rattle.logbook.specs.Pages.{Book}
use Rattle.hk_spec_matching.specs.Catalogue.{Limits, Journal, version}
use Rattle.hk_block.specs.Looker.{Home, LookerView}
use Rattle.hk_publish.specs.Journals.{past_of_journal}
use Rattle.hk_publish.specs.Edition.{Edition}
use Rattle.hk_publish.specs.Views.{View, Origin}
use Rattle.hk_publish.specs.Sharing.{IsWhole, origin_of}

-- Which start it comes from, the catalogue's limits, the journal that it saw last, the journal that each enter found, and a
-- version for each look.
pub record Known : Type 0 where
  pub home : Home
  pub limits : Limits
  pub seen : Journal
  pub entered : List Journal
  pub shown : List ℕ

-- what no other journal shares with one
abbrev pub home_of : Book → Home
home_of book = book.number ∷ book.log_name ∷ book.cells_name ∷ []

-- the limits stand in what tells one start from another
abbrev pub home_with : Limits → Home → Home
home_with limits home = limits.songs ∷ limits.positions ∷ limits.versions ∷ home

abbrev pub looker_home : Known → Home
looker_home known = home_with known.limits known.home

-- what it is as a looker: what it saw last, with all versions up to that
abbrev pub looker_of : Known → LookerView
looker_of known = record {
  at = length known.seen;
  past = past_of_journal known.limits known.seen;
  songs = version known.limits known.seen (length known.seen);
  room = known.limits.positions;
  shown = Some known.shown;
  shelf = None;
  still = false;
  home = Some (looker_home known);
}

abbrev pub no_origin : Origin
no_origin = record { book = record { number = 0; log_name = 0; cells_name = 0 }; limits = record { songs = 0; positions = 0; versions = 0 } }

abbrev pub the_origin : View → Origin
the_origin view = option_map_or (λ origin. origin) view.origin no_origin

abbrev pub known_at : View → Known
known_at view = record {
  home = home_of (the_origin view).book;
  limits = (the_origin view).limits;
  seen = view.seen;
  entered = view.entered;
  shown = view.shown;
}

-- a reading that has seen nothing
abbrev pub new_known : Home → Limits → Known
new_known home limits = record { home = home; limits = limits; seen = []; entered = []; shown = [] }

-- what stands in for what is known where nothing is
abbrev pub unknown : Known
unknown = new_known [] no_origin.limits

-- the origin is known
abbrev pub IsSettled : View → Type 0
IsSettled view = view.origin ≡ Some (the_origin view)

-- what is seen is the journal of this edition
pub record IsFound (view : View) (edition : Edition) : Type 0 where
  pub settled : IsSettled view
  pub origin : origin_of edition ≡ the_origin view
  pub whole : IsWhole edition
  pub seen : view.seen ≡ edition.journal

-- A look makes one enter. What is seen then is the whole published journal that the enter found, which begins with what was
-- seen. The answer is its version, and `shown` gains it.
pub record IsLook (old : Known) (answer : ℕ) (new : Known) : Type 0 where
  pub home : new.home ≡ old.home
  pub limits : new.limits ≡ old.limits
  pub answers : answer ≡ length new.seen
  pub grows : IsPrefix old.seen new.seen
  pub entered : new.entered ≡ old.entered ++ new.seen ∷ []
  pub shown : new.shown ≡ old.shown ++ answer ∷ []

-- One enter that is no look.
pub record CatchesUp (old new : Known) : Type 0 where
  pub home : new.home ≡ old.home
  pub limits : new.limits ≡ old.limits
  pub grows : IsPrefix old.seen new.seen
  pub entered : new.entered ≡ old.entered ++ new.seen ∷ []
  pub shown : new.shown ≡ old.shown

-- So many such enters.
pub record HasCaughtUp (old new : Known) : Type 0 where
  pub home : new.home ≡ old.home
  pub limits : new.limits ≡ old.limits
  pub grows : IsPrefix old.seen new.seen
  pub entered : (more : List Journal) × (new.entered ≡ old.entered ++ more)
  pub shown : new.shown ≡ old.shown

-- A note is learned. What is seen then is the whole published journal that the last enter found, which begins with what was
-- seen and with the note. `shown` stays.
pub record HasLearned (old : Known) (note : Journal) (new : Known) : Type 0 where
  pub home : new.home ≡ old.home
  pub limits : new.limits ≡ old.limits
  pub grows : IsPrefix old.seen new.seen
  pub has_note : IsPrefix note new.seen
  pub entered : (more : List Journal) × (new.entered ≡ old.entered ++ more ++ new.seen ∷ [])
  pub shown : new.shown ≡ old.shown
