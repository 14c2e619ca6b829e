-- The rule of a shared catalogue, and what its steps tell.
use Rattle.std.specs.Prelude.{◌≡◌, ℕ, [], ◌∷◌, ◌++◌, List, length, Some}
use Rattle.std.specs.Option.{IfSome}
use mathlib.Core.Option.{some}
use mathlib.Core.List.{IsPrefix}
use lib.ListN.{get_elem?}
use Rattle.hk_spec_matching.specs.Catalogue.{Rise}
use Rattle.hk_publish.specs.Journals.{songs_of_journal}
use Rattle.hk_publish.specs.Edition.{Edition}
use Rattle.hk_publish.specs.Views.{View, Origin}

abbrev pub origin_of : Edition → Origin
origin_of edition = record { book = edition.book; limits = edition.limits }

-- the edition has the songs and the version of its journal
pub record IsWhole (edition : Edition) : Type 0 where
  pub songs : edition.songs ≡ songs_of_journal edition.limits edition.journal
  pub version : edition.version ≡ length edition.journal

-- What someone knows is right of this edition: what was seen begins the journal, and the versions of the looks don't fall, nor
-- is the last one above the version of what was seen.
pub record Stands (edition : Edition) (view : View) : Type 0 where
  pub known : IfSome view.origin (λ origin. origin ≡ origin_of edition)
  pub seen : IsPrefix view.seen edition.journal
  pub shown : Rise 0 view.shown (length view.seen)

-- The rule: the edition is that of its journal, and what each one knows is right.
pub record Keeps (edition : Edition) (views : List View) : Type 0 where
  pub whole : IsWhole edition
  pub each : (seat : ℕ) (view : View) → get_elem? views seat ≡ some view → Stands edition view

-- One enter: what is seen is the journal of the edition that was found, all of it, and begins with what was seen.
pub record Finds (old : View) (found : Edition) (new : View) : Type 0 where
  pub origin : new.origin ≡ old.origin
  pub known : IfSome old.origin (λ origin. origin ≡ origin_of found)
  pub whole : IsWhole found
  pub seen : new.seen ≡ found.journal
  pub entered : new.entered ≡ old.entered ++ found.journal ∷ []
  pub grows : IsPrefix old.seen new.seen

-- an enter of a look: the version that was found is shown
pub record Enters (old : View) (found : Edition) (new : View) : Type 0 where
  pub finds : Finds old found new
  pub shown : new.shown ≡ old.shown ++ found.version ∷ []

-- an enter to catch up: nothing is shown
pub record Catches (old : View) (found : Edition) (new : View) : Type 0 where
  pub finds : Finds old found new
  pub shown : new.shown ≡ old.shown

-- the desk learns the origin of what it shows, and nothing else
abbrev pub Meets : View → Edition → View → Type 0
Meets old found new = new ≡ record old { origin = Some (origin_of found) }

-- what someone knows of the origin alone
abbrev pub origin_in : View → View
origin_in view = record { origin = view.origin; seen = []; entered = []; shown = [] }

abbrev pub with_origin : View → View → View
with_origin view note = record view { origin = note.origin }
