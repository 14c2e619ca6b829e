-- A desk of a shared catalogue, as contracts see it.
use Rattle.std.specs.Prelude.{◌≡◌, ◌⊎◌, ℕ, Bool, nat_le, List, [], ◌∷◌, ◌++◌, length, Some, Result, Err, IsOkUnless, MatchBool}
use Rattle.std.specs.List.{All}
use Rattle.hk_spec_matching.specs.Catalogue as edits
use Rattle.hk_spec_matching.specs.Catalogue.{Limits, Journal, Songs, edited_by}
use Rattle.hk_block.specs.Looker.{Home, ShelfView}
use Rattle.hk_catalogue.specs.Register.{Register, Counts}
use Rattle.hk_catalogue.specs.declared.refused.Refused.TheVariants.{VersionsFull}
use Rattle.hk_catalogue.specs.declared.fault.StageFault.{StageFault}
use Rattle.hk_catalogue.specs.declared.fault.StageFault.TheVariants as faults
use Rattle.hk_journal.specs.Journals.{Reach}
use Rattle.hk_publish.specs.declared.edition.Operation.{Operation}
use Rattle.hk_publish.specs.Journals.{songs_of_journal, list_of}
use Rattle.hk_publish.specs.Edition.{Edition}
use Rattle.hk_publish.specs.Pending.{IsChange, changes_of}
use Rattle.hk_publish.specs.Sharing.{IsWhole}
use Rattle.hk_publish.specs.Known.{home_of, home_with, no_origin}

-- of which start it is, the limits, the published journal, and the edits that a publish would publish
pub record Holding : Type 0 where
  pub home : Home
  pub limits : Limits
  pub published : Journal
  pub staged : List edits.Edit

abbrev pub holding_at : Edition → List Operation → Holding
holding_at edition pending = record { home = home_of edition.book; limits = edition.limits; published = edition.journal; staged = changes_of pending }

-- a desk of which nothing is published or staged
abbrev pub new_holding : Home → Limits → Holding
new_holding home limits = record { home = home; limits = limits; published = []; staged = [] }

-- what stands in for a desk without a writer
abbrev pub no_holding : Holding
no_holding = new_holding [] no_origin.limits

-- the author is in this journal, and has added what is published, or the pending batch too
pub record IsAuthor (author : Reach) (edition : Edition) (pending : List Operation) : Type 0 where
  pub book : author.book ≡ edition.book
  pub journal : (author.journal ≡ edition.journal) ⊎ (author.journal ≡ edition.journal ++ changes_of pending ∷ [])

-- the roll is that of the songs with the pending edits
pub record IsKept (edition : Edition) (pending : List Operation) (roll : Register) : Type 0 where
  pub whole : IsWhole edition
  pub changes : All IsChange pending
  pub limits : roll.limits ≡ edition.limits
  pub version : roll.version ≡ edition.version
  pub counts : Counts roll (edited_by edition.limits edition.songs (changes_of pending))

-- the published version with its songs
abbrev pub base_of : Holding → ℕ × Songs
base_of desk = (length desk.published, songs_of_journal desk.limits desk.published)

abbrev pub shelf_of : Holding → ShelfView
shelf_of desk = record {
  present = edited_by desk.limits (songs_of_journal desk.limits desk.published) desk.staged;
  staged = desk.staged;
  limits = desk.limits;
  base = base_of desk;
  journal = Some (list_of desk.published);
  home = Some (home_with desk.limits desk.home);
}

-- so many versions were published that no further one may be
abbrev pub is_full : Holding → Bool
is_full desk = nat_le desk.limits.versions (length desk.published)

-- A publish is refused exactly there; else it answers, or memory is refused.
abbrev pub IsPublishAnswer : Holding → Result ℕ StageFault → Type 0
IsPublishAnswer desk result = MatchBool (is_full desk) (result ≡ Err (faults.Refused (VersionsFull desk.limits.versions))) (IsOkUnless result faults.NoMemory)

-- the desk with its staged edits published, all at once
abbrev pub after_publish : Holding → Holding
after_publish desk = record { home = desk.home; limits = desk.limits; published = desk.published ++ desk.staged ∷ []; staged = [] }
