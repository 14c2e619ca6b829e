-- A shelf that stands for a state, and what is decided of an edit.
use Rattle.std.specs.Prelude.{◌≡◌, length, Option, Some, None}
use Rattle.hk_base.specs.declared.plain.Reason.{Reason}
use Rattle.hk_base.specs.declared.plain.Reason.TheVariants.{NoMemory}
use Rattle.hk_base.specs.declared.plain.What.{What}
use Rattle.hk_base.specs.declared.plain.What.TheVariants.{Done, Published, Refused}
use Rattle.hk_spec_matching.specs.Catalogue.{version}
use Rattle.hk_spec_runs.specs.OperatorState.{OperatorState, present}
use Rattle.hk_spec_settings.specs.Settings.{Rules}
use Rattle.hk_block.specs.Looker.{ShelfView}

-- The shelf stands for the state.
pub record IsOnShelf (rules : Rules) (view : ShelfView) (state : OperatorState) : Type 0 where
  pub present : view.present ≡ present rules state
  pub staged : view.staged ≡ state.staged
  pub base : view.base ≡ (length state.journal, version rules.limits state.journal (length state.journal))
  pub limits : view.limits ≡ rules.limits

-- what is published, and the limits, stay
pub record StaysPublished (old new : ShelfView) : Type 0 where
  pub base : new.base ≡ old.base
  pub limits : new.limits ≡ old.limits
  pub journal : new.journal ≡ old.journal
  pub home : new.home ≡ old.home

-- The reason is answered and all stays; or there is none, and the edit is staged, or memory is refused and all stays.
abbrev pub IsDecided : Option Reason → What → Type 0 → Type 0 → Type 0
IsDecided (Some reason) what Stays Staged = (what ≡ Refused reason) × Stays
IsDecided None Done Stays Staged = Staged
IsDecided None (Published v) Stays Staged = ⊥
IsDecided None (Refused reason) Stays Staged = (reason ≡ NoMemory) × Stays
