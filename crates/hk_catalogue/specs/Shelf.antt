-- What a shelf answers to an edit, and what it is after one.
use Rattle.std.specs.Prelude.{◌≡◌, ⊤, List, [], ◌∷◌, ◌++◌, filter_map, Option, Some, None, Result, Ok, Err}
use Rattle.hk_spec_matching.specs.Catalogue as edits
use Rattle.hk_spec_matching.specs.Catalogue.{edited}
use Rattle.hk_block.specs.Looker.{ShelfView}
use Rattle.hk_catalogue.specs.Refusals.{lengths_of}
use Rattle.hk_catalogue.specs.Register.{Register, refusal}
use Rattle.hk_catalogue.specs.Shelves.{song_of}
use Rattle.hk_catalogue.specs.declared.edit.Edit.{Edit}
use Rattle.hk_catalogue.specs.declared.edit.Edit.TheVariants.{Add, Withdraw, Seal}
use Rattle.hk_catalogue.specs.declared.refused.Refused.{Refused}
use Rattle.hk_catalogue.specs.declared.fault.StageFault.{StageFault}
use Rattle.hk_catalogue.specs.declared.fault.StageFault.TheVariants as faults

-- an edit that is no Seal
abbrev pub IsChange : Edit → Type 0
IsChange (Add song) = ⊤
IsChange (Withdraw id) = ⊤
IsChange Seal = ⊥

-- the change that an edit is; a Seal is none
abbrev pub change_of : Edit → Option edits.Edit
change_of (Add song) = Some (edits.Add song.id (song_of song.words))
change_of (Withdraw id) = Some (edits.Withdraw id)
change_of Seal = None

abbrev pub changes_of : List Edit → List edits.Edit
changes_of staged = filter_map change_of staged

-- the roll that has the ids and lengths of the songs with the staged edits
abbrev pub register_of : ShelfView → Register
register_of view = record { lengths = lengths_of view.present; limits = view.limits; version = view.base.0 }

-- why an edit is refused
abbrev pub refusal_of : ShelfView → Edit → Option Refused
refusal_of view edit = refusal (register_of view) edit

abbrev pub with_change : ShelfView → edits.Edit → ShelfView
with_change view change = record view { present = edited view.limits view.present change; staged = view.staged ++ change ∷ [] }

-- the shelf with an edit staged
abbrev pub with_staged : ShelfView → Edit → ShelfView
with_staged view (Add song) = with_change view (edits.Add song.id (song_of song.words))
with_staged view (Withdraw id) = with_change view (edits.Withdraw id)
with_staged view Seal = view

-- An edit that can't be done is refused; one that can is staged, or memory is refused.
abbrev pub IsAnswer : Option Refused → Result (Unit {0}) StageFault → Type 0
IsAnswer (Some refused) result = result ≡ Err (faults.Refused refused)
IsAnswer None (Ok done) = ⊤
IsAnswer None (Err (faults.Refused refused)) = ⊥
IsAnswer None (Err faults.NoMemory) = ⊤
