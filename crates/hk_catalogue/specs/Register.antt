-- A roll, as contracts see it.
use Rattle.std.specs.Prelude.{◌≡◌, ℕ, ◌+◌, ◌==◌, not, [], length, filter, Option}
use Rattle.std.specs.Ordering.{nat_cmp}
use Rattle.std.specs.FinMap.{put}
use Rattle.hk_spec_streams.specs.Pieces.{first_that_holds}
use Rattle.hk_spec_matching.specs.Catalogue as edits
use Rattle.hk_spec_matching.specs.Catalogue.{Songs, Limits, edited}
use Rattle.hk_spec_settings.specs.Settings.{Rules}
use Rattle.hk_catalogue.specs.Refusals.{SongLengths, lengths_of, add_tests, withdraw_tests, seal_tests}
use Rattle.hk_catalogue.specs.declared.refused.Refused.{Refused}
use Rattle.hk_catalogue.specs.declared.edit.Edit.{Edit}
use Rattle.hk_catalogue.specs.declared.edit.Edit.TheVariants.{Add, Withdraw, Seal}

-- ids and lengths of the songs that a publish would give, the limits, and how many versions were published
pub record Register : Type 0 where
  pub lengths : SongLengths
  pub limits : Limits
  pub version : ℕ

abbrev pub new_register : Limits → Register
new_register limits = record { lengths = []; limits = limits; version = 0 }

-- why an edit is refused
abbrev pub refusal : Register → Edit → Option Refused
refusal roll (Add song) = first_that_holds (add_tests roll.limits roll.lengths song.id (length song.words))
refusal roll (Withdraw id) = first_that_holds (withdraw_tests roll.lengths id)
refusal roll Seal = first_that_holds (seal_tests roll.limits roll.version)

-- the roll with an edit
abbrev pub noted : Register → Edit → Register
noted roll (Add song) = record roll { lengths = put nat_cmp song.id (length song.words) roll.lengths }
noted roll (Withdraw id) = record roll { lengths = filter (λ entry. not (entry.0 == id)) roll.lengths }
noted roll Seal = record roll { version = roll.version + 1 }

-- the songs after an edit; a song that is added is matched with so many errors
abbrev pub songs_after : Limits → ℕ → Songs → Edit → Songs
songs_after limits errors songs (Add song) = edited limits songs (edits.Add song.id (record { words = song.words; limit = errors }))
songs_after limits errors songs (Withdraw id) = edited limits songs (edits.Withdraw id)
songs_after limits errors songs Seal = songs

-- the roll has the ids and lengths of these songs
abbrev pub Counts : Register → Songs → Type 0
Counts roll songs = roll.lengths ≡ lengths_of songs

-- the rules of a run that has the roll's limits
pub record AreRulesOf (rules : Rules) (roll : Register) : Type 0 where
  pub block_size : rules.setting.block.size ≡ 256
  pub limits : rules.limits ≡ roll.limits
