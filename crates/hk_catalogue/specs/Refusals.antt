-- Why an edit is refused, by the ids and lengths of the songs that are there.
use Rattle.std.specs.Prelude.{ℕ, ◌-◌, ◌==◌, Bool, List, map, length, sum_by, Option, Some, None, Result, Ok, Err}
use Rattle.std.specs.List.{list_any}
use Rattle.hk_base.specs.declared.plain.Reason as reasons
use Rattle.hk_base.specs.declared.plain.Reason.TheVariants as reason
use Rattle.hk_spec_matching.specs.Catalogue.{Songs, Limits}
use Rattle.hk_spec_settings.specs.Refusals as rules
use Rattle.hk_spec_settings.specs.Refusals.{Stock, Objections}
use Rattle.hk_catalogue.specs.declared.refused.Refused.{Refused}
use Rattle.hk_catalogue.specs.declared.refused.Refused.TheVariants.{Duplicate, Short, Unknown, SongsFull, PositionsFull, VersionsFull}

-- ids with numbers of words, by rising id
abbrev pub SongLengths : Type 0
SongLengths = List (ℕ × ℕ)

abbrev pub lengths_of : Songs → SongLengths
lengths_of songs = map (λ entry. (entry.0, length entry.1.words)) songs

abbrev pub has_id : {A : Type 0} → List (ℕ × A) → ℕ → Bool
has_id entries id = list_any (λ entry. entry.0 == id) entries

abbrev pub words_in : SongLengths → ℕ
words_in lengths = sum_by (λ entry. entry.1) lengths

-- how many further words there may be
abbrev pub free : Limits → SongLengths → ℕ
free limits lengths = limits.positions - words_in lengths

-- how many words a song has at least
abbrev pub SHORTEST_SONG : ℕ
SHORTEST_SONG = 256

-- what a song with this id finds
abbrev pub stock_in : SongLengths → ℕ → Stock
stock_in lengths id = record { taken = has_id lengths id; songs = length lengths; words = words_in lengths }

-- what is said against a song of so many words, with the numbers of each refusal
abbrev pub objections : Limits → SongLengths → ℕ → ℕ → Objections Refused
objections limits lengths id words = record {
  duplicate = Duplicate id;
  short = Short words;
  songs_full = SongsFull limits.songs;
  positions_full = PositionsFull (free limits lengths) words;
}

-- The tests of each kind of edit in their order, with their numbers.
abbrev pub add_tests : Limits → SongLengths → ℕ → ℕ → List (Bool × Refused)
add_tests limits lengths id words = rules.add_tests limits SHORTEST_SONG (stock_in lengths id) words (objections limits lengths id words)

abbrev pub withdraw_tests : SongLengths → ℕ → List (Bool × Refused)
withdraw_tests lengths id = rules.withdraw_tests (has_id lengths id) (Unknown id)

abbrev pub seal_tests : Limits → ℕ → List (Bool × Refused)
seal_tests limits version = rules.publish_tests limits version (VersionsFull limits.versions)

-- the answer of a check
abbrev pub answered : Option Refused → Result (Unit {0}) Refused
answered None = Ok tt
answered (Some refused) = Err refused

abbrev pub refusal_in : Result (Unit {0}) Refused → Option Refused
refusal_in (Ok done) = None
refusal_in (Err refused) = Some refused

-- a refusal without its numbers
abbrev pub reason_of : Refused → reasons.Reason
reason_of (Duplicate id) = reason.Duplicate
reason_of (Short words) = reason.Short
reason_of (Unknown id) = reason.Unknown
reason_of (SongsFull limit) = reason.SongsFull
reason_of (PositionsFull free wanted) = reason.PositionsFull
reason_of (VersionsFull limit) = reason.VersionsFull
