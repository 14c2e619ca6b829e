-- Why an edit is refused, said once for all that refuse one.
use Rattle.std.specs.Prelude.{ℕ, ◌-◌, Bool, not, nat_lt, nat_le, List, [], ◌∷◌, length}
use Rattle.hk_base.specs.declared.plain.Reason.{Reason}
use Rattle.hk_base.specs.declared.plain.Reason.TheVariants.{Duplicate, Short, SongsFull, PositionsFull}
use Rattle.hk_spec_matching.specs.Catalogue.{Songs, Limits, has_song, positions_of}
use Rattle.hk_spec_settings.specs.Settings.{Rules}

-- what an edit finds in a catalogue: whether its id is there, how many songs, and how many words of all songs
pub record Stock : Type 0 where
  pub taken : Bool
  pub songs : ℕ
  pub words : ℕ

-- how many further words there may be
abbrev pub free : Limits → Stock → ℕ
free limits stock = limits.positions - stock.words

-- what is said against a song that is added: its id is there, it is short, no further song may be, or its words have no room
pub record Objections (A : Type 0) : Type 0 where
  pub duplicate : A
  pub short : A
  pub songs_full : A
  pub positions_full : A

-- the tests of a song of so many words in their order; `least` is the length of the shortest song
abbrev pub add_tests : {A : Type 0} → Limits → ℕ → Stock → ℕ → Objections A → List (Bool × A)
add_tests limits least stock words say =
    (stock.taken, say.duplicate)
    ∷ (nat_lt words least, say.short)
    ∷ (nat_le limits.songs stock.songs, say.songs_full)
    ∷ (nat_lt (free limits stock) words, say.positions_full)
    ∷ []

-- the test of a song that is withdrawn
abbrev pub withdraw_tests : {A : Type 0} → Bool → A → List (Bool × A)
withdraw_tests taken unknown = (not taken, unknown) ∷ []

-- the test of a publish after so many
abbrev pub publish_tests : {A : Type 0} → Limits → ℕ → A → List (Bool × A)
publish_tests limits published versions_full = (nat_le limits.versions published, versions_full) ∷ []

abbrev pub REASONS : Objections Reason
REASONS = record { duplicate = Duplicate; short = Short; songs_full = SongsFull; positions_full = PositionsFull }

-- what a song with this id finds among these
abbrev pub stock_of : Songs → ℕ → Stock
stock_of songs id = record { taken = has_song songs id; songs = length songs; words = positions_of songs }

-- why a song is refused, in the order in which it is tested
abbrev pub add_refusals : Rules → Songs → ℕ → ℕ → List (Bool × Reason)
add_refusals rules songs id words = add_tests rules.limits rules.setting.block.size (stock_of songs id) words REASONS
