-- The kinds of an operator's commands, one row a kind.
use Rattle.std.specs.Prelude.{ℕ, ◌%◌, ◌==◌, Bool, true, false, ◌&&◌, nat_le, List, [], ◌∷◌, map, find, Option}
use Rattle.std.specs.Option.{option_map_or}

pub data Kind : Type 0 where
  AddWords : Kind
  OpenSong : Kind
  Audio : Kind
  Close : Kind
  Withdraw : Kind
  Publish : Kind

-- the lengths that a payload may have: this one, so many bytes and any number of words of four bytes, or any
pub data Lengths : Type 0 where
  Exactly : ℕ → Lengths
  WordsFrom : ℕ → Lengths
  Any : Lengths

-- what a payload brings behind its id, or from its first byte on where it has none
pub data Content : Type 0 where
  Words : Content
  SoundForm : Content
  Sound : Content
  Nothing : Content

-- a kind: its number on the wire, the lengths of its payload, whether the payload begins with an id, and what it brings
pub record Row : Type 0 where
  pub kind : Kind
  pub number : ℕ
  pub lengths : Lengths
  pub has_id : Bool
  pub content : Content

abbrev pub ADD_WORDS : Row
ADD_WORDS = record { kind = AddWords; number = 1; lengths = WordsFrom 4; has_id = true; content = Words }

abbrev pub OPEN_SONG : Row
OPEN_SONG = record { kind = OpenSong; number = 2; lengths = Exactly 6; has_id = true; content = SoundForm }

abbrev pub AUDIO : Row
AUDIO = record { kind = Audio; number = 3; lengths = Any; has_id = false; content = Sound }

abbrev pub CLOSE : Row
CLOSE = record { kind = Close; number = 4; lengths = Exactly 0; has_id = false; content = Nothing }

abbrev pub WITHDRAW : Row
WITHDRAW = record { kind = Withdraw; number = 5; lengths = Exactly 4; has_id = true; content = Nothing }

abbrev pub PUBLISH : Row
PUBLISH = record { kind = Publish; number = 6; lengths = Exactly 0; has_id = false; content = Nothing }

abbrev pub KINDS : List Row
KINDS = ADD_WORDS ∷ OPEN_SONG ∷ AUDIO ∷ CLOSE ∷ WITHDRAW ∷ PUBLISH ∷ []

abbrev pub numbers : List ℕ
numbers = map (λ row. row.number) KINDS

-- the row with this number
abbrev pub row_of : ℕ → Option Row
row_of number = find (λ row. row.number == number) KINDS

abbrev pub length_fits : Lengths → ℕ → Bool
length_fits (Exactly length) n = n == length
length_fits (WordsFrom least) n = nat_le least n && (n % 4 == 0)
length_fits Any n = true

-- of the commands with a number: the lengths of their payload, whether it begins with an id, and what it brings
abbrev pub command_length_fits : ℕ → ℕ → Bool
command_length_fits number n = option_map_or (λ row. length_fits row.lengths n) (row_of number) false

abbrev pub has_id : ℕ → Bool
has_id number = option_map_or (λ row. row.has_id) (row_of number) false

abbrev pub content_of : ℕ → Content
content_of number = option_map_or (λ row. row.content) (row_of number) Nothing

abbrev pub is_form : Content → Bool
is_form SoundForm = true
is_form Words = false
is_form Sound = false
is_form Nothing = false
