-- Words that come one after another, of which the first are kept.
use Rattle.std.specs.Prelude.{◌≡◌, ℕ, ◌+◌, ◌-◌, ◌^◌, min, List, [], ◌∷◌, ◌++◌, length, take}

-- the first words, how many came in all, and how many are kept
pub record Buffered : Type 0 where
  pub words : List ℕ
  pub count : ℕ
  pub room : ℕ

abbrev pub no_words : ℕ → Buffered
no_words room = record { words = []; count = 0; room = room }

abbrev pub cleared : Buffered → Buffered
cleared kept = record kept { words = []; count = 0 }

-- with one word more, which is kept where there is room
abbrev pub with_word : Buffered → ℕ → Buffered
with_word kept word = record kept { words = take kept.room (kept.words ++ word ∷ []); count = min (kept.count + 1) (2 ^ 64 - 1) }

-- These are all words that came. The count stands still at its type's end.
pub record KeepsWords (kept : Buffered) (all : List ℕ) : Type 0 where
  pub words : kept.words ≡ take kept.room all
  pub count : kept.count ≡ min (length all) (2 ^ 64 - 1)
