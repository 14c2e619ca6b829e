-- What the reader's parts say of the bytes that they were given.
use Rattle.std.specs.Prelude.{◌≡◌, ℕ, ◌+◌, ◌*◌, ◌<◌, ◌≤◌, List, [], ◌∷◌, ◌++◌, decimal, codes, ◌⊎◌}
use Rattle.std.specs.List.{AllByRecursion}
use Rattle.hk_base.specs.declared.plain.Match.{Match}
use Rattle.hk_spec_lines.specs.Lines.{NEWLINE, list_text}
use Rattle.hk_report.specs.Pieces.{further_items}
use Rattle.hk_report.specs.Reports.{Begins, ItemFits}

-- it begins with the next byte of the bytes that are left, or has no more where none is left
abbrev pub GoesOn : List ℕ → List ℕ → Type 0
GoesOn [] more = more ≡ []
GoesOn (c ∷ left) more = (rest : List ℕ) × (more ≡ c ∷ rest)

-- So far the bytes begin a text of that kind, and with the next byte they don't, or no byte is left and they are none yet.
pub record Stops (IsKind : List ℕ → Type 0) (good left : List ℕ) : Type 0 where
  pub begins : Begins IsKind good
  pub refused : (more : List ℕ) → GoesOn left more → IsKind (good ++ more) → ⊥

-- the text goes wrong where these bytes are left of it
abbrev pub StopsBefore : (List ℕ → Type 0) → List ℕ → List ℕ → Type 0
StopsBefore IsKind text left = (good : List ℕ) × (text ≡ good ++ left) × Stops IsKind good left

abbrev pub IsDigit : ℕ → Type 0
IsDigit c = (48 ≤ c) × (c < 58)

-- no digit comes next
abbrev pub IsCut : List ℕ → Type 0
IsCut [] = Unit {0}
IsCut (c ∷ rest) = IsDigit c → ⊥

-- another byte comes next, or none
abbrev pub Differs : ℕ → List ℕ → Type 0
Differs c [] = Unit {0}
Differs c (d ∷ rest) = d ≡ c → ⊥

-- a front of the word, and then another byte than it has
abbrev pub LeavesWord : List ℕ → List ℕ → List ℕ → Type 0
LeavesWord word good bad = (c : ℕ) × (left : List ℕ) × (word ≡ good ++ c ∷ left) × Differs c bad

-- a number that a further digit would make too large, or that is 0
abbrev pub LeavesDigits : ℕ → List ℕ → List ℕ → Type 0
LeavesDigits most good bad = (n : ℕ) × (digit : ℕ) × (rest : List ℕ) × (good ≡ decimal n) × (n ≤ most) × (digit < 10) × (bad ≡ (48 + digit) ∷ rest) × ((n ≡ 0) ⊎ (most < 10 * n + digit))

-- no digit where a number is to be, or a digit too many
abbrev pub LeavesNumber : ℕ → List ℕ → List ℕ → Type 0
LeavesNumber most good bad = ((good ≡ []) × IsCut bad) ⊎ LeavesDigits most good bad

-- a word and a number, left in the word or in the number
abbrev pub LeavesField : List ℕ → ℕ → List ℕ → List ℕ → Type 0
LeavesField word most good bad = LeavesWord word good bad ⊎ ((number : List ℕ) × (good ≡ word ++ number) × LeavesNumber most number bad)

-- a word, and then a text of that kind
abbrev pub Behind : List ℕ → (List ℕ → Type 0) → List ℕ → Type 0
Behind word IsKind text = (rest : List ℕ) × (text ≡ word ++ rest) × IsKind rest

-- a number of at most `most`, and then a text of that kind
abbrev pub Numeral : ℕ → (List ℕ → Type 0) → List ℕ → Type 0
Numeral most IsKind text = (n : ℕ) × (rest : List ℕ) × (n ≤ most) × (text ≡ decimal n ++ rest) × IsKind rest

-- a word and a number, and then a text of that kind
abbrev pub Field : List ℕ → ℕ → (List ℕ → Type 0) → List ℕ → Type 0
Field word most IsKind text = Behind word (Numeral most IsKind) text

-- the greatest numbers of 8, 32 and 64 bits
abbrev pub MOST_8 : ℕ
MOST_8 = 255

abbrev pub MOST_32 : ℕ
MOST_32 = 4294967295

abbrev pub MOST_64 : ℕ
MOST_64 = 18446744073709551615

-- an item behind a word, and then a text of that kind
abbrev pub ItemField : List ℕ → (List ℕ → Type 0) → List ℕ → Type 0
ItemField word IsKind text = Field word MOST_32 (Field (codes "@") MOST_32 (Field (codes "~") MOST_32 IsKind)) text

-- further items, and the line's end
abbrev pub AreFurther : List ℕ → Type 0
AreFurther text = (items : List Match) × AllByRecursion ItemFits items × (text ≡ further_items items ++ NEWLINE)

-- a list, and the line's end
abbrev pub IsList : List ℕ → Type 0
IsList text = (items : List Match) × AllByRecursion ItemFits items × (text ≡ list_text items ++ NEWLINE)
