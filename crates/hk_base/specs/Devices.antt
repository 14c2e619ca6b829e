-- What reads and writes say.
use Rattle.std.specs.Prelude.{◌≡◌, ℕ, ◌+◌, ◌-◌, ◌^◌, ◌<◌, min, List, [], ◌++◌, length, Option, option_map}
use Rattle.std.specs.Prelude.{⊤}
use Rattle.std.specs.Option.{IfSome}
use Rattle.hk_base.specs.declared.plain.Got.{Got}
use Rattle.hk_base.specs.declared.plain.Got.TheVariants.{Bytes, End, Failed}

-- the greatest count that a device's counter shows
abbrev pub LAST_COUNT : ℕ
LAST_COUNT = 2 ^ 64 - 1

-- a count of faults is one more, up to its last value, where it stands
abbrev pub Rose : ℕ → ℕ → Type 0
Rose before now = now ≡ before + min 1 (LAST_COUNT - before)

-- the count of faults is one more where this failed, and the same where it didn't
pub record Counts (failed : Type 0) (before now : ℕ) : Type 0 where
  pub cause : failed → Rose before now
  pub stays : (failed → ⊥) → now ≡ before

-- a fact of the number of bytes that were read
abbrev pub IfBytes : Got → (ℕ → Type 0) → Type 0
IfBytes (Bytes n) P = P n
IfBytes End P = ⊤
IfBytes Failed P = ⊤

-- a fact where the end was met
abbrev pub OnEnd : Got → Type 0 → Type 0
OnEnd (Bytes n) P = ⊤
OnEnd End P = P
OnEnd Failed P = ⊤

-- a fact where nothing was read: at the end, and where reading failed
abbrev pub OnNothing : Got → Type 0 → Type 0
OnNothing (Bytes n) P = ⊤
OnNothing End P = P
OnNothing Failed P = P

-- a fact where reading failed
abbrev pub OnFailed : Got → Type 0 → Type 0
OnFailed (Bytes n) P = ⊤
OnFailed End P = ⊤
OnFailed Failed P = P

-- a fact where reading didn't fail
abbrev pub OnNoFailure : Got → Type 0 → Type 0
OnNoFailure (Bytes n) P = P
OnNoFailure End P = P
OnNoFailure Failed P = ⊤

-- These bytes were taken from what was left: old = bytes ++ new.
-- An object that tells its bytes goes on telling them, and one that doesn't goes on not telling.
abbrev pub Took : List ℕ → Option (List ℕ) → Option (List ℕ) → Type 0
Took bytes old new = old ≡ option_map (λ rest. bytes ++ rest) new

-- nothing is left, where the object tells it
abbrev pub IsNothing : Option (List ℕ) → Type 0
IsNothing left = IfSome left (λ bytes. bytes ≡ [])

-- These bytes were appended to what was written: new = old ++ bytes.
abbrev pub Wrote : List ℕ → Option (List ℕ) → Option (List ℕ) → Type 0
Wrote bytes old new = new ≡ option_map (λ text. text ++ bytes) old

-- A proper front of the text was appended to what was written: something of the text is missing.
abbrev pub WroteFront : List ℕ → Option (List ℕ) → Option (List ℕ) → Type 0
WroteFront text old new = (front : List ℕ) × (missing : List ℕ) × (text ≡ front ++ missing) × (0 < length missing) × Wrote front old new
