-- Entries by rising id.
use Rattle.std.specs.Prelude.{◌≡◌, ℕ, zero, suc, ◌<◌, ◌≤◌, List, [], ◌∷◌, map, ⊤}
use Rattle.hk_catalogue.specs.declared.entry.Entry.{Entry}

abbrev pub entry_pairs : List Entry → List (ℕ × ℕ)
entry_pairs entries = map (λ entry. (entry.id, entry.number)) entries

-- every id is above this one
abbrev pub AreAbove : {A : Type 0} → ℕ → List (ℕ × A) → Type 0
AreAbove id [] = ⊤
AreAbove id (entry ∷ lengths) = (id < entry.0) × AreAbove id lengths

-- each id is below those behind it
abbrev pub AreRising : {A : Type 0} → List (ℕ × A) → Type 0
AreRising [] = ⊤
AreRising (entry ∷ lengths) = AreAbove entry.0 lengths × AreRising lengths

-- the ids before the place are lower, and the next one isn't
abbrev pub Splits : {A : Type 0} → List (ℕ × A) → ℕ → ℕ → Type 0
Splits [] id place = place ≡ 0
Splits (entry ∷ lengths) id zero = id ≤ entry.0
Splits (entry ∷ lengths) id (suc place) = (entry.0 < id) × Splits lengths id place
