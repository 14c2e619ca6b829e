-- Versions that never fall.
use Rattle.std.proofs.Common.{◌≤◌, ℕ, List, [], ◌∷◌, ◌++◌, arith}
use Rattle.hk_spec_matching.specs.Catalogue.{Rise}

-- from a lower version they rise too
pub Rise-from : (a b : ℕ) (vs : List ℕ) (to : ℕ) → a ≤ b → Rise b vs to → Rise a vs to
Rise-from a b [] to less rise = omega (arith, less, rise)
Rise-from a b (v ∷ vs) to less rise = (omega (arith, less, rise.0), rise.1)

pub Rise-append : (a b c : ℕ) (vs ws : List ℕ) → Rise a vs b → Rise b ws c → Rise a (vs ++ ws) c
Rise-append a b c [] ws first second = Rise-from a b ws c first second
Rise-append a b c (v ∷ vs) ws first second = (first.0, Rise-append v b c vs ws first.1 second)

-- they end no lower than they begin
pub Rise-le : (a b : ℕ) (vs : List ℕ) → Rise a vs b → a ≤ b
Rise-le a b [] rise = rise
Rise-le a b (v ∷ vs) rise = let more : v ≤ b = Rise-le v b vs rise.1 in omega (arith, rise.0, more)

-- they rise to a version between, and from there on
pub Rise-split : (a c : ℕ) (vs ws : List ℕ) → Rise a (vs ++ ws) c → (b : ℕ) × Rise a vs b × Rise b ws c
Rise-split a c [] ws rise = (a, omega arith, rise)
Rise-split a c (v ∷ vs) ws rise = let rest = Rise-split v c vs ws rise.1 in (rest.0, (rise.0, rest.1), rest.2)
