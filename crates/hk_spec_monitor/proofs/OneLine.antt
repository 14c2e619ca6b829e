-- For the worked examples of facts.
use Rattle.std.proofs.Common.{◌≡◌, ℕ, zero, suc, Some, List, [], ◌∷◌, slice_get, subst, cond}
use Rattle.std.specs.Prelude.{⊤, true, false}
use Rattle.hk_spec_streams.specs.Blocks.{Block}
use Rattle.hk_spec_matching.specs.Catalogue.{Songs}
use Rattle.hk_spec_matching.specs.Matching.{matches}
use Rattle.hk_spec_runs.specs.History.{Reported}
use Rattle.hk_spec_monitor.proofs.Legal.{some_of}
use Rattle.hk_spec_monitor.proofs.Logs.{past_end}

abbrev pub Lists : (ℕ → Songs) → List Block → List Reported → Type 0
Lists songs blocks reported = (n : ℕ) (block : Block) (r : Reported) → slice_get blocks n ≡ Some block → slice_get reported n ≡ Some r → r.list ≡ matches block.query (songs r.version)

-- one line
pub lists_one : (songs : ℕ → Songs) (b : Block) (q : Reported) → q.list ≡ matches b.query (songs q.version) → Lists songs (b ∷ []) (q ∷ [])
lists_one songs b q is zero block r at_block at_line =
    subst (λ (x : Reported). x.list ≡ matches block.query (songs x.version)) (some_of q r at_line)
    (subst (λ x. q.list ≡ matches x.query (songs q.version)) (some_of b block at_block) is)
lists_one songs b q is (suc n) block r at_block at_line = past_end block (r.list ≡ matches block.query (songs r.version)) at_block

-- no line
pub lists_none : (songs : ℕ → Songs) (blocks : List Block) → Lists songs blocks []
lists_none songs blocks n block r at_block at_line = past_end r (r.list ≡ matches block.query (songs r.version)) at_line

-- two truths that differ
pub differ : (P : Type 0) → true ≡ false → P
differ P same = absurd (subst (λ b. cond b ⊤ ⊥) same tt)
