-- What a passage keeps of its text's fault, after one more byte.
use Rattle.std.proofs.Common.{◌≡◌, ℕ, ◌+◌, List, [], ◌∷◌, ◌++◌, length, sym, ◌∙◌, ap, arith, length-append, Option, Some, None}
use Rattle.hk_base.specs.declared.plain.WireFault.{WireFault}
use Rattle.hk_spec_streams.specs.Pieces.{fault_of, seen_of}
use Rattle.hk_spec_streams.proofs.NextFault.{seen_of-all, fault_of-none, fault_of-some, fault_of-stays}
use Rattle.hk_wire.specs.declared.passage.Passage.{Passage}
use Rattle.hk_wire.specs.Kept.{Met, Keeps}

pub no_such : {A : Type 0} {o : Option A} (x : A) → o ≡ Some x → o ≡ None → ⊥
no_such x some none = let odd : Some x ≡ None = sym some ∙ none in cc

-- the text's fault, by the limit
pub fault_at : (met : Met) (passage : Passage) (limit : ℕ) (text : List ℕ) (fault : Option WireFault) → Keeps met passage text
    → passage.limit ≡ limit → passage.fault ≡ fault → fault_of (met limit) text ≡ fault
fault_at met passage limit text fault kept at is = ap (λ n. fault_of (met n) text) (sym at) ∙ sym kept.fault_is ∙ is

module _ (met : Met) (passage : Passage) (text : List ℕ) (b : ℕ) (kept : Keeps met passage text) where
  -- after a fault the next byte changes nothing
  pub keeps_fault : (fault : WireFault) → passage.fault ≡ Some fault → Keeps met passage (text ++ b ∷ [])
  keeps_fault fault is =
      let stays = fault_of-stays (met passage.limit) text b fault (sym kept.fault_is ∙ is) in
      record { fault_is = is ∙ sym stays.0; taken_is = kept.taken_is ∙ ap length (sym stays.1) }

  -- where no fault was met, the whole text was taken
  pub keeps_all : passage.fault ≡ None → passage.taken ≡ length text
  keeps_all none = kept.taken_is ∙ ap length (seen_of-all (met passage.limit) text (sym kept.fault_is ∙ none))

  -- the byte meets nothing
  pub keeps_none : (new : Passage) → passage.fault ≡ None → met passage.limit (text ++ b ∷ []) ≡ None
      → new.limit ≡ passage.limit → new.taken ≡ passage.taken + 1 → new.fault ≡ passage.fault → Keeps met new (text ++ b ∷ [])
  keeps_none new no_fault fine same_limit more same_fault =
      let none : fault_of (met passage.limit) (text ++ b ∷ []) ≡ None = fault_of-none (met passage.limit) text b (sym kept.fault_is ∙ no_fault) fine in
      let all : length (seen_of (met passage.limit) (text ++ b ∷ [])) ≡ length (text ++ b ∷ []) = ap length (seen_of-all (met passage.limit) (text ++ b ∷ []) none) in
      let before : passage.taken ≡ length text = keeps_all no_fault in
      let long : length (text ++ b ∷ []) ≡ length text + 1 = length-append text (b ∷ []) in
      record {
        fault_is = same_fault ∙ no_fault ∙ sym none ∙ sym (ap (λ limit. fault_of (met limit) (text ++ b ∷ [])) same_limit);
        taken_is = (omega (arith, before, long, all, more)) ∙ sym (ap (λ limit. length (seen_of (met limit) (text ++ b ∷ []))) same_limit);
      }

  -- further bytes meet nothing
  pub keeps_many : (new : Passage) (more : List ℕ) → passage.fault ≡ None → fault_of (met passage.limit) (text ++ more) ≡ None
      → new.limit ≡ passage.limit → new.taken ≡ passage.taken + length more → new.fault ≡ passage.fault → Keeps met new (text ++ more)
  keeps_many new more no_fault none same_limit counts same_fault =
      let all : length (seen_of (met passage.limit) (text ++ more)) ≡ length (text ++ more) = ap length (seen_of-all (met passage.limit) (text ++ more) none) in
      let before : passage.taken ≡ length text = keeps_all no_fault in
      let long : length (text ++ more) ≡ length text + length more = length-append text more in
      record {
        fault_is = same_fault ∙ no_fault ∙ sym none ∙ sym (ap (λ limit. fault_of (met limit) (text ++ more)) same_limit);
        taken_is = (omega (arith, before, long, all, counts)) ∙ sym (ap (λ limit. length (seen_of (met limit) (text ++ more))) same_limit);
      }

  -- the byte meets a fault
  pub keeps_some : (new : Passage) (fault : WireFault) → passage.fault ≡ None → met passage.limit (text ++ b ∷ []) ≡ Some fault
      → new.limit ≡ passage.limit → new.taken ≡ passage.taken → new.fault ≡ Some fault → Keeps met new (text ++ b ∷ [])
  keeps_some new fault none wrong same_limit same_taken is =
      let found = fault_of-some (met passage.limit) text b fault (sym kept.fault_is ∙ none) wrong in
      record {
        fault_is = is ∙ sym found.0 ∙ sym (ap (λ limit. fault_of (met limit) (text ++ b ∷ [])) same_limit);
        taken_is = same_taken ∙ keeps_all none ∙ sym (ap length found.1) ∙ sym (ap (λ limit. length (seen_of (met limit) (text ++ b ∷ []))) same_limit);
      }
