-- The fault of a text with one more byte, and the bytes before it.
use Rattle.std.proofs.Common.{◌≡◌, ◌⊎◌, ℕ, ◌+◌, ◌<◌, List, [], ◌∷◌, ◌++◌, length, take, refl, sym, ◌∙◌, ap, subst, arith, length-append, append_assoc, append-nil, Option, Some, None, option_map, inl, inr}
use Rattle.std.proofs.lemmas.List.{take-append-le}
use Rattle.std.proofs.Math.Seq.{take-append_seam}
use Rattle.std.specs.Option.{option_or, option_map_or}
use Rattle.hk_spec_streams.specs.Pieces.{first_met, fault_of, seen_of}
use Rattle.hk_spec_streams.proofs.FirstFault.{first_met-append}
pub use Rattle.hk_spec_streams.proofs.FirstFault.{fault_of-none}

along : (P : List ℕ → Type 0) → ((text : List ℕ) (byte : ℕ) → P text → P (text ++ byte ∷ [])) → (front back : List ℕ) → P front → P (front ++ back)
along P step front [] here = subst P (sym (append-nil front)) here
along P step front (byte ∷ back) here = subst P (append_assoc front (byte ∷ []) back) (along P step (front ++ byte ∷ []) back (step front byte here))

-- what holds of no bytes, and with each byte more, holds of each text
pub by_bytes : (P : List ℕ → Type 0) → P [] → ((text : List ℕ) (byte : ℕ) → P text → P (text ++ byte ∷ [])) → (text : List ℕ) → P text
by_bytes P none step text = along P step [] text none

module _ {F : Type 0} (met : List ℕ → Option F) where
  Inside : List ℕ → Type 0
  Inside text = (m : ℕ × F) → first_met met text ≡ Some m → m.0 < length text

  either : (o : Option (ℕ × F)) (place : ℕ) (fault : Option F) (m : ℕ × F) → option_or o (option_map (λ f. (place, f)) fault) ≡ Some m → (o ≡ Some m) ⊎ (m.0 ≡ place)
  either (Some n) place fault m is = inl is
  either None place (Some f) m is = inr (let same : ◌≡◌ {A = ℕ × F} (place, f) m = cc in sym (ap (λ p. p.0) same))
  either None place None m is = absurd (cc)

  none_met : (m : ℕ × F) → first_met met [] ≡ Some m → ⊥
  unfolding first_met
  none_met m is = cc

  -- the place of a text's fault is one of its places
  pub first_met-inside : (text : List ℕ) (m : ℕ × F) → first_met met text ≡ Some m → m.0 < length text
  unfolding Inside
  first_met-inside = by_bytes Inside (λ m is. absurd (none_met m is))
      (λ text byte before m is.
      let long : length (text ++ byte ∷ []) ≡ length text + 1 = length-append text (byte ∷ []) in
      elim (either (first_met met text) (length text) (met (text ++ byte ∷ [])) m (sym (first_met-append met text byte) ∙ is)) [
        | inl earlier ↦ let inside : m.0 < length text = before m earlier in omega (arith, inside, long)
        | inr here ↦ omega (arith, here, long)
      ])

  pub no_fault : (o : Option (ℕ × F)) → option_map (λ m. m.1) o ≡ None → o ≡ None
  no_fault None is = refl
  no_fault (Some m) is = absurd (cc)

  a_fault : (o : Option (ℕ × F)) (fault : F) → option_map (λ m. m.1) o ≡ Some fault → (m : ℕ × F) × (o ≡ Some m) × (m.1 ≡ fault)
  a_fault None fault is = absurd (cc)
  a_fault (Some m) fault is = (m, refl, cc)

  -- where there is no fault, all bytes are seen
  pub seen_of-all : (text : List ℕ) → fault_of met text ≡ None → seen_of met text ≡ text
  seen_of-all text none = ap (λ o. option_map_or (λ m. take m.0 text) o text) (no_fault (first_met met text) none)

  both_none : (o : Option (ℕ × F)) (place : ℕ) (fault : Option F) → option_or o (option_map (λ f. (place, f)) fault) ≡ None → (o ≡ None) × (fault ≡ None)
  both_none (Some m) place fault is = absurd (cc)
  both_none None place (Some f) is = absurd (cc)
  both_none None place None is = (refl, refl)

  -- where there is no fault, there was none before the last byte, and it meets none
  pub fault_of-before : (text : List ℕ) (byte : ℕ) → fault_of met (text ++ byte ∷ []) ≡ None → (fault_of met text ≡ None) × (met (text ++ byte ∷ []) ≡ None)
  fault_of-before text byte none =
      let parts = both_none (first_met met text) (length text) (met (text ++ byte ∷ [])) (sym (first_met-append met text byte) ∙ no_fault (first_met met (text ++ byte ∷ [])) none) in
      (ap (option_map (λ m. m.1)) parts.0, parts.1)

  -- no fault yet, and the byte meets one
  pub fault_of-some : (text : List ℕ) (byte : ℕ) (fault : F) → fault_of met text ≡ None → met (text ++ byte ∷ []) ≡ Some fault
      → (fault_of met (text ++ byte ∷ []) ≡ Some fault) × (seen_of met (text ++ byte ∷ []) ≡ text)
  fault_of-some text byte fault none wrong =
      let first : first_met met (text ++ byte ∷ []) ≡ Some (length text, fault) =
      first_met-append met text byte
      ∙ ap (λ o. option_or o (option_map (λ f. (length text, f)) (met (text ++ byte ∷ [])))) (no_fault (first_met met text) none)
      ∙ ap (option_map (λ f. (length text, f))) wrong in (
        ap (option_map (λ m. m.1)) first,
        ap (λ o. option_map_or (λ m. take m.0 (text ++ byte ∷ [])) o (text ++ byte ∷ [])) first ∙ take-append_seam text (byte ∷ []),
      )

  -- a fault stays, and so do the bytes before it
  pub fault_of-stays : (text : List ℕ) (byte : ℕ) (fault : F) → fault_of met text ≡ Some fault
      → (fault_of met (text ++ byte ∷ []) ≡ Some fault) × (seen_of met (text ++ byte ∷ []) ≡ seen_of met text)
  fault_of-stays text byte fault is =
      let found = a_fault (first_met met text) fault is in
      let inside : found.0.0 < length text = first_met-inside text found.0 found.1 in
      let first : first_met met (text ++ byte ∷ []) ≡ Some found.0 =
      first_met-append met text byte ∙ ap (λ o. option_or o (option_map (λ f. (length text, f)) (met (text ++ byte ∷ [])))) found.1 in (
        ap (option_map (λ m. m.1)) first ∙ ap (λ f. Some f) found.2,
        ap (λ o. option_map_or (λ m. take m.0 (text ++ byte ∷ [])) o (text ++ byte ∷ [])) first
            ∙ take-append-le found.0.0 text (byte ∷ []) (omega (arith, inside))
            ∙ sym (ap (λ o. option_map_or (λ m. take m.0 text) o text) found.1),
      )
