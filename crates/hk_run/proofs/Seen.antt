-- The part of a text that is seen, where bytes follow a text without a fault.
use Rattle.std.proofs.Common.{◌≡◌, ℕ, List, [], ◌∷◌, ◌++◌, length, take, refl, sym, ◌∙◌, ap, arith, append_assoc, append-nil, Option, Some, None, option_map}
use Rattle.std.specs.Option.{option_map_or, option_or}
use Rattle.std.proofs.lemmas.List.{take-append-le, take_all}
use Rattle.hk_spec_streams.specs.Pieces.{first_met, fault_of, seen_of}
use Rattle.hk_spec_streams.proofs.FirstFault.{first_met-append, first_met-more, fault_of-none}
use Rattle.hk_spec_streams.proofs.NextFault.{no_fault, seen_of-all}

-- Bytes behind a text without a fault: the part of the whole that is seen begins with the text.
module _ {F : Type 0} (met : List ℕ → Option F) where
  -- a byte that meets a fault, whatever follows it
  pub stops_at : (text : List ℕ) (x : ℕ) (more : List ℕ) (f : F) → fault_of met text ≡ None → met (text ++ x ∷ []) ≡ Some f
      → first_met met (text ++ x ∷ more) ≡ Some (length text, f)
  stops_at text x more f none meets =
      let first : first_met met (text ++ x ∷ []) ≡ Some (length text, f) =
      first_met-append met text x
      ∙ ap (λ o. option_or o (option_map (λ fault. (length text, fault)) (met (text ++ x ∷ [])))) (no_fault met (first_met met text) none)
      ∙ ap (option_map (λ fault. (length text, fault))) meets in
      ap (first_met met) (sym (append_assoc text (x ∷ []) more)) ∙ first_met-more met (length text, f) (text ++ x ∷ []) more first

  pub stops-fault : (text : List ℕ) (x : ℕ) (more : List ℕ) (f : F) → fault_of met text ≡ None → met (text ++ x ∷ []) ≡ Some f
      → fault_of met (text ++ x ∷ more) ≡ Some f
  stops-fault text x more f none meets = ap (option_map (λ (m : ℕ × F). m.1)) (stops_at text x more f none meets)

  pub stops-seen : (text : List ℕ) (x : ℕ) (more : List ℕ) (f : F) → fault_of met text ≡ None → met (text ++ x ∷ []) ≡ Some f
      → seen_of met (text ++ x ∷ more) ≡ text
  stops-seen text x more f none meets =
      ap (λ o. option_map_or (λ (m : ℕ × F). take m.0 (text ++ x ∷ more)) o (text ++ x ∷ more)) (stops_at text x more f none meets)
      ∙ take-append-le (length text) text (x ∷ more) (omega arith) ∙ take_all (length text) text (omega arith)

  pub seen-more : (text more : List ℕ) → fault_of met text ≡ None → (c : List ℕ) × (seen_of met (text ++ more) ≡ text ++ c)
  seen-more text [] none = ([], ap (seen_of met) (append-nil text) ∙ seen_of-all met text none ∙ sym (append-nil text))
  seen-more text (x ∷ more) none = by (met (text ++ x ∷ [])) refl (λ good. seen-more (text ++ x ∷ []) more good)
    where
      by : (o : Option F) → met (text ++ x ∷ []) ≡ o → (fault_of met (text ++ x ∷ []) ≡ None → (c : List ℕ) × (seen_of met ((text ++ x ∷ []) ++ more) ≡ (text ++ x ∷ []) ++ c))
          → (c : List ℕ) × (seen_of met (text ++ x ∷ more) ≡ text ++ c)
      by (Some f) meets later = ([], stops-seen text x more f none meets ∙ sym (append-nil text))
      by None meets later =
          let found = later (fault_of-none met text x none meets) in
          (x ∷ found.0, ap (seen_of met) (sym (append_assoc text (x ∷ []) more)) ∙ found.1 ∙ append_assoc text (x ∷ []) found.0)

-- a fault stays, whatever bytes follow
pub fault_more : {F : Type 0} (met : List ℕ → Option F) (b more : List ℕ) (f : F) → fault_of met b ≡ Some f → fault_of met (b ++ more) ≡ Some f
fault_more {F = F} met b more f is = from (first_met met b) refl is
  where
    from : (m : Option (ℕ × F)) → first_met met b ≡ m → option_map (λ (x : ℕ × F). x.1) m ≡ Some f → fault_of met (b ++ more) ≡ Some f
    from None first e = cc
    from (Some m) first e = ap (option_map (λ (x : ℕ × F). x.1)) (first_met-more met m b more first) ∙ e
