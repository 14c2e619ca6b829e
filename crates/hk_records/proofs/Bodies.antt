-- A record's bytes, up to the length and beyond.
use Rattle.std.proofs.Common.{◌≡◌, ℕ, ◌+◌, ◌<◌, List, [], ◌∷◌, ◌++◌, length, refl, sym, subst, arith, inl, inr, Bool, cond}
use Rattle.std.specs.Int.{w16, from_be_bytes}
use Rattle.std.proofs.lemmas.Bool.Decides.{eqb_tells}
use Rattle.hk_spec_streams.specs.Records.{record_size}
use Rattle.hk_records.specs.Part.{IsPart, IsPartUnlessWhole, head_bytes}
use Rattle.hk_records.specs.declared.part.Owner.{Owner}
use Rattle.hk_records.specs.declared.part.Owner.TheVariants as owners
use Rattle.hk_records.specs.declared.part.Part.TheVariants as parts

-- a record's size and its length so far differ as the payload's do
pub same_excess : (owner : Owner) (high low left : ℕ) (payload : List ℕ) → length payload + left ≡ from_be_bytes w16 (high ∷ low ∷ [])
    → record_size (head_bytes owner ++ high ∷ low ∷ payload) ≡ length (head_bytes owner ++ high ∷ low ∷ payload) + left
same_excess owners.Operator high low left payload is = omega (arith, is)
same_excess (owners.Station n) high low left payload is = omega (arith, is)

pub some_left : (owner : Owner) (high low left : ℕ) (payload : List ℕ) → 0 < left → length payload + left ≡ from_be_bytes w16 (high ∷ low ∷ [])
    → IsPartUnlessWhole (parts.Body owner left) (head_bytes owner ++ high ∷ low ∷ payload)
some_left owner high low left payload some is =
    let bytes : List ℕ = head_bytes owner ++ high ∷ low ∷ payload in
    let size : record_size bytes ≡ length bytes + left = same_excess owner high low left payload is in
    let P : Bool → Type 0 = λ t. IsPart (parts.Body owner left) (cond t [] bytes) in
    elim (eqb_tells (record_size bytes) (length bytes)) [
      | inl same ↦ absurd (omega (arith, same.1, size, some))
      | inr other ↦ subst P (sym other.0) (high, low, payload, refl, is, some)
    ]
