-- What the whole text says of its last byte, by the open record alone.
use Rattle.std.proofs.Common.{◌≡◌, ℕ, suc, ◌+◌, ◌-◌, ◌<◌, ◌≤◌, inl, inr, List, [], ◌∷◌, ◌++◌, length, refl, ◌∙◌, ap, arith, length-append, Bool, true, false, Option, Some, None, cond}
use Rattle.std.specs.Prelude.{◌==◌, ◌||◌, ◌&&◌, not, nat_lt, slice_get, slice_index}
use Rattle.std.specs.Option.{option_map_or, option_or}
use Rattle.std.proofs.lemmas.Bool.{eqb-true, and_parts}
use Rattle.std.proofs.lemmas.Bool.Decides.{leb_tells}
use Rattle.hk_base.specs.declared.plain.Trouble.{Trouble}
use Rattle.hk_base.specs.declared.plain.Trouble.TheVariants.{BadRecord, TooLong}
use Rattle.hk_spec_streams.specs.Pieces.{completed, first_met, first_that_holds, pieces_within}
use Rattle.hk_spec_streams.specs.Records.{STATION, OPERATOR, arrivals, arrival_after, input_met, input_fault, input_wrong, open_bytes, open_record}
use Rattle.hk_spec_streams.proofs.FirstFault.{fault_of-none}
use Rattle.hk_spec_streams.proofs.Completed.{completed-more}
use Rattle.hk_spec_streams.proofs.GrowingRecords.{last_record-append, arrivals-append, open_record-is}
use Rattle.hk_spec_streams.proofs.OpenPiece.{opened_piece}
use Rattle.hk_records.specs.Part.{IsPart, came_behind, has_bad_head, told}
use Rattle.hk_records.specs.declared.part.Owner.TheVariants as owners
use Rattle.hk_records.specs.declared.part.Part.{Part}
use Rattle.hk_records.specs.declared.part.Part.TheVariants as parts
use Rattle.hk_records.specs.Reader.{came_at}
use Rattle.hk_records.specs.declared.reader.Came.TheVariants.{Head, Bad}

-- the faults of a text's last byte, by how long the text is and the record that the byte belongs to
met_by : ℕ → ℕ → ℕ → List ℕ → Option Trouble
met_by stations limit n bytes =
    first_that_holds (
    (nat_lt limit n, TooLong limit)
    ∷ ((length bytes == 1) && not ((slice_index bytes 0 == STATION) || (slice_index bytes 0 == OPERATOR)), BadRecord (n - 1))
    ∷ ((length bytes == 2) && (slice_index bytes 0 == STATION) && not (nat_lt (slice_index bytes 1) stations), BadRecord (n - 1 - 1))
    ∷ [])

-- two rows of one fault are one row
joined : (t a b : Bool) (x y z w : Trouble) → (a ≡ true → y ≡ w) → (b ≡ true → z ≡ w)
    → first_that_holds ((t, x) ∷ (a, y) ∷ (b, z) ∷ []) ≡ cond t (Some x) (cond (a || b) (Some w) None)
joined true a b x y z w ay bz = refl
joined false true b x y z w ay bz = ap (λ v. Some v) (ay refl)
joined false false true x y z w ay bz = ap (λ v. Some v) (bz refl)
joined false false false x y z w ay bz = refl

-- the fault of the next byte, whose record begins where the open one does
unfoldable pub fault_next : ℕ → ℕ → ℕ → List ℕ → ℕ → Option Trouble
fault_next stations limit n rest b =
    cond (nat_lt limit (n + 1)) (Some (TooLong limit)) (cond (has_bad_head stations (rest ++ b ∷ [])) (Some (BadRecord (n - length rest))) None)

pub met-append : (stations limit : ℕ) (text : List ℕ) (b : ℕ) → input_met stations limit (text ++ b ∷ []) ≡ fault_next stations limit (length text) (open_bytes text) b
unfolding input_met met_by fault_next
met-append stations limit text b =
    let rest : List ℕ = open_bytes text in
    let bytes : List ℕ = rest ++ b ∷ [] in
    let n : ℕ = length text in
    let long : length (text ++ b ∷ []) ≡ n + 1 = length-append text (b ∷ []) in
    let longer : length bytes ≡ length rest + 1 = length-append rest (b ∷ []) in
    ap (met_by stations limit (length (text ++ b ∷ []))) (last_record-append text b)
    ∙ ap (λ m. met_by stations limit m bytes) long
    ∙ joined (nat_lt limit (n + 1)) ((length bytes == 1) && not ((slice_index bytes 0 == STATION) || (slice_index bytes 0 == OPERATOR)))
    ((length bytes == 2) && (slice_index bytes 0 == STATION) && not (nat_lt (slice_index bytes 1) stations))
    (TooLong limit) (BadRecord (n + 1 - 1)) (BadRecord (n + 1 - 1 - 1)) (BadRecord (n - length rest))
    (λ first. let one : length bytes ≡ 1 = eqb-true _ _ (and_parts _ _ first).0 in
    let place : n + 1 - 1 ≡ n - length rest = omega (arith, one, longer) in ap (λ p. BadRecord p) place)
    (λ second. let two : length bytes ≡ 2 = eqb-true _ _ (and_parts _ _ (and_parts _ _ second).0).0 in
    let place : n + 1 - 1 - 1 ≡ n - length rest = omega (arith, two, longer) in ap (λ p. BadRecord p) place)

pub came-append : (stations limit : ℕ) (text : List ℕ) (b : ℕ)
    → came_at stations limit (text ++ b ∷ []) ≡ option_map_or (λ trouble. Bad trouble) (fault_next stations limit (length text) (open_bytes text) b) (came_behind (open_bytes text) b)
came-append stations limit text b =
    ap (λ o. option_map_or (λ trouble. Bad trouble) o (option_map_or told (slice_get (completed arrivals (text ++ b ∷ [])) 0) Head)) (met-append stations limit text b)
    ∙ ap (λ xs. option_map_or (λ trouble. Bad trouble) (fault_next stations limit (length text) (open_bytes text) b) (option_map_or told (slice_get xs 0) Head))
    (completed-more arrivals text b (arrival_after (open_bytes text) b) (arrivals-append text b))

lt_is : (a b : ℕ) → a < b → nat_lt a b ≡ true
lt_is a b h = elim (leb_tells (suc a) b) [ inl within ↦ within.0 | inr other ↦ absurd (omega (arith, other.1)) ]

lt_isnt : (a b : ℕ) → b ≤ a → nat_lt a b ≡ false
lt_isnt a b h = elim (leb_tells (suc a) b) [ inl within ↦ absurd (omega (arith, within.1)) | inr other ↦ other.0 ]

module _ (stations limit : ℕ) (text : List ℕ) (b : ℕ) where
  pub too_long : limit ≤ length text → came_at stations limit (text ++ b ∷ []) ≡ Bad (TooLong limit)
  unfolding fault_next
  too_long h = came-append stations limit text b
      ∙ ap (λ t. option_map_or (λ trouble. Bad trouble) (cond t (Some (TooLong limit)) (cond (has_bad_head stations (open_bytes text ++ b ∷ [])) (Some (BadRecord (length text - length (open_bytes text)))) None)) (came_behind (open_bytes text) b))
      (lt_is limit (length text + 1) (omega arith))

  pub faulty : length text < limit → has_bad_head stations (open_bytes text ++ b ∷ []) ≡ true → came_at stations limit (text ++ b ∷ []) ≡ Bad (BadRecord (length text - length (open_bytes text)))
  unfolding fault_next
  faulty h bad = came-append stations limit text b
      ∙ ap (λ t. option_map_or (λ trouble. Bad trouble) (cond t (Some (TooLong limit)) (cond (has_bad_head stations (open_bytes text ++ b ∷ [])) (Some (BadRecord (length text - length (open_bytes text)))) None)) (came_behind (open_bytes text) b))
      (lt_isnt limit (length text + 1) (omega arith))
      ∙ ap (λ t. option_map_or (λ trouble. Bad trouble) (cond t (Some (BadRecord (length text - length (open_bytes text)))) None) (came_behind (open_bytes text) b)) bad

  pub no_fault_next : length text < limit → has_bad_head stations (open_bytes text ++ b ∷ []) ≡ false → fault_next stations limit (length text) (open_bytes text) b ≡ None
  unfolding fault_next
  no_fault_next h good =
      ap (λ t. cond t (Some (TooLong limit)) (cond (has_bad_head stations (open_bytes text ++ b ∷ [])) (Some (BadRecord (length text - length (open_bytes text)))) None))
      (lt_isnt limit (length text + 1) (omega arith))
      ∙ ap (λ t. cond t (Some (BadRecord (length text - length (open_bytes text)))) None) good

  pub good : length text < limit → has_bad_head stations (open_bytes text ++ b ∷ []) ≡ false → came_at stations limit (text ++ b ∷ []) ≡ came_behind (open_bytes text) b
  good h fine = came-append stations limit text b
      ∙ ap (λ o. option_map_or (λ trouble. Bad trouble) o (came_behind (open_bytes text) b)) (no_fault_next h fine)

  pub stays_good : input_fault stations limit text ≡ None → length text < limit → has_bad_head stations (open_bytes text ++ b ∷ []) ≡ false → input_fault stations limit (text ++ b ∷ []) ≡ None
  stays_good before h fine = fault_of-none (input_met stations limit) text b before (met-append stations limit text b ∙ no_fault_next h fine)

-- where the open record begins, after the next byte
pub begins_there : (t : Bool) (xs ys : List ℕ) (p n : ℕ) → xs ≡ cond t [] ys → (xs ≡ [] → ⊥) → p + length ys ≡ n → p + length xs ≡ n
begins_there true xs ys p n is other h = absurd (other is)
begins_there false xs ys p n is other h = ap (λ zs. p + length zs) is ∙ h

-- where bytes are open, the next one isn't a letter
pub some_open : (part : Part) (bytes : List ℕ) → IsPart part bytes → (part ≡ parts.Letter → ⊥) → bytes ≡ [] → ⊥
some_open parts.Letter bytes is other none = other refl
some_open parts.Number bytes is other none = cc
some_open (parts.High owners.Operator) bytes is other none = cc
some_open (parts.High (owners.Station n)) bytes is other none = cc
some_open (parts.Low owners.Operator high) bytes is other none = cc
some_open (parts.Low (owners.Station n) high) bytes is other none = cc
some_open (parts.Body owners.Operator left) bytes is other none = let e = is.3 in cc
some_open (parts.Body (owners.Station n) left) bytes is other none = let e = is.3 in cc

cut_short : (p : ℕ) (xs : List ℕ) → (xs ≡ [] → ⊥) → option_map_or (λ r. Some (BadRecord r.place)) (opened_piece p xs) None ≡ Some (BadRecord p)
cut_short p [] other = absurd (other refl)
cut_short p (x ∷ xs) other = refl

-- an input that ends inside a record
pub ends_inside : (stations limit : ℕ) (text : List ℕ) → input_fault stations limit text ≡ None → (open_bytes text ≡ [] → ⊥)
    → input_wrong stations limit text ≡ Some (BadRecord (length text - length (open_bytes text)))
ends_inside stations limit text none some =
    ap (λ o. option_or o (option_map_or (λ r. Some (BadRecord r.place)) (open_record text) None)) none
    ∙ ap (λ o. option_map_or (λ r. Some (BadRecord r.place)) o None) (open_record-is text)
    ∙ cut_short (length text - length (open_bytes text)) (open_bytes text) some

-- an input that ends between records
pub ends_between : (stations limit : ℕ) (text : List ℕ) → input_fault stations limit text ≡ None → open_bytes text ≡ [] → input_wrong stations limit text ≡ None
ends_between stations limit text none nothing =
    ap (λ o. option_or o (option_map_or (λ r. Some (BadRecord r.place)) (open_record text) None)) none
    ∙ ap (λ o. option_map_or (λ r. Some (BadRecord r.place)) o None) (open_record-is text)
    ∙ ap (λ xs. option_map_or (λ r. Some (BadRecord r.place)) (opened_piece (length text - length (open_bytes text)) xs) None) nothing

-- nothing is read yet
pub no_text : (stations limit : ℕ) → input_fault stations limit [] ≡ None
unfolding first_met
no_text stations limit = refl

pub nothing_open : open_bytes [] ≡ []
unfolding pieces_within
nothing_open = refl
