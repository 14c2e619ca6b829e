-- An input with one more byte: which record it belongs to, and whether it arrives at a stream.
use Rattle.std.proofs.Common.{◌≡◌, ℕ, suc, ◌+◌, ◌-◌, ◌<◌, ◌≤◌, List, [], ◌∷◌, ◌++◌, length, take, drop, map, refl, sym, ◌∙◌, ap, arith, subst, length-append, append-nil, Bool, true, false, inl, inr, Some, None, cond}
use Rattle.std.specs.Prelude.{◌==◌, nat_le, flat_map}
use Rattle.std.specs.Int.{w16, from_be_bytes}
use Rattle.std.specs.Option.{option_map_or}
use Rattle.std.specs.List.{last_or}
use Rattle.std.proofs.lemmas.List.{map-append, drop-append-le, drop_all, drop-take}
use Rattle.std.proofs.lemmas.Bool.Decides.{leb_tells}
use Rattle.hk_spec_streams.specs.Pieces.{Piece, is_whole, last_bytes}
use Rattle.hk_spec_streams.specs.Records.{STATION, Arrival, arrival_in, arrival_after, arrivals_of, arrivals, records, record_size, head_size, open_bytes, open_record}
use Rattle.hk_spec_streams.proofs.GrowingPieces.{IsSize}
use Rattle.hk_spec_streams.proofs.PacketSize.{by_head, is_size, same_size}
use Rattle.hk_spec_streams.proofs.OpenPiece.{Cut, cut, opened, opened_piece, open_piece_after, open_bytes_of, open_before, open_next, last_next, grows}

-- how long a record is, by whether it is a station's
size_by : Bool → List ℕ → ℕ
size_by t bytes = cond t 4 3 + from_be_bytes w16 (take 2 (drop (cond t 4 3 - 2) bytes))

by_letter : (t : Bool) → IsSize (size_by t)
unfolding size_by
by_letter true = same_size (by_head 4 (λ head. from_be_bytes w16 (drop 2 head)) (omega arith)) (size_by true) (is_size 4 (λ head. from_be_bytes w16 (drop 2 head)) (omega arith))
    (λ bytes. ap (λ length_bytes. 4 + from_be_bytes w16 length_bytes) (sym (drop-take 2 2 bytes)))
by_letter false = same_size (by_head 3 (λ head. from_be_bytes w16 (drop 1 head)) (omega arith)) (size_by false) (is_size 3 (λ head. from_be_bytes w16 (drop 1 head)) (omega arith))
    (λ bytes. ap (λ length_bytes. 3 + from_be_bytes w16 length_bytes) (sym (drop-take 1 2 bytes)))

at_least : (t : Bool) (xs : List ℕ) → 0 < size_by t xs
unfolding size_by
at_least true xs = omega arith
at_least false xs = omega arith

settled : (xs ys : List ℕ) → record_size xs ≤ length xs → record_size (xs ++ ys) ≡ record_size xs
unfolding size_by
settled [] ys h = absurd (let none : 3 ≤ 0 = omega arith in omega (arith, none))
settled (a ∷ xs) ys h = (by_letter (a == STATION)).settled (a ∷ xs) ys h

whole : (xs : List ℕ) → record_size xs ≤ length xs → record_size (take (record_size xs) xs) ≡ record_size xs
unfolding size_by
whole [] h = absurd (let none : 3 ≤ 0 = omega arith in omega (arith, none))
whole (a ∷ xs) h =
    let n : ℕ = size_by (a == STATION) (a ∷ xs) in
    let some : 0 < size_by (a == STATION) (a ∷ xs) = at_least (a == STATION) (a ∷ xs) in
    let shape : suc (n - 1) ≡ n = omega (arith, some) in
    let P : ℕ → Type 0 = λ m. record_size (take m (a ∷ xs)) ≡ size_by (a == STATION) (take m (a ∷ xs)) in
    subst P shape refl ∙ (by_letter (a == STATION)).whole (a ∷ xs) h

taking : (xs : List ℕ) (y : ℕ) → length xs < record_size xs → length xs < record_size (xs ++ y ∷ [])
unfolding size_by
taking [] y h = at_least (y == STATION) (y ∷ [])
taking (a ∷ xs) y h = (by_letter (a == STATION)).taking (a ∷ xs) y h

pub record_size_is_size : IsSize record_size
unfolding size_by
record_size_is_size = record {
  positive = λ x xs. at_least (x == STATION) (x ∷ xs);
  settled = settled;
  whole = whole;
  taking = taking;
}

nothing_in_head : (g : ℕ → Arrival) (n : ℕ) (xs : List ℕ) → length xs ≤ n → map g (drop n xs) ≡ []
nothing_in_head g n xs short = ap (map g) (drop_all n xs short)

-- what a record's bytes bring, with one byte more
arrivals_more : (at : ℕ) (rest : List ℕ) (b : ℕ)
    → arrivals_of (record { place = at; bytes = rest ++ b ∷ [] }) ≡ flat_map arrivals_of (opened at rest) ++ arrival_after rest b
arrivals_more at [] b = elim (b == STATION) as (λ t. map (arrival_in (b ∷ [])) (drop (cond t 4 3) (b ∷ [])) ≡ []) [ true ↦ refl | false ↦ refl ]
arrivals_more at (x ∷ []) b =
    let g : ℕ → Arrival = arrival_in (x ∷ b ∷ []) in
    elim (x == STATION) as (λ t. map g (drop (cond t 4 3) (x ∷ b ∷ [])) ≡ map (arrival_in (x ∷ [])) (drop (cond t 4 3) (x ∷ [])) ++ [] ++ cond (nat_le (cond t 4 3) 1) (arrival_in (x ∷ []) b ∷ []) [])
    [ true ↦ refl | false ↦ refl ]
arrivals_more at (x ∷ y ∷ zs) b =
    let all : List ℕ = x ∷ y ∷ zs in
    let g : ℕ → Arrival = arrival_in (x ∷ y ∷ zs) in
    let h : ℕ = head_size (x ∷ y ∷ zs) in
    let here : map g (drop h all) ++ [] ≡ map g (drop h all) = append-nil (map g (drop h all)) in
    elim (leb_tells (head_size (x ∷ y ∷ zs)) (length (x ∷ y ∷ zs))) [
      | inl past ↦
          ap (map g) (drop-append-le h all (b ∷ []) past.1) ∙ map-append g (drop h all) (b ∷ [])
          ∙ ap (λ ys. ys ++ g b ∷ []) (sym here) ∙ ap (λ t. map g (drop h all) ++ [] ++ cond t (g b ∷ []) []) (sym past.0)
      | inr within ↦
          let long : length (all ++ b ∷ []) ≡ length all + 1 = length-append all (b ∷ []) in
          nothing_in_head g h (all ++ b ∷ []) (omega (arith, long, within.1))
          ∙ sym (ap (λ t. map g (drop h all) ++ [] ++ cond t (g b ∷ []) []) within.0 ∙ append-nil (map g (drop h all) ++ []) ∙ here ∙ nothing_in_head g h all (omega (arith, within.1)))
    ]

cut_records : (text : List ℕ) (b : ℕ) → Cut record_size 0 text b (records text) (records (text ++ b ∷ []))
cut_records text b =
    let long : length (text ++ b ∷ []) ≡ length text + 1 = length-append text (b ∷ []) in
    cut record_size record_size_is_size (length text) (length (text ++ b ∷ [])) 0 b text (omega arith) (omega (arith, long))

-- both ways to say what is open
same_open : (ps : List Piece) → option_map_or (λ r. r.bytes) (option_map_or (λ r. cond (is_whole record_size r) None (Some r)) (last_or None ps) None) [] ≡ open_bytes_of record_size ps
unfolding open_bytes_of
same_open ps = elim (last_or None ps) as (λ o. option_map_or (λ r. r.bytes) (option_map_or (λ r. cond (is_whole record_size r) None (Some r)) o None) [] ≡ option_map_or (λ p. cond (is_whole record_size p) [] p.bytes) o []) [
  | None ↦ refl
  | Some p ↦ elim (is_whole record_size p) as (λ t. option_map_or (λ r. r.bytes) (cond t None (Some p)) [] ≡ cond t [] p.bytes) [ true ↦ refl | false ↦ refl ]
]

rest_is_open : (text : List ℕ) (b : ℕ) → (cut_records text b).rest ≡ open_bytes text
rest_is_open text b = sym (open_before record_size 0 text b _ _ (cut_records text b)) ∙ sym (same_open (records text))

-- the next byte belongs to what is open
pub last_record-append : (text : List ℕ) (b : ℕ) → last_bytes (records (text ++ b ∷ [])) ≡ open_bytes text ++ b ∷ []
last_record-append text b = last_next record_size 0 text b _ _ (cut_records text b) ∙ ap (λ xs. xs ++ b ∷ []) (rest_is_open text b)

-- nothing is open where the byte completes its record
pub open_bytes-append : (text : List ℕ) (b : ℕ)
    → open_bytes (text ++ b ∷ []) ≡ cond (record_size (open_bytes text ++ b ∷ []) == length (open_bytes text ++ b ∷ [])) [] (open_bytes text ++ b ∷ [])
open_bytes-append text b =
    same_open (records (text ++ b ∷ [])) ∙ open_next record_size 0 text b _ _ (cut_records text b)
    ∙ ap (λ xs. cond (record_size (xs ++ b ∷ []) == length (xs ++ b ∷ [])) [] (xs ++ b ∷ [])) (rest_is_open text b)

-- the byte arrives at a stream, or stands in a head
pub arrivals-append : (text : List ℕ) (b : ℕ) → arrivals (text ++ b ∷ []) ≡ arrivals text ++ arrival_after (open_bytes text) b
unfolding arrivals
arrivals-append text b =
    let c : Cut record_size 0 text b (records text) (records (text ++ b ∷ [])) = cut_records text b in
    grows record_size 0 text b _ _ c arrivals_of (arrival_after c.rest b) (arrivals_more c.at c.rest b)
    ∙ ap (λ xs. arrivals text ++ arrival_after xs b) (rest_is_open text b)

-- the open record stands at the end of the text
pub open_record-is : (text : List ℕ) → open_record text ≡ opened_piece (length text - length (open_bytes text)) (open_bytes text)
open_record-is text =
    let c : Cut record_size 0 text 0 (records text) (records (text ++ 0 ∷ [])) = cut_records text 0 in
    let there : c.at ≡ length text - length c.rest = omega (arith, c.ends) in
    ap (λ ps. option_map_or (λ p. cond (is_whole record_size p) None (Some p)) (last_or None ps) None) c.now_is
    ∙ open_piece_after record_size c.front c.at c.rest c.whole c.open_short
    ∙ ap (λ p. opened_piece p c.rest) there
    ∙ ap (λ xs. opened_piece (length text - length xs) xs) (rest_is_open text 0)
