-- The last piece of a text with one more byte, for pieces of any size.
use Rattle.std.proofs.Common.{◌≡◌, ℕ, suc, ◌+◌, ◌<◌, ◌≤◌, List, [], ◌∷◌, ◌++◌, length, drop, refl, sym, ◌∙◌, ap, subst, arith, length-append, append-nil, Bool, true, false, inl, inr, None, cond}
use Rattle.std.proofs.lemmas.List.{drop-append-le, length-drop}
use Rattle.std.proofs.lemmas.List.Folds.{list_all-append}
use Rattle.std.proofs.lemmas.Bool.Decides.{eqb_tells}
use Rattle.std.proofs.Math.Bool.{or-true}
use Rattle.std.specs.Prelude.{◌&&◌, ◌||◌, ◌==◌, if◌then◌else◌}
use Rattle.std.specs.Option.{option_map_or}
use Rattle.std.specs.List.{list_all}
use Rattle.hk_spec_streams.specs.Pieces.{Piece, pieces, pieces_within, is_whole, last_bytes}
use Rattle.hk_spec_streams.proofs.GrowingPieces.{IsSize, last_bytes-append, last_whole}
use Rattle.hk_spec_streams.proofs.OpenPiece.{cut, opened, isnt_whole}

-- the next byte begins a piece: there is none, or the last one is whole
abbrev pub over : (List ℕ → ℕ) → List ℕ → Bool
over size bytes = (length bytes == 0) || (size bytes == length bytes)

-- what is known of the last piece
pub record Last (size : List ℕ → ℕ) (end : ℕ) (front : List Piece) (last : Piece) : Type 0 where
  pub whole : list_all (is_whole size) front ≡ true
  pub some : 0 < length last.bytes
  pub ends : last.place + length last.bytes ≡ end

-- One byte more, at this place, and the pieces before and after it: it begins a piece behind the whole ones, or goes to
-- the last one.
pub data Next (size : List ℕ → ℕ) (end b : ℕ) (before after : List Piece) : Type 0 where
  Begins : over size (last_bytes before) ≡ true → after ≡ before ++ record { place = end; bytes = b ∷ [] } ∷ [] → Next size end b before after
  Goes : (front : List Piece) (last : Piece) → over size (last_bytes before) ≡ false → before ≡ front ++ last ∷ []
      → after ≡ front ++ record { place = last.place; bytes = last.bytes ++ b ∷ [] } ∷ [] → Last size end front last → Next size end b before after

-- behind whole pieces the next byte begins one
over_whole : (size : List ℕ → ℕ) (front : List Piece) → list_all (is_whole size) front ≡ true → over size (last_bytes front) ≡ true
over_whole size front whole =
    last_whole size (λ o. over size (option_map_or (λ p. p.bytes) o []) ≡ true)
    (λ p is. ap (λ w. (length p.bytes == 0) || w) is ∙ or-true (length p.bytes == 0)) None front refl whole

-- and it goes to a piece that isn't whole
not_over : (size : List ℕ → ℕ) (front : List Piece) (at : ℕ) (x : ℕ) (xs : List ℕ) → length (x ∷ xs) < size (x ∷ xs)
    → over size (last_bytes (front ++ record { place = at; bytes = x ∷ xs } ∷ [])) ≡ false
not_over size front at x xs short =
    let some : (length (x ∷ xs) == 0) ≡ false = elim (eqb_tells (length (x ∷ xs)) 0) [ inl none ↦ absurd (omega (arith, none.1)) | inr other ↦ other.0 ] in
    ap (over size) (last_bytes-append front (record { place = at; bytes = x ∷ xs }))
    ∙ ap (λ c. c || (size (x ∷ xs) == length (x ∷ xs))) some ∙ isnt_whole size (x ∷ xs) short

all_by : (size : List ℕ → ℕ) (front : List Piece) (at : ℕ) (rest : List ℕ) → list_all (is_whole size) front ≡ true → ((rest ≡ [] → ⊥) → length rest < size rest)
    → list_all (is_whole size) (front ++ opened at rest) ≡ over size (last_bytes (front ++ opened at rest))
all_by size front at [] whole short =
    ap (list_all (is_whole size)) (append-nil front) ∙ whole ∙ sym (ap (λ ps. over size (last_bytes ps)) (append-nil front) ∙ over_whole size front whole)
all_by size front at (x ∷ xs) whole short =
    let p : Piece = record { place = at; bytes = x ∷ xs } in
    list_all-append (is_whole size) front (p ∷ []) ∙ ap (λ b. b && (is_whole size p && true)) whole
    ∙ ap (λ b. b && true) (isnt_whole size (x ∷ xs) (short (λ e. cc))) ∙ sym (not_over size front at x xs (short (λ e. cc)))

-- all pieces are whole exactly where the next byte begins one
pub all_whole : (size : List ℕ → ℕ) → IsSize size → (t place : ℕ) (xs : List ℕ) → length xs ≤ t
    → list_all (is_whole size) (pieces_within size t place xs) ≡ over size (last_bytes (pieces_within size t place xs))
all_whole size s t place xs h =
    let c = cut size s t (suc t) place 0 xs h (omega arith) in
    ap (list_all (is_whole size)) c.now_is ∙ all_by size c.front c.at c.rest c.whole c.open_short ∙ sym (ap (λ ps. over size (last_bytes ps)) c.now_is)

next_by : (size : List ℕ → ℕ) (end b : ℕ) (before after front : List Piece) (at : ℕ) (rest : List ℕ) → list_all (is_whole size) front ≡ true
    → ((rest ≡ [] → ⊥) → length rest < size rest) → before ≡ front ++ opened at rest → after ≡ front ++ record { place = at; bytes = rest ++ b ∷ [] } ∷ []
    → at + length rest ≡ end → Next size end b before after
next_by size end b before after front at [] whole short now grown ends =
    let same : before ≡ front = now ∙ append-nil front in
    let here : at ≡ end = omega (arith, ends) in
    Begins (ap (λ ps. over size (last_bytes ps)) same ∙ over_whole size front whole)
    (grown ∙ ap (λ p. front ++ record { place = p; bytes = b ∷ [] } ∷ []) here ∙ ap (λ ps. ps ++ record { place = end; bytes = b ∷ [] } ∷ []) (sym same))
next_by size end b before after front at (x ∷ xs) whole short now grown ends =
    Goes front (record { place = at; bytes = x ∷ xs }) (ap (λ ps. over size (last_bytes ps)) now ∙ not_over size front at x xs (short (λ e. cc))) now grown
    (record { whole = whole; some = omega arith; ends = ends })

pub next_piece : (size : List ℕ → ℕ) → IsSize size → (place b : ℕ) (xs : List ℕ)
    → Next size (place + length xs) b (pieces size place xs) (pieces size place (xs ++ b ∷ []))
next_piece size s place b xs =
    let long : length (xs ++ b ∷ []) ≡ length xs + 1 = length-append xs (b ∷ []) in
    let c = cut size s (length xs) (length (xs ++ b ∷ [])) place b xs (omega arith) (omega (arith, long)) in
    next_by size (place + length xs) b (pieces size place xs) (pieces size place (xs ++ b ∷ [])) c.front c.at c.rest c.whole c.open_short c.now_is c.next_is c.ends

-- the same of a text behind its first bytes
pub next_behind : (size : List ℕ → ℕ) → IsSize size → (n b : ℕ) (text : List ℕ) → n ≤ length text
    → Next size (length text) b (pieces size n (drop n text)) (pieces size n (drop n (text ++ b ∷ [])))
next_behind size s n b text h =
    let P : List ℕ → Type 0 = λ ys. Next size (length text) b (pieces size n (drop n text)) (pieces size n ys) in
    let Q : ℕ → Type 0 = λ end. Next size end b (pieces size n (drop n text)) (pieces size n (drop n text ++ b ∷ [])) in
    let end : n + length (drop n text) ≡ length text = omega (arith, length-drop n text) in
    subst P (sym (drop-append-le n text (b ∷ []) h)) (subst Q end (next_piece size s n b (drop n text)))

-- the last piece's bytes with one more byte
pub last_bytes-next : (size : List ℕ → ℕ) (end b : ℕ) (before after : List Piece) → Next size end b before after
    → last_bytes after ≡ (if over size (last_bytes before) then b ∷ [] else last_bytes before ++ b ∷ [])
last_bytes-next size end b before after (Begins begins grown) =
    ap last_bytes grown ∙ last_bytes-append before (record { place = end; bytes = b ∷ [] })
    ∙ sym (ap (λ c. cond c (b ∷ []) (last_bytes before ++ b ∷ [])) begins)
last_bytes-next size end b before after (Goes front last goes old grown is) =
    ap last_bytes grown ∙ last_bytes-append front (record { place = last.place; bytes = last.bytes ++ b ∷ [] })
    ∙ sym (ap (λ bytes. bytes ++ b ∷ []) (ap last_bytes old ∙ last_bytes-append front last))
    ∙ sym (ap (λ c. cond c (b ∷ []) (last_bytes before ++ b ∷ [])) goes)
