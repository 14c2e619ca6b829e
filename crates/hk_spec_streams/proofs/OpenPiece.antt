-- The piece that a text leaves open: the next byte goes to it, and begins a new piece where there is none.
use Rattle.std.proofs.Common.{◌≡◌, ℕ, zero, suc, ◌+◌, ◌-◌, ◌<◌, ◌≤◌, List, [], ◌∷◌, ◌++◌, length, take, drop, refl, sym, ◌∙◌, ap, arith, length-append, append_assoc, append-nil, true, false, inl, inr, Option, Some, None, cond}
use Rattle.std.specs.Prelude.{◌&&◌, flat_map, ◌==◌}
use Rattle.std.specs.Option.{option_map_or}
use Rattle.std.specs.List.{list_all, last_or}
use Rattle.std.proofs.lemmas.List.{length-drop, length-take-le}
use Rattle.std.proofs.lemmas.List.Concat.{flat_map-append}
use Rattle.std.proofs.lemmas.Bool.{eq-eqb}
use Rattle.std.proofs.lemmas.Bool.Decides.{leb_tells, eqb_tells}
use Rattle.hk_spec_streams.specs.Pieces.{Piece, pieces_within, is_whole, last_bytes}
use Rattle.hk_spec_streams.proofs.GrowingPieces.{IsSize, no_pieces, one_piece, first_stays, last_or-append, last_bytes-append, last_whole}

-- the open piece, where some of its bytes are there
abbrev pub opened : ℕ → List ℕ → List Piece
opened place [] = []
opened place (x ∷ xs) = record { place = place; bytes = x ∷ xs } ∷ []

-- A text from a place on, cut up: whole pieces, then what is open, which is nothing or less than its size. With one more
-- byte the same pieces are there, and then the open one with the byte.
pub record Cut (size : List ℕ → ℕ) (place : ℕ) (xs : List ℕ) (b : ℕ) (now next : List Piece) : Type 0 where
  pub front : List Piece
  pub at : ℕ
  pub rest : List ℕ
  pub whole : list_all (is_whole size) front ≡ true
  pub fits : length rest < size (rest ++ b ∷ [])
  pub open_short : (rest ≡ [] → ⊥) → length rest < size rest
  pub now_is : now ≡ front ++ opened at rest
  pub next_is : next ≡ front ++ record { place = at; bytes = rest ++ b ∷ [] } ∷ []
  pub ends : at + length rest ≡ place + length xs

pub cut : (size : List ℕ → ℕ) → IsSize size → (t u place b : ℕ) (xs : List ℕ) → length xs ≤ t → length xs < u
    → Cut size place xs b (pieces_within size t place xs) (pieces_within size u place (xs ++ b ∷ []))
unfolding pieces_within
cut size s t zero place b xs h k = absurd (omega arith)
cut size s t (suc u) place b [] h k =
    let some : 0 < size (b ∷ []) = s.positive b [] in
    record {
      front = [];
      at = place;
      rest = [];
      whole = refl;
      fits = some;
      open_short = λ no. absurd (no refl);
      now_is = no_pieces size t place;
      next_is = one_piece size u place b [] (omega (arith, some));
      ends = omega arith;
    }
cut size s zero (suc u) place b (x ∷ xs) h k = absurd (omega arith)
cut size s (suc t) (suc u) place b (x ∷ xs) h k =
    let n : ℕ = size (x ∷ xs) in
    let all : List ℕ = x ∷ xs in
    let first : Piece = record { place = place; bytes = take n all } in
    let some : 0 < size (x ∷ xs) = s.positive x xs in
    let rest : length (drop (size (x ∷ xs)) (x ∷ xs)) ≡ suc (length xs) - size (x ∷ xs) = length-drop n all in
    elim (leb_tells (size (x ∷ xs)) (length (x ∷ xs))) [
      | inl short ↦
          let is : is_whole size first ≡ true = eq-eqb _ _ (s.whole all short.1 ∙ sym (length-take-le n all short.1)) in
          let later = cut size s t u (place + n) b (drop n all) (omega (arith, some, rest)) (omega (arith, some, rest)) in
          record {
            front = first ∷ later.front;
            at = later.at;
            rest = later.rest;
            whole = ap (λ w. w && list_all (is_whole size) later.front) is ∙ later.whole;
            fits = later.fits;
            open_short = later.open_short;
            now_is = ap (λ ps. first ∷ ps) later.now_is;
            next_is = first_stays size s u place b x xs short.1 ∙ ap (λ ps. first ∷ ps) later.next_is;
            ends = omega (arith, later.ends, rest, short.1);
          }
      | inr long_one ↦
          let long : length (xs ++ b ∷ []) ≡ length xs + 1 = length-append xs (b ∷ []) in
          let more : suc (length xs) < size (x ∷ (xs ++ b ∷ [])) = s.taking all b long_one.1 in
          record {
            front = [];
            at = place;
            rest = x ∷ xs;
            whole = refl;
            fits = more;
            open_short = λ no. long_one.1;
            now_is = one_piece size t place x xs (omega (arith, long_one.1));
            next_is = one_piece size u place x (xs ++ b ∷ []) (omega (arith, long, more));
            ends = refl;
          }
    ]

-- the bytes of the last piece, where it isn't whole
unfoldable pub open_bytes_of : (List ℕ → ℕ) → List Piece → List ℕ
open_bytes_of size ps = option_map_or (λ p. cond (is_whole size p) [] p.bytes) (last_or None ps) []

pub isnt_whole : (size : List ℕ → ℕ) (xs : List ℕ) → length xs < size xs → (size xs == length xs) ≡ false
isnt_whole size xs short = elim (eqb_tells (size xs) (length xs)) [ inl same ↦ absurd (omega (arith, same.1)) | inr other ↦ other.0 ]

open_after : (size : List ℕ → ℕ) (front : List Piece) (at : ℕ) (rest : List ℕ) → list_all (is_whole size) front ≡ true → ((rest ≡ [] → ⊥) → length rest < size rest)
    → open_bytes_of size (front ++ opened at rest) ≡ rest
unfolding open_bytes_of
open_after size front at [] whole short = ap (λ ps. option_map_or (λ p. cond (is_whole size p) [] p.bytes) (last_or None ps) []) (append-nil front) ∙ last_whole size (λ o. option_map_or (λ p. cond (is_whole size p) [] p.bytes) o [] ≡ []) (λ p is. ap (λ w. cond w [] p.bytes) is) None front refl whole
open_after size front at (x ∷ xs) whole short =
    ap (λ o. option_map_or (λ p. cond (is_whole size p) [] p.bytes) o []) (last_or-append None front (record { place = at; bytes = x ∷ xs }))
    ∙ ap (λ w. cond w [] (x ∷ xs)) (isnt_whole size (x ∷ xs) (short (λ e. cc)))

-- the open piece, if any
abbrev pub opened_piece : ℕ → List ℕ → Option Piece
opened_piece place [] = None
opened_piece place (x ∷ xs) = Some (record { place = place; bytes = x ∷ xs })

unless_whole : (List ℕ → ℕ) → Option Piece → Option Piece
unless_whole size o = option_map_or (λ p. cond (is_whole size p) None (Some p)) o None

pub open_piece_after : (size : List ℕ → ℕ) (front : List Piece) (at : ℕ) (rest : List ℕ) → list_all (is_whole size) front ≡ true → ((rest ≡ [] → ⊥) → length rest < size rest)
    → option_map_or (λ p. cond (is_whole size p) None (Some p)) (last_or None (front ++ opened at rest)) None ≡ opened_piece at rest
unfolding unless_whole
open_piece_after size front at [] whole short = ap (λ ps. unless_whole size (last_or None ps)) (append-nil front) ∙ last_whole size (λ o. unless_whole size o ≡ None) (λ p is. ap (λ w. cond w None (Some p)) is) None front refl whole
open_piece_after size front at (x ∷ xs) whole short =
    ap (λ o. unless_whole size o) (last_or-append None front (record { place = at; bytes = x ∷ xs }))
    ∙ ap (λ w. cond w None (Some (record { place = at; bytes = x ∷ xs }))) (isnt_whole size (x ∷ xs) (short (λ e. cc)))

module _ (size : List ℕ → ℕ) (place : ℕ) (xs : List ℕ) (b : ℕ) (now next : List Piece) (c : Cut size place xs b now next) where
  -- what is open before the byte
  pub open_before : open_bytes_of size now ≡ c.rest
  open_before = ap (open_bytes_of size) c.now_is ∙ open_after size c.front c.at c.rest c.whole c.open_short

  -- what is open after the byte: nothing, where it completes its piece
  pub open_next : open_bytes_of size next ≡ cond (size (c.rest ++ b ∷ []) == length (c.rest ++ b ∷ [])) [] (c.rest ++ b ∷ [])
  unfolding open_bytes_of
  open_next = ap (λ ps. option_map_or (λ p. cond (is_whole size p) [] p.bytes) (last_or None ps) []) c.next_is
      ∙ ap (λ o. option_map_or (λ p. cond (is_whole size p) [] p.bytes) o []) (last_or-append None c.front (record { place = c.at; bytes = c.rest ++ b ∷ [] }))

  -- the byte stands at the end of the last piece
  pub last_next : last_bytes next ≡ c.rest ++ b ∷ []
  last_next = ap last_bytes c.next_is ∙ last_bytes-append c.front (record { place = c.at; bytes = c.rest ++ b ∷ [] })

  -- what is made of each piece grows by what the byte adds to the open one
  pub grows : {A : Type 0} (f : Piece → List A) (more : List A) → f (record { place = c.at; bytes = c.rest ++ b ∷ [] }) ≡ flat_map f (opened c.at c.rest) ++ more
      → flat_map f next ≡ flat_map f now ++ more
  grows f more adds =
      ap (flat_map f) c.next_is ∙ flat_map-append f c.front (record { place = c.at; bytes = c.rest ++ b ∷ [] } ∷ [])
      ∙ ap (λ ys. flat_map f c.front ++ ys) (append-nil (f (record { place = c.at; bytes = c.rest ++ b ∷ [] })) ∙ adds)
      ∙ sym (append_assoc (flat_map f c.front) (flat_map f (opened c.at c.rest)) more)
      ∙ ap (λ ys. ys ++ more) (sym (ap (flat_map f) c.now_is ∙ flat_map-append f c.front (opened c.at c.rest)))
