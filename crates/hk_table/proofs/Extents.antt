-- Songs in the words of a store, and one more behind them.
use Rattle.std.proofs.Common.{◌≡◌, ◌≢◌, ℕ, zero, suc, ◌+◌, ◌<◌, ◌≤◌, List, [], ◌∷◌, ◌++◌, length, take, drop, get_or, set, map, refl, sym, ◌∙◌, ap, arith, subst, inl, inr, Option, Some, None}
use Rattle.std.specs.List.{All}
use Rattle.std.specs.Option.{option_map}
use Rattle.std.proofs.lemmas.Bool.{cases_eq, cases_lt}
use Rattle.std.proofs.lemmas.List.{take_all, drop_at, take-append-le, drop-append-le, length-drop, length-take-le, get_or_past, get_or-set_same, get_or-set_other, map-set}
use Rattle.std.proofs.lemmas.List.Elements.{All-weaker, All-set}
use Rattle.std.proofs.lemmas.List.Sums.{sum_by-cons}
use Rattle.hk_table.specs.Store.{SongWithId, size_of, words_in}
use Rattle.hk_table.specs.Extents.{extent_song, extent_songs, IsWithin, IsSlotWithin, AreSlotsApart, AreApart, length_of, lengths_in}
use Rattle.hk_table.specs.declared.extent.Extent.{Extent}

pub get_map : {A X : Type 0} (f : A → X) (slots : List (Option A)) (i : ℕ) → get_or (map (option_map f) slots) i None ≡ option_map f (get_or slots i None)
get_map f [] i = refl
get_map f (s ∷ ss) zero = refl
get_map f (s ∷ ss) (suc i) = get_map f ss i

-- the words of an extent within the words of a store are as many as it says
pub length-song : (words : List ℕ) (e : Extent) → IsWithin (length words) e → length (extent_song words e).words ≡ e.length
length-song words e within = length-take-le e.length (drop e.start words) (omega (arith, length-drop e.start words, within.ends))

size-song : (words : List ℕ) (slot : Option Extent) → IsSlotWithin (length words) slot → size_of (option_map (extent_song words) slot) ≡ length_of slot
size-song words None within = refl
size-song words (Some e) within = length-song words e within

-- the words of all songs are those of their extents
pub sizes : (words : List ℕ) (slots : List (Option Extent)) → All (IsSlotWithin (length words)) slots → words_in (extent_songs words slots) ≡ lengths_in slots
sizes words [] within = refl
sizes words (s ∷ ss) within =
    let first = size-song words s (within zero s (omega arith)) in
    let rest = sizes words ss (λ k d low. within (suc k) d (omega arith)) in
    omega (arith, sum_by-cons size_of (option_map (extent_song words) s) (extent_songs words ss), sum_by-cons length_of s ss, first, rest)

-- words behind the store change no song within it
slot_stays : (words more : List ℕ) (slot : Option Extent) → IsSlotWithin (length words) slot
    → option_map (extent_song (words ++ more)) slot ≡ option_map (extent_song words) slot
slot_stays words more None within = refl
slot_stays words more (Some e) within =
    let ends : e.start + e.length ≤ length words = within.ends in
    ap (λ ws. Some (record { id = e.id; words = ws }))
    (ap (take e.length) (drop-append-le e.start words more (omega (arith, ends)))
    ∙ take-append-le e.length (drop e.start words) more (omega (arith, length-drop e.start words, ends)))

pub slots_stay : (words more : List ℕ) (slots : List (Option Extent)) → All (IsSlotWithin (length words)) slots
    → extent_songs (words ++ more) slots ≡ extent_songs words slots
slots_stay words more [] within = refl
slots_stay words more (s ∷ ss) within =
    ap (λ t. t ∷ extent_songs (words ++ more) ss) (slot_stays words more s (within zero s (omega arith)))
    ∙ ap (λ ts. option_map (extent_song words) s ∷ ts) (slots_stay words more ss (λ k d low. within (suc k) d (omega arith)))

-- the extent of a song behind the words of a store
abbrev pub behind : List ℕ → SongWithId → Extent
behind words song = record { id = song.id; start = length words; length = length song.words }

song-behind : (words : List ℕ) (song : SongWithId) → extent_song (words ++ song.words) (behind words song) ≡ song
song-behind words song =
    ap (λ ws. record { id = song.id; words = take (length song.words) ws }) (drop_at words song.words (length words) refl)
    ∙ ap (λ ws. record { id = song.id; words = ws }) (take_all (length song.words) song.words (omega arith))

-- the songs with one more
pub songs-behind : (words : List ℕ) (slots : List (Option Extent)) (slot : ℕ) (song : SongWithId) → All (IsSlotWithin (length words)) slots
    → extent_songs (words ++ song.words) (set slots slot (Some (behind words song))) ≡ set (extent_songs words slots) slot (Some song)
songs-behind words slots slot song within =
    map-set (option_map (extent_song (words ++ song.words))) slots slot (Some (behind words song))
    ∙ ap (λ ts. set ts slot (Some (extent_song (words ++ song.words) (behind words song)))) (slots_stay words song.words slots within)
    ∙ ap (λ t. set (extent_songs words slots) slot (Some t)) (song-behind words song)

within_more : (n m : ℕ) → n ≤ m → (slot : Option Extent) → IsSlotWithin n slot → IsSlotWithin m slot
within_more n m more None within = within
within_more n m more (Some e) within = record { ends = omega (arith, within.ends, more); long = within.long }

pub within-behind : (n m : ℕ) (slots : List (Option Extent)) (slot : ℕ) (e : Extent) → n ≤ m → All (IsSlotWithin n) slots → IsWithin m e
    → All (IsSlotWithin m) (set slots slot (Some e))
within-behind n m slots slot e more within here =
    All-set (IsSlotWithin m) slots slot (Some e) here (All-weaker (IsSlotWithin n) (IsSlotWithin m) (within_more n m more) slots within)

-- what holds of each slot holds of a slot that isn't there, where it holds of an empty one
pub at_any : (P : Option Extent → Type 0) (slots : List (Option Extent)) → P None → All P slots → (i : ℕ) → P (get_or slots i None)
at_any P slots none all i = elim (cases_lt i (length slots)) [
  | inl low ↦ all i None low
  | inr high ↦ subst P (sym (get_or_past slots i None high)) none
]

pub none_apart : (slot : Option Extent) → AreSlotsApart slot None
none_apart None = tt
none_apart (Some e) = tt

-- slots of which one is set to what is apart from all others
pub apart-set : (slots : List (Option Extent)) (slot : ℕ) (x : Option Extent) → slot < length slots → AreApart slots
    → ((i : ℕ) → AreSlotsApart x (get_or slots i None)) → ((i : ℕ) → AreSlotsApart (get_or slots i None) x) → AreApart (set slots slot x)
apart-set slots slot x low apart above below i j other =
    let new = set slots slot x in
    let here : get_or new slot None ≡ x = get_or-set_same slots slot x None low in
    elim (cases_eq i slot) [
      | inl at_i ↦
          let at_j : j ≢ slot = λ same. other (at_i ∙ sym same) in
          let is_i : get_or new i None ≡ x = ap (λ k. get_or new k None) at_i ∙ here in
          subst (λ s. AreSlotsApart s (get_or new j None)) (sym is_i)
          (subst (AreSlotsApart x) (sym (get_or-set_other slots slot j x None at_j)) (above j))
      | inr off_i ↦ subst (λ s. AreSlotsApart s (get_or new j None)) (sym (get_or-set_other slots slot i x None off_i))
          (elim (cases_eq j slot) [
            | inl at_j ↦ subst (AreSlotsApart (get_or slots i None)) (sym (ap (λ k. get_or new k None) at_j ∙ here)) (below i)
            | inr off_j ↦ subst (AreSlotsApart (get_or slots i None)) (sym (get_or-set_other slots slot j x None off_j)) (apart i j other)
          ])
    ]

-- an extent that begins where the words end is apart from all within them
behind_apart : (n : ℕ) (e : Extent) (slot : Option Extent) → e.start ≡ n → IsSlotWithin n slot → AreSlotsApart (Some e) slot
behind_apart n e None at within = tt
behind_apart n e (Some b) at within =
    record { above = λ low. absurd (omega (arith, within.ends, within.long, at, low)); below = λ low. omega (arith, within.ends, at) }

apart_behind : (n : ℕ) (e : Extent) (slot : Option Extent) → e.start ≡ n → IsSlotWithin n slot → AreSlotsApart slot (Some e)
apart_behind n e None at within = tt
apart_behind n e (Some b) at within =
    record { above = λ low. omega (arith, within.ends, at); below = λ low. absurd (omega (arith, within.ends, within.long, at, low)) }

pub apart-behind : (n : ℕ) (slots : List (Option Extent)) (slot : ℕ) (e : Extent) → slot < length slots → e.start ≡ n → All (IsSlotWithin n) slots
    → AreApart slots → AreApart (set slots slot (Some e))
apart-behind n slots slot e low at within apart =
    let any : (i : ℕ) → IsSlotWithin n (get_or slots i None) = at_any (IsSlotWithin n) slots tt within in
    apart-set slots slot (Some e) low apart (λ i. behind_apart n e (get_or slots i None) at (any i)) (λ i. apart_behind n e (get_or slots i None) at (any i))
