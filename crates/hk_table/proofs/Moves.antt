-- The songs of a store once the words of one are gone.
use Rattle.std.proofs.Common.{◌≡◌, ◌⊎◌, ℕ, zero, suc, ◌+◌, ◌-◌, ◌<◌, ◌≤◌, List, [], ◌∷◌, ◌++◌, length, take, drop, get_or, set, map, refl, sym, ◌∙◌, ap, arith, subst, inl, inr, Option, Some, None, length-append, cond}
use Rattle.std.specs.List.{All}
use Rattle.std.specs.Option.{option_map}
use Rattle.std.proofs.lemmas.Bool.{cases_eq}
use Rattle.std.proofs.lemmas.Bool.Decides.{leb_tells}
use Rattle.std.proofs.lemmas.List.{drop_at, drop-drop, drop-take, take-take, take-append-le, drop-append-le, length-drop, length-take-le, get_or-set_same, get_or-set_other, map-set}
use Rattle.std.proofs.lemmas.List.Elements.{All-from_get_or, All-set}
use Rattle.std.proofs.lemmas.List.Sums.{sum_by-cons}
use Rattle.hk_table.specs.Store.{SongWithId}
use Rattle.hk_table.specs.Extents.{extent_song, extent_songs, IsWithin, IsSlotWithin, IsApart, AreSlotsApart, IsSlotApart, AreApart, moved_down, length_of, lengths_in}
use Rattle.hk_table.specs.declared.extent.Extent.{Extent}
use Rattle.hk_table.proofs.Extents.{at_any, none_apart, apart-set, get_map}

-- what is left of the words
abbrev pub closed : List ℕ → Extent → List ℕ
closed words gone = take gone.start words ++ drop (gone.start + gone.length) words

pub length-closed : (words : List ℕ) (gone : Extent) → IsWithin (length words) gone → length (closed words gone) + gone.length ≡ length words
length-closed words gone within =
    let front : length (take gone.start words) ≡ gone.start = length-take-le gone.start words (omega (arith, within.ends)) in
    omega (arith, length-append (take gone.start words) (drop (gone.start + gone.length) words), front, length-drop (gone.start + gone.length) words, within.ends)

-- an extent moves where it begins behind the one that is gone
moves : (gone e : Extent) → ((gone.start < e.start) × ((moved_down gone e).start ≡ e.start - gone.length)) ⊎ ((e.start ≤ gone.start) × ((moved_down gone e).start ≡ e.start))
moves gone e = elim (leb_tells (suc gone.start) e.start) [
  | inl low ↦ inl (omega (arith, low.1), ap (λ b. cond b (e.start - gone.length) e.start) low.0)
  | inr high ↦ inr (omega (arith, high.1), ap (λ b. cond b (e.start - gone.length) e.start) high.0)
]

-- the words of a song that stands behind
song_above : (words : List ℕ) (gone e : Extent) → IsWithin (length words) gone → gone.start + gone.length ≤ e.start
    → drop (e.start - gone.length) (closed words gone) ≡ drop e.start words
song_above words gone e within above =
    let front : length (take gone.start words) ≡ gone.start = length-take-le gone.start words (omega (arith, within.ends)) in
    let k : ℕ = e.start - (gone.start + gone.length) in
    let at : e.start - gone.length ≡ gone.start + k = omega arith in
    let upto : gone.start + gone.length + k ≡ e.start = omega arith in
    ap (λ n. drop n (closed words gone)) at
    ∙ sym (drop-drop k gone.start (closed words gone))
    ∙ ap (drop k) (drop_at (take gone.start words) (drop (gone.start + gone.length) words) gone.start front)
    ∙ drop-drop k (gone.start + gone.length) words
    ∙ ap (λ n. drop n words) upto

-- the words of a song that stands in front
song_below : (words : List ℕ) (gone e : Extent) → IsWithin (length words) gone → e.start + e.length ≤ gone.start
    → take e.length (drop e.start (closed words gone)) ≡ take e.length (drop e.start words)
song_below words gone e within below =
    let front : length (take gone.start words) ≡ gone.start = length-take-le gone.start words (omega (arith, within.ends)) in
    let m : ℕ = gone.start - e.start in
    let upto : gone.start ≡ e.start + m = omega arith in
    ap (take e.length) (drop-append-le e.start (take gone.start words) (drop (gone.start + gone.length) words) (omega (arith, front)))
    ∙ take-append-le e.length (drop e.start (take gone.start words)) (drop (gone.start + gone.length) words) (omega (arith, length-drop e.start (take gone.start words), front))
    ∙ ap (λ n. take e.length (drop e.start (take n words))) upto
    ∙ ap (take e.length) (drop-take e.start m words)
    ∙ take-take e.length m (drop e.start words) (omega arith)

song_moves : (words : List ℕ) (gone e : Extent) → IsWithin (length words) gone → IsApart gone e
    → extent_song (closed words gone) (moved_down gone e) ≡ extent_song words e
song_moves words gone e within apart =
    let song : List ℕ → SongWithId = λ ws. record { id = e.id; words = ws } in
    elim (moves gone e) [
      | inl up ↦ ap (λ n. song (take e.length (drop n (closed words gone)))) up.1
          ∙ ap (λ ws. song (take e.length ws)) (song_above words gone e within (apart.above (omega (arith, up.0))))
      | inr down ↦ ap (λ n. song (take e.length (drop n (closed words gone)))) down.1
          ∙ ap song (song_below words gone e within (apart.below down.0))
    ]

slot_moves : (words : List ℕ) (gone : Extent) (slot : Option Extent) → IsWithin (length words) gone → IsSlotApart gone slot
    → option_map (extent_song (closed words gone)) (option_map (moved_down gone) slot) ≡ option_map (extent_song words) slot
slot_moves words gone None within apart = refl
slot_moves words gone (Some e) within apart = ap (λ t. Some t) (song_moves words gone e within apart)

slots_move : (words : List ℕ) (gone : Extent) (slots : List (Option Extent)) → IsWithin (length words) gone → All (IsSlotApart gone) slots
    → extent_songs (closed words gone) (map (option_map (moved_down gone)) slots) ≡ extent_songs words slots
slots_move words gone [] within apart = refl
slots_move words gone (s ∷ ss) within apart =
    ap (λ t. t ∷ extent_songs (closed words gone) (map (option_map (moved_down gone)) ss)) (slot_moves words gone s within (apart zero s (omega arith)))
    ∙ ap (λ ts. option_map (extent_song words) s ∷ ts) (slots_move words gone ss within (λ k d low. apart (suc k) d (omega arith)))

-- the slots without the one that is gone
abbrev pub left : List (Option Extent) → ℕ → Extent → List (Option Extent)
left slots slot gone = map (option_map (moved_down gone)) (set slots slot None)

pub songs-left : (words : List ℕ) (slots : List (Option Extent)) (slot : ℕ) (gone : Extent) → IsWithin (length words) gone
    → All (IsSlotApart gone) (set slots slot None) → extent_songs (closed words gone) (left slots slot gone) ≡ set (extent_songs words slots) slot None
songs-left words slots slot gone within apart =
    slots_move words gone (set slots slot None) within apart ∙ map-set (option_map (extent_song words)) slots slot None

-- all other slots are apart from the one that is gone
pub others_apart : (slots : List (Option Extent)) (slot : ℕ) (gone : Extent) → slot < length slots → AreApart slots → get_or slots slot None ≡ Some gone
    → All (IsSlotApart gone) (set slots slot None)
others_apart slots slot gone low apart is = All-from_get_or (IsSlotApart gone) (set slots slot None) None (λ i inside. elim (cases_eq i slot) [
  | inl at ↦ subst (IsSlotApart gone) (sym (ap (λ k. get_or (set slots slot None) k None) at ∙ get_or-set_same slots slot None None low)) tt
  | inr off ↦ subst (IsSlotApart gone) (sym (get_or-set_other slots slot i None None off))
      (subst (λ s. AreSlotsApart s (get_or slots i None)) is (apart slot i (λ same. off (sym same))))
])

moved_within : (n m : ℕ) (gone : Extent) (slot : Option Extent) → IsWithin n gone → m + gone.length ≡ n → IsSlotWithin n slot → IsSlotApart gone slot
    → IsSlotWithin m (option_map (moved_down gone) slot)
moved_within n m gone None here fewer within apart = within
moved_within n m gone (Some e) here fewer within apart = record {
  ends = elim (moves gone e) [
    | inl up ↦ omega (arith, up.0, up.1, within.ends, apart.above (omega (arith, up.0)), fewer)
    | inr down ↦ omega (arith, down.0, down.1, apart.below down.0, here.ends, fewer)
  ];
  long = within.long;
}

all_moved : (n m : ℕ) (gone : Extent) (slots : List (Option Extent)) → IsWithin n gone → m + gone.length ≡ n → All (IsSlotWithin n) slots
    → All (IsSlotApart gone) slots → All (IsSlotWithin m) (map (option_map (moved_down gone)) slots)
all_moved n m gone [] here fewer within apart k d low = absurd (omega arith)
all_moved n m gone (s ∷ ss) here fewer within apart zero d low = moved_within n m gone s here fewer (within zero s (omega arith)) (apart zero s (omega arith))
all_moved n m gone (s ∷ ss) here fewer within apart (suc k) d low =
    all_moved n m gone ss here fewer (λ k d low. within (suc k) d (omega arith)) (λ k d low. apart (suc k) d (omega arith)) k d (omega arith)

pub within-left : (n m : ℕ) (slots : List (Option Extent)) (slot : ℕ) (gone : Extent) → IsWithin n gone → m + gone.length ≡ n → All (IsSlotWithin n) slots
    → All (IsSlotApart gone) (set slots slot None) → All (IsSlotWithin m) (left slots slot gone)
within-left n m slots slot gone here fewer within apart =
    all_moved n m gone (set slots slot None) here fewer (All-set (IsSlotWithin n) slots slot None tt within) apart

both_moved : (n : ℕ) (gone : Extent) (x y : Option Extent) → IsSlotWithin n x → IsSlotWithin n y → IsSlotApart gone x → IsSlotApart gone y
    → AreSlotsApart x y → AreSlotsApart (option_map (moved_down gone) x) (option_map (moved_down gone) y)
both_moved n gone None y in_x in_y from_x from_y apart = tt
both_moved n gone (Some a) None in_x in_y from_x from_y apart = tt
both_moved n gone (Some a) (Some b) in_x in_y from_x from_y apart = elim (moves gone a) [
  | inl up_a ↦
      let from_a = from_x.above (omega (arith, up_a.0)) in
      elim (moves gone b) [
        | inl up_b ↦
            let from_b = from_y.above (omega (arith, up_b.0)) in
            record {
              above = λ low. let far = apart.above (omega (arith, low, up_a.1, up_b.1, from_a, from_b)) in omega (arith, far, up_a.1, up_b.1, from_a, from_b);
              below = λ low. let far = apart.below (omega (arith, low, up_a.1, up_b.1, from_a, from_b)) in omega (arith, far, up_a.1, up_b.1, from_a, from_b);
            }
        | inr down_b ↦
            let from_b = from_y.below down_b.0 in
            record {
              above = λ low. absurd (omega (arith, low, up_a.1, down_b.1, from_a, from_b, in_y.long));
              below = λ low. omega (arith, up_a.1, down_b.1, from_a, from_b);
            }
      ]
  | inr down_a ↦
      let from_a = from_x.below down_a.0 in
      elim (moves gone b) [
        | inl up_b ↦
            let from_b = from_y.above (omega (arith, up_b.0)) in
            record {
              above = λ low. omega (arith, down_a.1, up_b.1, from_a, from_b);
              below = λ low. absurd (omega (arith, low, down_a.1, up_b.1, from_a, from_b, in_x.long));
            }
        | inr down_b ↦
            record {
              above = λ low. let far = apart.above (omega (arith, low, down_a.1, down_b.1)) in omega (arith, far, down_a.1, down_b.1);
              below = λ low. let far = apart.below (omega (arith, low, down_a.1, down_b.1)) in omega (arith, far, down_a.1, down_b.1);
            }
      ]
]

pub apart-left : (n : ℕ) (slots : List (Option Extent)) (slot : ℕ) (gone : Extent) → slot < length slots → All (IsSlotWithin n) slots → AreApart slots
    → All (IsSlotApart gone) (set slots slot None) → AreApart (left slots slot gone)
apart-left n slots slot gone low within apart from i j other =
    let old = set slots slot None in
    let in_any : (k : ℕ) → IsSlotWithin n (get_or old k None) = at_any (IsSlotWithin n) old tt (All-set (IsSlotWithin n) slots slot None tt within) in
    let from_any : (k : ℕ) → IsSlotApart gone (get_or old k None) = at_any (IsSlotApart gone) old tt from in
    let among : AreApart old = apart-set slots slot None low apart (λ k. tt) (λ k. none_apart (get_or slots k None)) in
    subst (λ s. AreSlotsApart s (get_or (left slots slot gone) j None)) (sym (get_map (moved_down gone) old i))
    (subst (AreSlotsApart (option_map (moved_down gone) (get_or old i None))) (sym (get_map (moved_down gone) old j))
    (both_moved n gone (get_or old i None) (get_or old j None) (in_any i) (in_any j) (from_any i) (from_any j) (among i j other)))

length_moved : (gone : Extent) (slot : Option Extent) → length_of (option_map (moved_down gone) slot) ≡ length_of slot
length_moved gone None = refl
length_moved gone (Some e) = refl

pub lengths-moved : (gone : Extent) (slots : List (Option Extent)) → lengths_in (map (option_map (moved_down gone)) slots) ≡ lengths_in slots
lengths-moved gone [] = refl
lengths-moved gone (s ∷ ss) =
    omega (arith, sum_by-cons length_of (option_map (moved_down gone) s) (map (option_map (moved_down gone)) ss), sum_by-cons length_of s ss, length_moved gone s, lengths-moved gone ss)
