-- Draws, and words from them.
use Rattle.std.proofs.Common.{◌≡◌, ℕ, zero, suc, ◌+◌, ◌*◌, ◌/◌, ◌^◌, ◌≤◌, List, [], ◌∷◌, ◌++◌, map, take, drop, length, get_or, ap, sym, ◌∙◌, arith, append_assoc, refl}
use Rattle.std.specs.List.{range_with_len, slice_index}
use Rattle.std.proofs.lemmas.Simd.{map-map}
use Rattle.std.proofs.lemmas.List.{get_or-take, get_or-drop, take-map}
use Rattle.std.proofs.lemmas.List.FromFn.{take-map-range_with_len, length-map-range_with_len}
use Rattle.hk_spec_sound.specs.Windows.{windows, window, window_count}
use Rattle.hk_spec_sound.proofs.GrowingWindows.{map_range_same}
use Rattle.hk_spec_sound.proofs.BegunWindows.{window_count-above}
use Rattle.hk_spec_made.specs.Input.{next_draw, high_parts, drawn_words}

-- one draw more is made, and one less is to come
pub high_parts-step : (before all : List ℕ) (x next h n m : ℕ) → before ++ high_parts x n ≡ all → n ≡ suc m → next ≡ next_draw x → h ≡ next / 2 ^ 15
    → (before ++ h ∷ []) ++ high_parts next m ≡ all
unfolding high_parts
high_parts-step before all x next h n m was one drawn high =
    append_assoc before (h ∷ []) (high_parts next m)
    ∙ ap (λ y. before ++ y ∷ high_parts next m) (high ∙ ap (λ y. y / 2 ^ 15) drawn)
    ∙ ap (λ y. before ++ next_draw x / 2 ^ 15 ∷ high_parts y m) drawn
    ∙ ap (λ k. before ++ high_parts x k) (sym one)
    ∙ was

pub high_parts-none : (x : ℕ) → high_parts x 0 ≡ []
unfolding high_parts
high_parts-none x = refl

pub length-high_parts : (x n : ℕ) → length (high_parts x n) ≡ n
unfolding high_parts
length-high_parts x zero = refl
length-high_parts x (suc n) = omega (arith, length-high_parts (next_draw x) n)

-- the word at a place, of two high parts
abbrev pub word_at : List ℕ → ℕ → ℕ
word_at highs place = get_or highs (2 * place) 0 * 65536 + get_or highs (2 * place + 1) 0

pair_word : List ℕ → ℕ
pair_word pair = slice_index pair 0 * 65536 + slice_index pair 1

word_in_window : (highs : List ℕ) (place : ℕ) → pair_word (window 2 2 highs place) ≡ word_at highs place
unfolding pair_word
word_in_window highs place =
    let here : List ℕ = drop (place * 2) highs in
    let first : place * 2 + 0 ≡ 2 * place = omega arith in
    let second : place * 2 + 1 ≡ 2 * place + 1 = omega arith in
    ap (λ n. n * 65536 + get_or (take 2 here) 1 0) (get_or-take 2 here 0 0 (omega arith) ∙ get_or-drop (place * 2) highs 0 0 ∙ ap (λ k. get_or highs k 0) first)
    ∙ ap (λ n. get_or highs (2 * place) 0 * 65536 + n) (get_or-take 2 here 1 0 (omega arith) ∙ get_or-drop (place * 2) highs 1 0 ∙ ap (λ k. get_or highs k 0) second)

-- the first words need only the first high parts
pub drawn_words-first : (highs : List ℕ) (n : ℕ) → 2 * n ≤ length highs → map (word_at highs) (range_with_len 0 n) ≡ take n (drawn_words highs)
unfolding windows pair_word
drawn_words-first highs n enough =
    let count : ℕ = window_count 2 2 (length highs) in
    let many : n ≤ count = omega (arith, enough, window_count-above 2 2 (length highs) (omega arith)) in
    sym (take-map pair_word n (map (window 2 2 highs) (range_with_len 0 count))
    ∙ ap (map pair_word) (take-map-range_with_len (window 2 2 highs) 0 count n many)
    ∙ map-map pair_word (window 2 2 highs) (range_with_len 0 n)
    ∙ map_range_same (λ i. pair_word (window 2 2 highs i)) (word_at highs) 0 n (λ i low high. word_in_window highs i))

pub length-drawn_words : (highs : List ℕ) (n : ℕ) → 2 * n ≤ length highs → length (take n (drawn_words highs)) ≡ n
length-drawn_words highs n enough = sym (ap length (drawn_words-first highs n enough)) ∙ length-map-range_with_len (word_at highs) 0 n
