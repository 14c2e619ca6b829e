-- What a station's bytes complete, byte after byte, beside the looks that are made.
use Rattle.std.proofs.Common.{◌≡◌, ℕ, suc, ◌+◌, cond, Some, None, List, [], ◌∷◌, ◌++◌, map, length, take, flat_map, refl, sym, ◌∙◌, ap, arith, append-nil, length-append, inl, inr}
use Rattle.std.specs.Prelude.{find, nat_lt}
use Rattle.std.specs.List.{enumerate_from, range_with_len}
use Rattle.std.proofs.lemmas.Bool.{lt-ltb, le-ltb}
use Rattle.std.proofs.lemmas.Bool.Decides.{leb_tells}
use Rattle.std.proofs.lemmas.Grind.{flat_map-append}
use Rattle.std.proofs.lemmas.List.{take-append-le, take_all}
use Rattle.std.proofs.lemmas.List.Folds.{flat_map-map}
use Rattle.std.proofs.lemmas.List.FromFn.{map-range_with_len_more}
use Rattle.hk_spec_sound.proofs.Growing.{Grows, by_one}
use Rattle.hk_spec_sound.proofs.GrowingWindows.{map_range_same}
use Rattle.hk_spec_streams.specs.Station.{Fence}
use Rattle.hk_spec_streams.specs.Blocks.{Setting, Block, Moment, Full, Asks, moments_at, moments}
use Rattle.hk_spec_monitor.specs.Looks.{versions_of_blocks, AreMet}

-- the moments of a text with one byte more
pub moments-append : (s : Setting) (text : List ℕ) (b : ℕ) → moments s (text ++ b ∷ []) ≡ moments s text ++ moments_at s (text ++ b ∷ [])
unfolding moments
moments-append s text b =
    let longer : List ℕ = text ++ b ∷ [] in
    let at : List ℕ → ℕ → List Moment = λ t p. moments_at s (take (p + 1) t) in
    let all : List (List Moment) → List Moment = flat_map (λ ms. ms) in
    let n : ℕ = length text in
    let long : length longer ≡ n + 1 = length-append text (b ∷ []) in
    let whole : take (n + 1) longer ≡ longer = take_all (n + 1) longer (omega (arith, long)) in
    sym (flat_map-map (λ ms. ms) (at longer) (range_with_len 0 (length longer)))
    ∙ ap (λ m. all (map (at longer) (range_with_len 0 m))) long
    ∙ ap all (map-range_with_len_more (at longer) 0 n n (omega arith))
    ∙ flat_map-append (λ ms. ms) (map (at longer) (range_with_len 0 n)) (at longer n ∷ [])
    ∙ ap (λ ms. all ms ++ (at longer n ++ [])) (map_range_same (at longer) (at text) 0 n (λ i low high. ap (moments_at s) (take-append-le (i + 1) text (b ∷ []) (omega arith))))
    ∙ ap (λ ms. ms ++ (at longer n ++ [])) (flat_map-map (λ ms. ms) (at text) (range_with_len 0 n))
    ∙ ap (λ ms. moments s text ++ ms) (append-nil (at longer n) ∙ ap (moments_at s) whole)

-- the moments of a text begin those of any longer one
pub moments_grow : (s : Setting) (text more : List ℕ) → (ms : List Moment) × (moments s (text ++ more) ≡ moments s text ++ ms)
unfolding Grows
moments_grow s text more = by_one (moments s) (λ t b. (moments_at s (t ++ b ∷ []), moments-append s t b)) text more

-- looks at one version of all that a byte completes
pub looks_at-moments : (v : ℕ) (bs : List Block) (fs : List Fence) → length (map (λ block. v) bs ++ map (λ fence. v) fs) ≡ length (map Full bs ++ map (λ (f : Fence). Asks f.asked) fs)
looks_at-moments v [] [] = refl
looks_at-moments v [] (f ∷ fs) = ap suc (looks_at-moments v [] fs)
looks_at-moments v (b ∷ bs) fs = ap suc (looks_at-moments v bs fs)

-- the versions of the blocks among them, and of what follows
pub blocks_at : (v : ℕ) (bs : List Block) (fs : List Fence) (ms : List Moment) (looks : List ℕ)
    → versions_of_blocks ((map Full bs ++ map (λ (f : Fence). Asks f.asked) fs) ++ ms) ((map (λ block. v) bs ++ map (λ fence. v) fs) ++ looks) ≡ map (λ block. v) bs ++ versions_of_blocks ms looks
blocks_at v [] [] ms looks = refl
blocks_at v [] (f ∷ fs) ms looks = blocks_at v [] fs ms looks
blocks_at v (b ∷ bs) fs ms looks = ap (λ vs. v ∷ vs) (blocks_at v bs fs ms looks)

-- none of these fences asks for more
pub none_ahead : (v : ℕ) (fs : List Fence) (ms : List Moment) (looks : List ℕ) (bs : List Block) → find (λ a. nat_lt v a) (map (λ (f : Fence). f.asked) fs) ≡ None → AreMet ms looks
    → AreMet ((map Full bs ++ map (λ (f : Fence). Asks f.asked) fs) ++ ms) ((map (λ block. v) bs ++ map (λ fence. v) fs) ++ looks)
none_ahead v [] ms looks [] none met = met
none_ahead v (f ∷ fs) ms looks [] none met = elim (leb_tells f.asked v) [
  | inl below ↦ (below.1, none_ahead v fs ms looks [] (sym (ap (λ c. cond c (Some f.asked) (find (λ a. nat_lt v a) (map (λ (g : Fence). g.asked) fs))) (le-ltb v f.asked below.1)) ∙ none) met)
  | inr above ↦ absurd (let some : Some f.asked ≡ None = sym (ap (λ c. cond c (Some f.asked) (find (λ a. nat_lt v a) (map (λ (g : Fence). g.asked) fs))) (lt-ltb v f.asked above.1)) ∙ none in cc)
]
none_ahead v fs ms looks (b ∷ bs) none met = none_ahead v fs ms looks bs none met

pub length-numbered : {A : Type 0} (v n : ℕ) (xs : List A) → map (λ block. v) (enumerate_from n xs) ≡ map (λ x. v) xs
length-numbered v n [] = refl
length-numbered v n (x ∷ xs) = ap (λ vs. v ∷ vs) (length-numbered v (n + 1) xs)
