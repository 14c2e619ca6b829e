-- One more item of a range.
use Rattle.std.proofs.Common.{◌≡◌, ℕ, ◌+◌, ◌<◌, Bool, true, List, [], ◌∷◌, ◌++◌, length, get_or, ap, sym, ◌∙◌, arith, flat_map}
use Rattle.std.specs.List.{range_with_len, sum_by, list_all}
use Rattle.std.proofs.lemmas.List.{map-id, flat_map_more}
use Rattle.std.proofs.lemmas.List.Sums.{AllPass-from_list_all}
use Rattle.std.proofs.lemmas.List.FromFn.{length-range_with_len, get_or-range_with_len, map-range_with_len_more, sum_by-map-range_with_len_more}

pub range-more : (a n j : ℕ) → a + n ≡ j → range_with_len a (n + 1) ≡ range_with_len a n ++ j ∷ []
range-more a n j next =
    sym (map-id (range_with_len a (n + 1))) ∙ map-range_with_len_more (λ i. i) a n j next ∙ ap (λ is. is ++ j ∷ []) (map-id (range_with_len a n))

pub sum_by-more : (f : ℕ → ℕ) (n : ℕ) → sum_by f (range_with_len 0 (n + 1)) ≡ sum_by f (range_with_len 0 n) + f n
sum_by-more f n =
    sym (ap (sum_by f) (map-id (range_with_len 0 (n + 1)))) ∙ sum_by-map-range_with_len_more f (λ i. i) 0 n n (omega arith)
    ∙ ap (λ is. sum_by f is + f n) (map-id (range_with_len 0 n))

-- a text that the piece of one more number is written to
pub written-more : (f : ℕ → List ℕ) (start text next : List ℕ) (a n j : ℕ) → text ≡ start ++ flat_map f (range_with_len a n) → a + n ≡ j → next ≡ text ++ f j
    → next ≡ start ++ flat_map f (range_with_len a (n + 1))
written-more f start text next a n j was at wrote =
    wrote ∙ ap (λ t. t ++ f j) was ∙ flat_map_more f start (range_with_len a n) j ∙ sym (ap (λ is. start ++ flat_map f is) (range-more a n j at))

-- what a test finds of each number of a range
pub each_below : (p : ℕ → Bool) (n i : ℕ) → list_all p (range_with_len 0 n) ≡ true → i < n → p i ≡ true
each_below p n i all inside =
    let long : i < length (range_with_len 0 n) = omega (arith, inside, length-range_with_len 0 n) in
    let at : get_or (range_with_len 0 n) i 0 ≡ i = get_or-range_with_len 0 n i 0 inside ∙ omega arith in
    ap p (sym at) ∙ AllPass-from_list_all p (range_with_len 0 n) all i 0 long
