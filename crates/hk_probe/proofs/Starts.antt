-- The starts of a song, one after another.
use Rattle.std.proofs.Common.{◌≡◌, ℕ, zero, suc, ◌+◌, ◌-◌, ◌*◌, ◌/◌, ◌≤◌, List, [], ◌∷◌, ◌++◌, length, map, take, drop, refl, sym, ◌∙◌, ap, arith, Option, Some, None, cond, filter_map, append_assoc, false, nat_le, inl, inr}
use Rattle.std.proofs.lemmas.Bool.Decides.{leb_tells}
use Rattle.std.specs.List.{range_with_len, enumerate_from}
use Rattle.std.specs.Option.{option_to_list}
use Rattle.std.proofs.lemmas.List.FromFn.{map-range_with_len_more}
use Rattle.std.proofs.lemmas.List.Elements.{filter_map-append}
use Rattle.hk_base.specs.declared.plain.Match.{Match}
use Rattle.hk_spec_sound.specs.Windows.{windows, window, window_count}
use Rattle.hk_spec_matching.specs.Matching.{Query, match_at, matches_of_song}
use Rattle.hk_spec_matching.specs.Catalogue.{Song}

pub enumerate_range : {A : Type 0} (f : ℕ → A) (a n : ℕ) → enumerate_from a (map f (range_with_len a n)) ≡ map (λ i. (i, f i)) (range_with_len a n)
enumerate_range f a zero = refl
enumerate_range f a (suc n) = ap (λ xs. (a, f a) ∷ xs) (enumerate_range f (a + 1) n)

-- the matches at the first n starts
abbrev pub matches_before : Query → ℕ × Song → ℕ → List Match
matches_before query song n =
    filter_map (match_at query song) (map (λ q. (q, window (length query.prints) 1 song.1.words q)) (range_with_len 0 n))

pub all_starts : (query : Query) (song : ℕ × Song) → matches_of_song query song ≡ matches_before query song (window_count (length query.prints) 1 (length song.1.words))
unfolding matches_of_song windows
all_starts query song = ap (filter_map (match_at query song)) (enumerate_range (window (length query.prints) 1 song.1.words) 0 (window_count (length query.prints) 1 (length song.1.words)))

single : {A B : Type 0} (f : A → Option B) (x : A) → filter_map f (x ∷ []) ≡ option_to_list (f x)
single f x = elim (f x) as (λ o. filter_map (λ _. o) (x ∷ []) ≡ option_to_list o) [ Some y ↦ refl | None ↦ refl ]

-- the matches at one start more
pub starts_more : (query : Query) (song : ℕ × Song) (n : ℕ)
    → matches_before query song (n + 1) ≡ matches_before query song n ++ option_to_list (match_at query song (n, window (length query.prints) 1 song.1.words n))
starts_more query song n =
    let at : ℕ → ℕ × List ℕ = λ q. (q, window (length query.prints) 1 song.1.words q) in
    ap (filter_map (match_at query song)) (map-range_with_len_more at 0 n n (omega arith))
    ∙ filter_map-append (match_at query song) (map at (range_with_len 0 n)) (at n ∷ [])
    ∙ ap (λ xs. matches_before query song n ++ xs) (single (match_at query song) (at n))

-- a start's words as a part of the song's
pub start_words : (query : Query) (words : List ℕ) (q : ℕ) → length query.prints ≡ 256 → take 256 (drop q words) ≡ window (length query.prints) 1 words q
start_words query words q is =
    ap (λ n. take n (drop q words)) (sym is)
    ∙ ap (λ p. take (length query.prints) (drop p words)) (let same : q ≡ q * 1 = omega arith in same)

-- what was found at one start more stands behind the rest
pub listed_more : (query : Query) (song : ℕ × Song) (n : ℕ) (words : List ℕ) (found : Option Match) (front old new : List Match)
    → words ≡ window (length query.prints) 1 song.1.words n → found ≡ match_at query song (n, words)
    → old ≡ front ++ matches_before query song n → new ≡ old ++ option_to_list found → new ≡ front ++ matches_before query song (n + 1)
listed_more query song n words found front old new here is before after =
    after ∙ ap (λ xs. xs ++ option_to_list found) before ∙ append_assoc front (matches_before query song n) (option_to_list found)
    ∙ ap (λ o. front ++ (matches_before query song n ++ option_to_list o)) (is ∙ ap (λ ws. match_at query song (n, ws)) here)
    ∙ ap (λ xs. front ++ xs) (sym (starts_more query song n))

-- at 256 prints a song has as many starts as words, less 255
pub starts_of : (query : Query) (song : ℕ × Song) (n : ℕ) → length query.prints ≡ 256 → 256 ≤ length song.1.words → n ≡ length song.1.words - 255
    → matches_before query song n ≡ matches_of_song query song
starts_of query song n size long is =
    let many : nat_le (suc (length song.1.words)) 256 ≡ false = elim (leb_tells (suc (length song.1.words)) 256) [ inl few ↦ absurd (omega (arith, few.1, long)) | inr enough ↦ enough.0 ] in
    let ones : (length song.1.words - 256) / 1 ≡ length song.1.words - 256 = omega arith in
    let count : window_count 256 1 (length song.1.words) ≡ n = ap (λ b. cond b 0 ((length song.1.words - 256) / 1 + 1)) many ∙ omega (arith, ones, is, long) in
    sym (all_starts query song ∙ ap (matches_before query song) (ap (λ s. window_count s 1 (length song.1.words)) size ∙ count))
