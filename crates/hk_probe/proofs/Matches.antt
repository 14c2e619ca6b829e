-- When a start has a match, and when it has none.
use Rattle.std.proofs.Common.{◌≡◌, ℕ, ◌<◌, ◌≤◌, ◌&&◌, List, cond, true, false, nat_le, length, zip, Some, None, sym, ap, arith}
use Rattle.std.specs.List.{list_any}
use Rattle.std.proofs.lemmas.List.Sums.{fails_before_first, passes_at_first}
use Rattle.std.proofs.lemmas.List.Folds.{list_any_none, list_any_at}
use Rattle.std.proofs.lemmas.Slice.Zip.{length-zip}
use Rattle.std.proofs.lemmas.Bool.{eq-eqb, ne_eqb}
use Rattle.hk_base.specs.declared.plain.Match.{Match}
use Rattle.hk_base.specs.declared.plain.Print.{Print}
use Rattle.hk_spec_matching.specs.Catalogue.{Song}
use Rattle.hk_spec_matching.specs.Matching.{Query, match_at, errors_of, is_hit}
use Rattle.hk_catalogue.specs.Shelves.{song_of}
use Rattle.hk_probe.specs.Comparison.{first_hit, match_within, first_match_at}

pub match-no_hit : (query : Query) (song : ℕ × Song) (start : ℕ × List ℕ) → list_any (is_hit query) (zip query.prints start.1) ≡ false
    → match_at query song start ≡ None
unfolding match_at
match-no_hit query song start none =
    let found : ℕ → Match = λ e. record { id = song.0; start = start.0; errors = e } in
    ap (λ b. cond (b && nat_le (errors_of query.prints start.1) song.1.limit) (Some (found (errors_of query.prints start.1))) None) none

match-hit : (query : Query) (id start : ℕ) (words whole : List ℕ) → list_any (is_hit query) (zip query.prints words) ≡ true
    → match_at query (id, song_of whole) (start, words) ≡ match_within query.prints id start words
unfolding match_at
match-hit query id start words whole hit =
    let errors = errors_of query.prints words in
    ap (λ b. cond (b && nat_le errors 2867) (Some (record { id = id; start = start; errors = errors })) None) hit

-- where the first print that hits is past all pairs, none hits
pub none_hits : (query : Query) (words : List ℕ) → length (zip query.prints words) ≤ first_hit query words
    → list_any (is_hit query) (zip query.prints words) ≡ false
none_hits query words past =
    let pairs = zip query.prints words in
    list_any_none (is_hit query) pairs (λ k d low. fails_before_first (is_hit query) pairs k d (omega arith))

-- where the first print that hits is a pair's, some hits
some_hits : (query : Query) (words : List ℕ) → first_hit query words < length (zip query.prints words)
    → list_any (is_hit query) (zip query.prints words) ≡ true
some_hits query words low =
    let d : Print × ℕ = (record { word = 0; mask = 0 }, 0) in
    let pairs = zip query.prints words in
    list_any_at (is_hit query) pairs (first_hit query words) d low (passes_at_first (is_hit query) pairs d low)

-- the match where a print hits
pub match-first : (query : Query) (id start : ℕ) (words whole : List ℕ) → length query.prints ≡ 256 → length words ≡ 256
    → first_hit query words < 256 → match_within query.prints id start words ≡ match_at query (id, song_of whole) (start, words)
match-first query id start words whole many as_many first =
    sym (match-hit query id start words whole (some_hits query words (omega (arith, length-zip query.prints words))))

pub first_match-is : (query : Query) (j : ℕ) (song : ℕ × Song) (start : ℕ × List ℕ) → first_hit query start.1 ≡ j
    → first_match_at query j song start ≡ match_at query song start
unfolding first_match_at
first_match-is query j song start first = ap (λ b. cond b (match_at query song start) None) (eq-eqb (first_hit query start.1) j first)

pub first_match-none : (query : Query) (j : ℕ) (song : ℕ × Song) (start : ℕ × List ℕ) → (first_hit query start.1 ≡ j → ⊥)
    → first_match_at query j song start ≡ None
unfolding first_match_at
first_match-none query j song start other = ap (λ b. cond b (match_at query song start) None) (ne_eqb (first_hit query start.1) j other)
