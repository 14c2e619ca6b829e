-- What a look finds is what there is, in another order: a start that matches is found at its first hit, and there once.
use Rattle.std.proofs.Common.{◌≡◌, ℕ, suc, ◌+◌, ◌-◌, ◌*◌, ◌/◌, ◌<◌, ◌≤◌, ◌==◌, nat_le, ◌&&◌, List, [], ◌∷◌, length, map, drop, get_or, zip, sum_by, None, Bool, true, false, cond, refl, sym, ◌∙◌, ap, arith, zero-add, inl, inr}
use Rattle.std.specs.List.{range_with_len, enumerate_from, position_or_len}
use Rattle.std.specs.Int.Bits.{bit_and, bit_xor, xor_self, xor_assoc}
use Rattle.std.proofs.lemmas.Bool.{cases_eq, cases_lt, eq-eqb, ne_eqb, le-leb, lt-leb}
use Rattle.std.proofs.lemmas.Bool.Decides.{leb_tells}
use Rattle.std.proofs.lemmas.Nat.{and_le_r}
use Rattle.std.proofs.lemmas.List.{get_or-take, get_or-drop, length-take, length-drop}
use Rattle.std.proofs.lemmas.List.Sums.{sum_by-cons, passes_at_first}
use Rattle.std.proofs.lemmas.Slice.Zip.{get_or-zip, length-zip}
use Rattle.hk_base.specs.declared.plain.Print.{Print}
use Rattle.hk_base.specs.declared.plain.Match.{Match}
use Rattle.hk_spec_sound.specs.Windows.{window, window_count}
use Rattle.hk_spec_matching.specs.Catalogue.{Song, Songs}
use Rattle.hk_spec_matching.specs.Matching.{Query, Flips, flips_of, may_flip, is_hit, match_at, matches, matches_of_song}
use Rattle.hk_spec_matching.specs.Occurrences.{Occurrence, occurrences, occurrences_in, occurrences_of}
use Rattle.hk_spec_matching.specs.Cost.{subsets, looked_up}
use Rattle.hk_probe.specs.Comparison.{subsets_for, first_hit, first_match_at}
use Rattle.hk_probe.specs.Search.{fits, found, found_of, found_by, found_in, HaveSame}
use Rattle.hk_probe.proofs.Sums.{of_option, sum_by-same, sum_by-of_map, sum_by-of_flat_map, sum_by-of_filter, sum_by-of_filter_map, sum_by-exchanged, sum_by-shifted, sum_by-joined, sum_by-nowhere, sum_by-at_one}
use Rattle.hk_probe.proofs.Starts.{all_starts}
use Rattle.hk_probe.proofs.Matches.{match-no_hit, none_hits, first_match-is, first_match-none}

-- ---- the words that are looked up for a print

flipped_twice : (a b : ℕ) → bit_xor a (bit_xor a b) ≡ b
flipped_twice a b = sym (xor_assoc a a b) ∙ ap (λ n. bit_xor n b) (xor_self a) ∙ refl

either : (b : Bool) (n : ℕ) → cond b n n ≡ n
either true n = refl
either false n = refl

-- a word is looked up once for a print that it hits, and else not at all
looked_up_once : (query : Query) (print : Print) (w x : ℕ)
    → sum_by (λ s. cond (w == bit_xor print.word s) x 0) (subsets_for query print) ≡ cond (is_hit query (print, w)) x 0
unfolding subsets
looked_up_once query print w x =
    let flips : Flips = flips_of query print in
    let d = bit_xor print.word w in
    let term : ℕ → ℕ = λ s. cond (may_flip flips s) (cond (w == bit_xor print.word s) x 0) 0 in
    let others : (s : ℕ) → (s ≡ d → ⊥) → term s ≡ 0 = λ s other.
    ap (λ b. cond (may_flip flips s) (cond b x 0) 0) (ne_eqb w (bit_xor print.word s) (λ is. other (sym (ap (bit_xor print.word) is ∙ flipped_twice print.word s))))
    ∙ either (may_flip flips s) 0 in
    let here : term d ≡ cond (is_hit query (print, w)) x 0 =
    ap (λ b. cond (may_flip flips d) (cond b x 0) 0) (eq-eqb w (bit_xor print.word d) (sym (flipped_twice print.word w))) in
    sum_by-of_filter (λ s. cond (w == bit_xor print.word s) x 0) (may_flip flips) (range_with_len 0 (flips.mask + 1))
    ∙ elim (leb_tells d flips.mask) [
      | inl low ↦ sum_by-at_one term 0 (flips.mask + 1) d (omega arith) (omega (arith, low.1)) others ∙ here
      | inr high ↦
          let no_hit : is_hit query (print, w) ≡ false = ne_eqb (bit_and d flips.mask) d (λ is. omega (arith, and_le_r d flips.mask, high.1)) in
          sum_by-nowhere term 0 (flips.mask + 1) (λ i above below. others i (λ is. omega (arith, high.1)))
          ∙ sym (ap (λ b. cond b x 0) no_hit)
    ]

-- what an occurrence adds to a sum for a print, where it is looked up
abbrev added : (Match → ℕ) → Query → ℕ × Print → Occurrence → ℕ
added f query print o = cond (is_hit query (print.1, o.word)) (of_option f (found query print.0 o.song o.position)) 0

pub of_word : (f : Match → ℕ) (query : Query) (songs : Songs) (j w : ℕ)
    → sum_by f (found_of query songs j w) ≡ sum_by (λ o. cond (o.word == w) (of_option f (found query j o.song o.position)) 0) (occurrences songs)
unfolding found_of
of_word f query songs j w =
    sum_by-of_filter_map f (λ o. found query j o.song o.position) (occurrences_of w songs)
    ∙ sum_by-of_filter (λ o. of_option f (found query j o.song o.position)) (λ o. o.word == w) (occurrences songs)

pub of_print : (f : Match → ℕ) (query : Query) (songs : Songs) (print : ℕ × Print)
    → sum_by f (found_by query songs print) ≡ sum_by (added f query print) (occurrences songs)
unfolding found_by
of_print f query songs print =
    let word : ℕ → ℕ = bit_xor print.1.word in
    let term : ℕ → Occurrence → ℕ = λ s o. cond (o.word == word s) (of_option f (found query print.0 o.song o.position)) 0 in
    sum_by-of_flat_map f (found_of query songs print.0) (looked_up query print.1)
    ∙ sum_by-of_map (λ w. sum_by f (found_of query songs print.0 w)) word (subsets_for query print.1)
    ∙ sum_by-same (λ s. sum_by f (found_of query songs print.0 (word s))) (λ s. sum_by (term s) (occurrences songs)) (λ s. of_word f query songs print.0 (word s)) (subsets_for query print.1)
    ∙ sum_by-exchanged term (subsets_for query print.1) (occurrences songs)
    ∙ sum_by-same (λ o. sum_by (λ s. term s o) (subsets_for query print.1)) (added f query print) (λ o. looked_up_once query print.1 o.word (of_option f (found query print.0 o.song o.position))) (occurrences songs)

-- ---- the positions of a song for one print

pub found-outside : (query : Query) (j : ℕ) (song : ℕ × Song) (p : ℕ) → fits query j song p ≡ false → found query j song p ≡ None
unfolding found
found-outside query j song p outside =
    let q = p - j in
    ap (λ b. cond b (first_match_at query j song (q, window (length query.prints) 1 song.1.words q)) None) outside

pub found-inside : (query : Query) (j : ℕ) (song : ℕ × Song) (p q : ℕ) → p ≡ j + q → q + length query.prints ≤ length song.1.words
    → found query j song p ≡ first_match_at query j song (q, window (length query.prints) 1 song.1.words q)
unfolding found
found-inside query j song p q is within =
    let start : p - j ≡ q = omega arith in
    let inside : fits query j song p ≡ true =
    ap (λ b. b && nat_le (p - j + length query.prints) (length song.1.words)) (le-leb j p (omega arith))
    ∙ le-leb (p - j + length query.prints) (length song.1.words) (omega arith) in
    ap (λ b. cond b (first_match_at query j song (p - j, window (length query.prints) 1 song.1.words (p - j))) None) inside
    ∙ ap (λ s. first_match_at query j song (s, window (length query.prints) 1 song.1.words s)) start

-- the print that hits first hits
first_hits : (query : Query) (words : List ℕ) (q j : ℕ) (d : Print) → j < length query.prints → q + length query.prints ≤ length words
    → first_hit query (window (length query.prints) 1 words q) ≡ j → is_hit query (get_or query.prints j d, get_or words (j + q) 0) ≡ true
first_hits query words q j d low within first =
    let prints = query.prints in
    let size = length prints in
    let here : List ℕ = window size 1 words q in
    let room : length here ≡ size = omega (arith, length-take size (drop (q * 1) words), length-drop (q * 1) words) in
    let pairs = zip prints here in
    let inside : position_or_len (is_hit query) pairs < length pairs = omega (arith, first, length-zip prints here) in
    let pair : get_or pairs j (d, 0) ≡ (get_or prints j d, get_or words (j + q) 0) =
    get_or-zip prints here j (d, 0) low (omega (arith, room))
    ∙ ap (λ w. (get_or prints j d, w)) (get_or-take size (drop (q * 1) words) j 0 low ∙ get_or-drop (q * 1) words j 0 ∙ ap (λ i. get_or words i 0) (omega arith)) in
    ap (is_hit query) (sym pair)
    ∙ ap (λ i. is_hit query (get_or pairs i (d, 0))) (sym first)
    ∙ passes_at_first (is_hit query) pairs (d, 0) inside

-- what a start of a song adds to a sum
abbrev of_start : (Match → ℕ) → Query → ℕ × Song → ℕ → ℕ
of_start f query song q = of_option f (match_at query song (q, window (length query.prints) 1 song.1.words q))

-- what a start adds for print j: all, where print j is the first that hits there
abbrev at_first : (Match → ℕ) → Query → ℕ × Song → ℕ → ℕ → ℕ
at_first f query song j q =
    cond (first_hit query (window (length query.prints) 1 song.1.words q) == j) (of_start f query song q) 0

-- ---- terms by their numbers

sum_by-enumerated : {X : Type 0} (k : ℕ × X → ℕ) (a : ℕ) (xs : List X) (d : X)
    → sum_by k (enumerate_from a xs) ≡ sum_by (λ i. k (a + i, get_or xs i d)) (range_with_len 0 (length xs))
sum_by-enumerated k a [] d = refl
sum_by-enumerated {X} k a (x ∷ xs) d =
    let term : ℕ → ℕ = λ i. k (a + i, get_or (x ∷ xs) i d) in
    let later : ℕ → ℕ = λ i. k (a + 1 + i, get_or xs i d) in
    let none : a + 0 ≡ a = omega arith in
    let first : term 0 ≡ k (a, x) = ap (λ n. k (n, x)) none in
    let next : (i : ℕ) → later (0 + i) ≡ term (1 + i) = λ i.
    let here : 0 + i ≡ i = omega arith in
    let one : 1 + i ≡ suc i = omega arith in
    let place : a + 1 + i ≡ a + (1 + i) = omega arith in
    ap later here
    ∙ ap (λ n. k (n, get_or xs i d)) place
    ∙ sym (ap (λ n. k (a + (1 + i), get_or (x ∷ xs) n d)) one) in
    let rest : sum_by k (enumerate_from (a + 1) xs) ≡ sum_by term (range_with_len 1 (length xs)) =
    sum_by-enumerated k (a + 1) xs d ∙ sum_by-shifted later term 0 1 (length xs) (λ i low. next i) in
    omega (arith, first, rest, sum_by-cons k (a, x) (enumerate_from (a + 1) xs), sum_by-cons term 0 (range_with_len 1 (length xs)))

no_both : (b : Bool) → (b && false) ≡ false
no_both true = refl
no_both false = refl

pub fits-early : (query : Query) (j : ℕ) (song : ℕ × Song) (p : ℕ) → p < j → fits query j song p ≡ false
fits-early query j song p early = ap (λ b. b && nat_le (p - j + length query.prints) (length song.1.words)) (lt-leb j p early)

pub fits-late : (query : Query) (j : ℕ) (song : ℕ × Song) (p : ℕ) → length song.1.words < p - j + length query.prints → fits query j song p ≡ false
fits-late query j song p late = ap (λ b. nat_le j p && b) (lt-leb (p - j + length query.prints) (length song.1.words) late) ∙ no_both (nat_le j p)

count_none : (size n : ℕ) → n < size → window_count size 1 n ≡ 0
count_none size n short = ap (λ b. cond b 0 ((n - size) / 1 + 1)) (le-leb (suc n) size (omega arith))

count_some : (size n : ℕ) → size ≤ n → window_count size 1 n ≡ n - size + 1
count_some size n long =
    let ones : (n - size) / 1 ≡ n - size = omega arith in
    ap (λ b. cond b 0 ((n - size) / 1 + 1)) (lt-leb (suc n) size (omega arith)) ∙ ap (λ k. k + 1) ones

-- the starts of a song
abbrev starts : Query → ℕ × Song → List ℕ
starts query song = range_with_len 0 (window_count (length query.prints) 1 (length song.1.words))

-- a song's occurrences give for print j what its starts give
for_print : (f : Match → ℕ) (query : Query) (song : ℕ × Song) (j : ℕ) (d : Print) → j < length query.prints
    → sum_by (added f query (j, get_or query.prints j d)) (occurrences_in song) ≡ sum_by (at_first f query song j) (starts query song)
for_print f query song j d low =
    let size = length query.prints in
    let words = song.1.words in
    let print : Print = get_or query.prints j d in
    let at : ℕ → Occurrence = λ p. record { song = song; position = p; word = get_or words p 0 } in
    let term : ℕ → ℕ = λ p. added f query (j, print) (at p) in
    let start : ℕ → ℕ = at_first f query song j in
    let listed : sum_by (added f query (j, print)) (occurrences_in song) ≡ sum_by term (range_with_len 0 (length words)) =
    sum_by-of_map (added f query (j, print)) (λ (e : ℕ × ℕ). record { song = song; position = e.0; word = e.1 }) (enumerate_from 0 words)
    ∙ sum_by-enumerated (λ (e : ℕ × ℕ). added f query (j, print) (record { song = song; position = e.0; word = e.1 })) 0 words 0
    ∙ sum_by-same (λ i. added f query (j, print) (record { song = song; position = 0 + i; word = get_or words i 0 })) term
    (λ i. ap (λ n. added f query (j, print) (record { song = song; position = n; word = get_or words i 0 })) (zero-add i)) (range_with_len 0 (length words)) in
    let outside : (p : ℕ) → fits query j song p ≡ false → term p ≡ 0 = λ p no.
    ap (λ o. cond (is_hit query (print, get_or words p 0)) (of_option f o) 0) (found-outside query j song p no) ∙ either (is_hit query (print, get_or words p 0)) 0 in
    let inside : (q : ℕ) → q + size ≤ length words → term (j + q) ≡ start q = λ q within.
    let here : List ℕ = window size 1 words q in
    let word = get_or words (j + q) 0 in
    ap (λ o. cond (is_hit query (print, word)) (of_option f o) 0) (found-inside query j song (j + q) q refl within)
    ∙ elim (cases_eq (first_hit query here) j) as (λ _. cond (is_hit query (print, word)) (of_option f (first_match_at query j song (q, here))) 0 ≡ start q) [
      | inl first ↦
          ap (λ o. cond (is_hit query (print, word)) (of_option f o) 0) (first_match-is query j song (q, here) first)
          ∙ ap (λ b. cond b (of_start f query song q) 0) (first_hits query words q j d low within first)
          ∙ sym (ap (λ b. cond b (of_start f query song q) 0) (eq-eqb (first_hit query here) j first))
      | inr other ↦
          ap (λ o. cond (is_hit query (print, word)) (of_option f o) 0) (first_match-none query j song (q, here) other)
          ∙ either (is_hit query (print, word)) 0
          ∙ sym (ap (λ b. cond b (of_start f query song q) 0) (ne_eqb (first_hit query here) j other))
    ] in
    listed ∙ elim (leb_tells size (length words)) [
      | inl long ↦
          let count = length words - size + 1 in
          let rest = size - 1 - j in
          let all : length words ≡ j + (count + rest) = omega (arith, long.1) in
          let early = sum_by-nowhere term 0 j (λ p above below. outside p (fits-early query j song p (omega arith))) in
          let late = sum_by-nowhere term (0 + j + count) rest (λ p above below. outside p (fits-late query j song p (omega (arith, long.1, above)))) in
          let middle : sum_by term (range_with_len (0 + j) count) ≡ sum_by start (range_with_len 0 count) =
          sum_by-shifted term start (0 + j) 0 count (λ i less.
          let place : 0 + j + i ≡ j + i = omega arith in
          let from : i ≡ 0 + i = omega arith in
          ap term place ∙ inside i (omega (arith, long.1)) ∙ ap start from) in
          let parts = sum_by-joined term 0 j (count + rest) in
          let later = sum_by-joined term (0 + j) count rest in
          ap (λ n. sum_by term (range_with_len 0 n)) all
          ∙ (let sum : sum_by term (range_with_len 0 (j + (count + rest))) ≡ sum_by start (range_with_len 0 count) = omega (arith, early, late, middle, parts, later) in sum)
          ∙ sym (ap (λ n. sum_by start (range_with_len 0 n)) (count_some size (length words) long.1))
      | inr short ↦
          sum_by-nowhere term 0 (length words) (λ p above below. outside p (fits-late query j song p (omega (arith, short.1))))
          ∙ sym (ap (λ n. sum_by start (range_with_len 0 n)) (count_none size (length words) short.1))
    ]

-- a start is found at one print, where it matches
found_once : (f : Match → ℕ) (query : Query) (song : ℕ × Song) (q : ℕ)
    → sum_by (λ j. at_first f query song j q) (range_with_len 0 (length query.prints)) ≡ of_start f query song q
found_once f query song q =
    let size = length query.prints in
    let here : List ℕ = window size 1 song.1.words q in
    let first = first_hit query here in
    let all = of_start f query song q in
    let term : ℕ → ℕ = λ j. at_first f query song j q in
    let others : (j : ℕ) → (first ≡ j → ⊥) → term j ≡ 0 = λ j other. ap (λ b. cond b all 0) (ne_eqb first j other) in
    elim (cases_lt first size) as (λ _. sum_by term (range_with_len 0 size) ≡ all) [
      | inl low ↦ sum_by-at_one term 0 size first (omega arith) (omega arith) (λ j other. others j (λ is. other (sym is))) ∙ ap (λ b. cond b all 0) (eq-eqb first first refl)
      | inr past ↦
          let nothing : match_at query song (q, here) ≡ None = match-no_hit query song (q, here) (none_hits query here (omega (arith, length-zip query.prints here))) in
          sum_by-nowhere term 0 size (λ j above below. others j (λ is. omega arith)) ∙ sym (ap (of_option f) nothing)
    ]

of_song : (f : Match → ℕ) (query : Query) (song : ℕ × Song) → sum_by f (matches_of_song query song) ≡ sum_by (of_start f query song) (starts query song)
of_song f query song =
    let at : ℕ → ℕ × List ℕ = λ q. (q, window (length query.prints) 1 song.1.words q) in
    ap (sum_by f) (all_starts query song)
    ∙ sum_by-of_filter_map f (match_at query song) (map at (starts query song))
    ∙ sum_by-of_map (λ s. of_option f (match_at query song s)) at (starts query song)

-- all prints together find each match of a song once
all_prints : (f : Match → ℕ) (query : Query) (song : ℕ × Song)
    → sum_by (λ e. sum_by (added f query e) (occurrences_in song)) (enumerate_from 0 query.prints) ≡ sum_by f (matches_of_song query song)
all_prints f query song =
    let size = length query.prints in
    let d : Print = record { word = 0; mask = 0 } in
    let of_one : ℕ × Print → ℕ = λ e. sum_by (added f query e) (occurrences_in song) in
    let by_start : ℕ → ℕ = λ j. sum_by (at_first f query song j) (starts query song) in
    let same : (k : ℕ) → k < size → of_one (0 + k, get_or query.prints k d) ≡ by_start k = λ k low.
    ap (λ n. of_one (n, get_or query.prints k d)) (zero-add k) ∙ for_print f query song k d low in
    sum_by-enumerated of_one 0 query.prints d
    ∙ sum_by-shifted (λ i. of_one (0 + i, get_or query.prints i d)) by_start 0 0 size (λ i low. same (0 + i) (omega arith))
    ∙ sum_by-exchanged (at_first f query song) (range_with_len 0 size) (starts query song)
    ∙ sum_by-same (λ q. sum_by (λ j. at_first f query song j q) (range_with_len 0 size)) (of_start f query song) (found_once f query song) (starts query song)
    ∙ sym (of_song f query song)

-- what a look finds is what there is, whatever is counted
pub found_all : (query : Query) (songs : Songs) → HaveSame (found_in query songs) (matches query songs)
unfolding found_in matches
found_all query songs = λ f.
    let prints = enumerate_from 0 query.prints in
    let term : ℕ × Print → ℕ × Song → ℕ = λ e song. sum_by (added f query e) (occurrences_in song) in
    sum_by-of_flat_map f (found_by query songs) prints
    ∙ sum_by-same (λ e. sum_by f (found_by query songs e)) (λ e. sum_by (term e) songs)
    (λ e. of_print f query songs e ∙ sum_by-of_flat_map (added f query e) occurrences_in songs) prints
    ∙ sum_by-exchanged term prints songs
    ∙ sum_by-same (λ song. sum_by (λ e. term e song) prints) (λ song. sum_by f (matches_of_song query song)) (all_prints f query) songs
    ∙ sym (sum_by-of_flat_map f (matches_of_song query) songs)
