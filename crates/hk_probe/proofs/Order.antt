-- Matches in their order: two lists in order that have the same matches are the same list.
use Rattle.std.proofs.Common.{◌≡◌, ℕ, zero, suc, ◌+◌, ◌-◌, ◌/◌, ◌<◌, ◌≤◌, ◌==◌, nat_le, nat_lt, ◌&&◌, ◌||◌, List, [], ◌∷◌, ◌++◌, length, map, filter_map, get_or, zip, sum_by, Option, Some, None, Bool, true, false, cond, ◌⊎◌, refl, sym, ◌∙◌, ap, subst, arith, inl, inr}
use Rattle.std.specs.Bool.{⊤}
use Rattle.std.specs.List.{All, list_any, range_with_len, cons_option}
use Rattle.std.specs.Cmp.{IsStrictWeakOrder}
use Rattle.std.proofs.lemmas.Bool.Decides.{nat_tests, leb_tells}
use Rattle.std.proofs.lemmas.List.Sorted.{sorted_far}
use Rattle.std.proofs.lemmas.List.Sums.{sum_by-cons, sum_by-le-sum_by}
use Rattle.std.proofs.lemmas.List.Elements.{All-nil, All-cons, All-head, All-tail, All-append, All-weaker}
use Rattle.std.proofs.lemmas.List.Concat.{length-flat_map}
use Rattle.std.proofs.lemmas.List.FromFn.{length-map-range_with_len}
use Rattle.hk_base.specs.declared.plain.Match.{Match}
use Rattle.hk_spec_sound.specs.Windows.{window, window_count}
use Rattle.hk_spec_matching.specs.Catalogue.{Song, Songs, positions_of}
use Rattle.hk_spec_matching.specs.Matching.{Query, match_at, errors_of, is_hit, matches, matches_of_song}
use Rattle.hk_block.specs.Room.{is_before, AreSorted}
use Rattle.hk_catalogue.specs.Entries.{AreAbove, AreRising}
use Rattle.hk_probe.specs.Search.{HaveSame}
use Rattle.hk_probe.proofs.Starts.{all_starts}

-- ---- the order of matches

-- by two numbers, and where they are equal by the rest
abbrev by_number : ℕ → ℕ → Bool → Bool
by_number a b rest = nat_lt a b || (a == b) && rest

not_before : (a b : ℕ) (r : Bool) → by_number a b r ≡ false → (b < a) ⊎ ((a ≡ b) × (r ≡ false))
not_before a b true none = grind (arith, nat_tests)
not_before a b false none = grind (arith, nat_tests)

above : (a b : ℕ) (r : Bool) → b < a → by_number a b r ≡ false
above a b true higher = grind (arith, nat_tests)
above a b false higher = grind (arith, nat_tests)

tied : (a b : ℕ) (r : Bool) → a ≡ b → r ≡ false → by_number a b r ≡ false
tied a b r same rest = grind (arith, nat_tests)

by_number_one_way : (a b : ℕ) (r s : Bool) → (r ≡ true → s ≡ false) → by_number a b r ≡ true → by_number b a s ≡ false
by_number_one_way a b true s rest before = let last : s ≡ false = rest refl in grind (arith, nat_tests)
by_number_one_way a b false s rest before = grind (arith, nat_tests)

by_number_chain : (a b c : ℕ) (r s t : Bool) → (r ≡ false → s ≡ false → t ≡ false) → by_number a b r ≡ false → by_number b c s ≡ false → by_number a c t ≡ false
by_number_chain a b c r s t rest first second = elim (not_before a b r first) [
  | inl one ↦ elim (not_before b c s second) [
    | inl other ↦ above a c t (omega (arith, one, other))
    | inr other ↦ above a c t (omega (arith, one, other.0))
  ]
  | inr one ↦ elim (not_before b c s second) [
    | inl other ↦ above a c t (omega (arith, one.0, other))
    | inr other ↦ tied a c t (one.0 ∙ other.0) (rest one.1 other.1)
  ]
]

ltb_one_way : (a b : ℕ) → nat_lt a b ≡ true → nat_lt b a ≡ false
ltb_one_way a b before = grind (arith, nat_tests)

ltb_chain : (a b c : ℕ) → nat_lt a b ≡ false → nat_lt b c ≡ false → nat_lt a c ≡ false
ltb_chain a b c first second = grind (arith, nat_tests)

ltb_both : (a b : ℕ) → nat_lt a b ≡ false → nat_lt b a ≡ false → a ≡ b
ltb_both a b first second = grind (arith, nat_tests)

order_of_matches : IsStrictWeakOrder is_before
order_of_matches = record {
  one_way = λ x y.
      by_number_one_way x.id y.id _ _ (by_number_one_way x.start y.start _ _ (ltb_one_way x.errors y.errors));
  chain = λ x y z.
      by_number_chain x.id y.id z.id _ _ _ (by_number_chain x.start y.start z.start _ _ _ (ltb_chain x.errors y.errors z.errors));
}

by_number_both : (a b : ℕ) (r s : Bool) → by_number a b r ≡ false → by_number b a s ≡ false → (a ≡ b) × (r ≡ false) × (s ≡ false)
by_number_both a b r s first second = elim (not_before a b r first) [
  | inl one ↦ elim (not_before b a s second) [ inl other ↦ absurd (omega (arith, one, other)) | inr other ↦ absurd (omega (arith, one, other.0)) ]
  | inr one ↦ elim (not_before b a s second) [ inl other ↦ absurd (omega (arith, one.0, other)) | inr other ↦ (one.0, one.1, other.1) ]
]

-- matches of which neither comes before the other are the same
same_match : (m n : Match) → is_before m n ≡ false → is_before n m ≡ false → m ≡ n
same_match m n first second =
    let ids = by_number_both m.id n.id _ _ first second in
    let starts = by_number_both m.start n.start _ _ ids.1 ids.2 in
    let errors = ltb_both m.errors n.errors starts.1 starts.2 in
    let make : ℕ → ℕ → ℕ → Match = λ id start errors. record { id = id; start = start; errors = errors } in
    ap (λ id. make id m.start m.errors) ids.0 ∙ ap (λ start. make n.id start m.errors) starts.0 ∙ ap (make n.id n.start) errors

not_itself : (m : Match) → is_before m m ≡ false
not_itself m =
    let last : nat_lt m.errors m.errors ≡ false = grind (arith, nat_tests) in
    tied m.id m.id _ refl (tied m.start m.start _ refl last)

-- ---- lists in order

-- no match comes before one that stands in front of it
abbrev pub InOrder : List Match → Type 0
InOrder [] = ⊤
InOrder (m ∷ ms) = All (λ n. is_before n m ≡ false) ms × InOrder ms

in_order-append : (xs ys : List Match) → InOrder xs → InOrder ys → All (λ m. All (λ n. is_before n m ≡ false) ys) xs → InOrder (xs ++ ys)
in_order-append [] ys first second apart = second
in_order-append (x ∷ xs) ys first second apart =
    let P : Match → Type 0 = λ m. All (λ n. is_before n m ≡ false) ys in
    (All-append (λ n. is_before n x ≡ false) xs ys first.0 (All-head P x xs apart), in_order-append xs ys first.1 second (All-tail P x xs apart))

sorted_tail : (x : Match) (xs : List Match) → AreSorted (x ∷ xs) → AreSorted xs
sorted_tail x xs up = λ k d low high.
    let next : k + 1 + 1 ≡ suc (k + 1) = omega arith in
    let here : k + 1 ≡ suc k = omega arith in
    ap (λ m. is_before m (get_or xs k d)) (sym (ap (λ n. get_or (x ∷ xs) n d) next))
    ∙ ap (is_before (get_or (x ∷ xs) (k + 1 + 1) d)) (sym (ap (λ n. get_or (x ∷ xs) n d) here))
    ∙ up (k + 1) d (omega arith) (omega arith)

pub in_order-from_sorted : (xs : List Match) → AreSorted xs → InOrder xs
in_order-from_sorted [] up = tt
in_order-from_sorted (x ∷ xs) up =
    (λ k d low. sorted_far is_before order_of_matches (x ∷ xs) up 0 (suc k) d (omega arith) (omega arith), in_order-from_sorted xs (sorted_tail x xs up))

-- how many come before a match
abbrev before : Match → Match → ℕ
before m n = cond (is_before n m) 1 0

none_before : (m : Match) (ms : List Match) → All (λ n. is_before n m ≡ false) ms → sum_by (before m) ms ≡ 0
none_before m [] none = refl
none_before m (n ∷ ms) none =
    let first : before m n ≡ 0 = ap (λ b. cond b 1 0) (All-head (λ n. is_before n m ≡ false) n ms none) in
    omega (arith, sum_by-cons (before m) n ms, first, none_before m ms (All-tail (λ n. is_before n m ≡ false) n ms none))

is_not_before : (b : Bool) (n : ℕ) → n ≡ cond b 1 0 → n ≡ 0 → b ≡ false
is_not_before true n is none = absurd (omega (arith, is, none))
is_not_before false n is none = refl

-- the first of a list in order comes before none of a list that has the same
first_is_least : (x y : Match) (xs ys : List Match) → HaveSame (x ∷ xs) (y ∷ ys) → InOrder (x ∷ xs) → is_before y x ≡ false
first_is_least x y xs ys same first =
    let itself : before x x ≡ 0 = ap (λ b. cond b 1 0) (not_itself x) in
    is_not_before (is_before y x) (before x y) refl (omega (arith, same (before x), sum_by-cons (before x) x xs, sum_by-cons (before x) y ys, itself, none_before x xs first.0))

-- two lists in order that have the same matches are the same list
pub same_in_order : (xs ys : List Match) → HaveSame xs ys → InOrder xs → InOrder ys → xs ≡ ys
same_in_order [] [] same first second = refl
same_in_order [] (y ∷ ys) same first second =
    let one : Match → ℕ = λ m. 1 in
    absurd (omega (arith, same one, sum_by-cons one y ys))
same_in_order (x ∷ xs) [] same first second =
    let one : Match → ℕ = λ m. 1 in
    absurd (omega (arith, same one, sum_by-cons one x xs))
same_in_order (x ∷ xs) (y ∷ ys) same first second =
    let is : x ≡ y = same_match x y (first_is_least y x ys xs (λ f. sym (same f)) second) (first_is_least x y xs ys same first) in
    let rest : xs ≡ ys = same_in_order xs ys (λ f. omega (arith, same f, sum_by-cons f x xs, sum_by-cons f y ys, ap f is)) first.1 second.1 in
    ap (λ m. m ∷ xs) is ∙ ap (λ ms. y ∷ ms) rest

-- ---- the list of all matches

-- a match has the song's id and the start
match_is : (query : Query) (song : ℕ × Song) (start : ℕ × List ℕ)
    → (match_at query song start ≡ None) ⊎ (match_at query song start ≡ Some (record { id = song.0; start = start.0; errors = errors_of query.prints start.1 }))
unfolding match_at
match_is query song start =
    let some : Option Match = Some (record { id = song.0; start = start.0; errors = errors_of query.prints start.1 }) in
    elim (list_any (is_hit query) (zip query.prints start.1) && nat_le (errors_of query.prints start.1) song.1.limit) as (λ b. (cond b some None ≡ None) ⊎ (cond b some None ≡ some)) [
      | true ↦ inr refl
      | false ↦ inl refl
    ]

-- from this start on, in this song
abbrev IsFrom : ℕ × Song → ℕ → Match → Type 0
IsFrom song start m = (m.id ≡ song.0) × (start ≤ m.start)

abbrev RiseFrom : ℕ × Song → ℕ → List Match → Type 0
RiseFrom song start ms = InOrder ms × All (IsFrom song start) ms

starts_rise : (query : Query) (song : ℕ × Song) (at : ℕ → List ℕ) (a n : ℕ)
    → RiseFrom song a (filter_map (match_at query song) (map (λ q. (q, at q)) (range_with_len a n)))
starts_rise query song at a zero = (tt, All-nil (IsFrom song a))
starts_rise query song at a (suc n) =
    let later : List Match = filter_map (match_at query song) (map (λ q. (q, at q)) (range_with_len (a + 1) n)) in
    let rest = starts_rise query song at (a + 1) n in
    let above_a : All (IsFrom song a) later = All-weaker (IsFrom song (a + 1)) (IsFrom song a) (λ m is. (is.0, omega (arith, is.1))) later rest.1 in
    let P : Option Match → Type 0 = λ o. RiseFrom song a (cons_option o later) in
    elim (match_is query song (a, at a)) [
      | inl none ↦ subst P (sym none) (rest.0, above_a)
      | inr some ↦
          let m : Match = record { id = song.0; start = a; errors = errors_of query.prints (at a) } in
          let first : All (λ n. is_before n m ≡ false) later =
          All-weaker (IsFrom song (a + 1)) (λ n. is_before n m ≡ false) (λ n is. tied n.id m.id _ is.0 (above n.start m.start _ (omega (arith, is.1)))) later rest.1 in
          subst P (sym some) ((first, rest.0), All-cons (IsFrom song a) m later (refl, omega arith) above_a)
    ]

song_rises : (query : Query) (song : ℕ × Song) → RiseFrom song 0 (matches_of_song query song)
song_rises query song =
    let P : List Match → Type 0 = λ ms. RiseFrom song 0 ms in
    subst P (sym (all_starts query song)) (starts_rise query song (window (length query.prints) 1 song.1.words) 0 (window_count (length query.prints) 1 (length song.1.words)))

ids_above : (query : Query) (songs : Songs) (id : ℕ) → AreAbove id songs → All (λ m. id < m.id) (matches query songs)
unfolding matches
ids_above query [] id higher = All-nil (λ (m : Match). id < m.id)
ids_above query (song ∷ songs) id higher =
    All-append (λ (m : Match). id < m.id) (matches_of_song query song) (matches query songs)
    (All-weaker (IsFrom song 0) (λ (m : Match). id < m.id) (λ m is. omega (arith, is.0, higher.0)) (matches_of_song query song) (song_rises query song).1)
    (ids_above query songs id higher.1)

-- the list of all matches is in order, where the ids of the songs rise
pub matches_in_order : (query : Query) (songs : Songs) → AreRising songs → InOrder (matches query songs)
unfolding matches
matches_in_order query [] rising = tt
matches_in_order query (song ∷ songs) rising =
    let higher = ids_above query songs song.0 rising.0 in
    in_order-append (matches_of_song query song) (matches query songs) (song_rises query song).0 (matches_in_order query songs rising.1)
    (All-weaker (IsFrom song 0) (λ m. All (λ n. is_before n m ≡ false) (matches query songs))
    (λ m is. All-weaker (λ (n : Match). song.0 < n.id) (λ n. is_before n m ≡ false) (λ n id. above n.id m.id _ (omega (arith, id, is.0))) (matches query songs) higher)
    (matches_of_song query song) (song_rises query song).1)

-- ---- no more matches than words

fewer-filter_map : {X Y : Type 0} (h : X → Option Y) (xs : List X) → length (filter_map h xs) ≤ length xs
fewer-filter_map h [] = omega arith
fewer-filter_map h (x ∷ xs) =
    let rest = fewer-filter_map h xs in
    elim (h x) as (λ o. length (cons_option o (filter_map h xs)) ≤ suc (length xs)) [ Some y ↦ omega (arith, rest) | None ↦ omega (arith, rest) ]

fewer_starts : (size n : ℕ) → 0 < size → window_count size 1 n ≤ n
fewer_starts size n some =
    let ones : (n - size) / 1 ≡ n - size = omega arith in
    elim (leb_tells (suc n) size) [
      | inl short ↦ omega (arith, ap (λ b. cond b 0 ((n - size) / 1 + 1)) short.0)
      | inr long ↦ omega (arith, ones, long.1, ap (λ b. cond b 0 ((n - size) / 1 + 1)) long.0)
    ]

pub fewer_matches : (query : Query) (songs : Songs) → 0 < length query.prints → length (matches query songs) ≤ positions_of songs
unfolding matches
fewer_matches query songs some =
    let one : (song : ℕ × Song) → length (matches_of_song query song) ≤ length song.1.words = λ song.
    let at : ℕ → ℕ × List ℕ = λ q. (q, window (length query.prints) 1 song.1.words q) in
    let count = window_count (length query.prints) 1 (length song.1.words) in
    omega (
      arith,
      ap length (all_starts query song),
      fewer-filter_map (match_at query song) (map at (range_with_len 0 count)),
      length-map-range_with_len at 0 count,
      fewer_starts (length query.prints) (length song.1.words) some,
    ) in
    omega (
      arith,
      length-flat_map (matches_of_song query) songs,
      sum_by-le-sum_by (λ song. length (matches_of_song query song)) (λ (song : ℕ × Song). length song.1.words) songs one,
    )
