-- What a place of the table gives for a print.
use Rattle.std.proofs.Common.{◌≡◌, ℕ, ◌+◌, ◌-◌, ◌<◌, ◌≤◌, ◌==◌, List, [], ◌∷◌, ◌++◌, length, take, drop, get_or, filter_map, flat_map, sum_by, bit_xor, Option, Some, None, Bool, true, false, cond, refl, sym, ◌∙◌, ap, arith, append_assoc, length-append, zero-add, inl, inr}
use Rattle.std.specs.Option.{option_map_or}
use Rattle.std.specs.List.{enumerate_from, slice_get, cons_option}
use Rattle.std.proofs.lemmas.Bool.{cases_eq, eq-eqb, ne_eqb}
use Rattle.std.proofs.lemmas.Option.{none-some, same_Some}
use Rattle.std.proofs.lemmas.List.{take_more, take_all, take-append-drop, append-nil, length-take}
use Rattle.std.proofs.lemmas.List.Folds.{flat_map-map}
use Rattle.std.proofs.lemmas.List.Concat.{flat_map-append}
use Rattle.std.proofs.lemmas.List.FromFn.{length-enumerate_from, get_or-enumerate_from}
use Rattle.std.proofs.lemmas.List.Sorted.{sum_by-IsPermutation}
use Rattle.std.specs.List.Sorted.{IsPermutation}
use Rattle.std.proofs.lemmas.List.Sums.{sum_by-cons, sum_by-append, sum_by-le-sum_by}
use Rattle.hk_base.specs.declared.plain.Match.{Match}
use Rattle.hk_base.specs.declared.plain.Print.{Print}
use Rattle.hk_spec_sound.specs.Windows.{window}
use Rattle.hk_spec_matching.specs.Catalogue.{Song, Songs, positions_of}
use Rattle.hk_spec_matching.specs.Matching.{Query, matches}
use Rattle.hk_spec_matching.specs.Buckets.{bucket_of}
use Rattle.hk_spec_matching.specs.Cost.{all_words, looked_up, cost}
use Rattle.hk_spec_matching.specs.Occurrences.{Occurrence, occurrences, occurrences_in, occurrences_of}
use Rattle.hk_table.specs.Store.{Store, SongWithId, song_at}
use Rattle.hk_table.specs.Index.{ArePlaces, index_of}
use Rattle.hk_table.specs.declared.place.Place.{Place}
use Rattle.hk_block.specs.Room.{AreSorted}
use Rattle.hk_catalogue.specs.Entries.{AreRising}
use Rattle.hk_catalogue.specs.Shelves.{Shelves, entry_of, song_of, songs_of}
use Rattle.hk_catalogue.specs.CatalogueInside.{IsShelved}
use Rattle.hk_probe.specs.Comparison.{subsets_for, first_match_at}
use Rattle.hk_probe.specs.Search.{found, found_at, found_of, found_by, found_in, nodes_of, nodes_by, numbered, HaveSame}
use Rattle.hk_probe.proofs.Sums.{of_option, sum_by-same, sum_by-of_map, sum_by-of_flat_map, sum_by-of_filter, sum_by-of_filter_map}
use Rattle.hk_probe.proofs.Places.{of_places}
use Rattle.hk_probe.proofs.Songs.{matches_none}
use Rattle.hk_probe.proofs.Order.{same_in_order, in_order-from_sorted, matches_in_order, fewer_matches}
use Rattle.hk_probe.proofs.Finds.{found-outside, found-inside, fits-early, fits-late, found_all}

-- an empty slot gives nothing
pub nothing_there : (query : Query) (store : Store) (j : ℕ) (place : Place) → 0 < length query.prints → song_at store place.slot ≡ None
    → None ≡ found_at query store j place
nothing_there query store j place some empty =
    sym (ap (λ o. found query j (option_map_or entry_of o (0, song_of [])) place.pos) empty
    ∙ found-outside query j (0, song_of []) place.pos (fits-late query j (0, song_of []) place.pos (omega arith)))

at_song : (query : Query) (store : Store) (j : ℕ) (place : Place) (track : SongWithId) → song_at store place.slot ≡ Some track
    → found_at query store j place ≡ found query j (entry_of track) place.pos
at_song query store j place track there = ap (λ o. found query j (option_map_or entry_of o (0, song_of [])) place.pos) there

-- a block that begins before its song isn't there
pub begins_before : (query : Query) (store : Store) (j : ℕ) (place : Place) (track : SongWithId) → song_at store place.slot ≡ Some track
    → place.pos < j → None ≡ found_at query store j place
begins_before query store j place track there early =
    sym (at_song query store j place track there ∙ found-outside query j (entry_of track) place.pos (fits-early query j (entry_of track) place.pos early))

-- nor is one that ends behind it
pub ends_behind : (query : Query) (store : Store) (j : ℕ) (place : Place) (track : SongWithId) → song_at store place.slot ≡ Some track
    → length track.words < place.pos - j + length query.prints → None ≡ found_at query store j place
ends_behind query store j place track there late =
    sym (at_song query store j place track there ∙ found-outside query j (entry_of track) place.pos (fits-late query j (entry_of track) place.pos late))

-- one that fits is found by its words
pub by_words : (query : Query) (store : Store) (j : ℕ) (place : Place) (track : SongWithId) (start : ℕ) (words : List ℕ) (result : Option Match) (id : ℕ)
    → song_at store place.slot ≡ Some track → place.pos ≡ j + start → start + length query.prints ≤ length track.words
    → words ≡ window (length query.prints) 1 track.words start → id ≡ track.id
    → result ≡ first_match_at query j (id, song_of track.words) (start, words) → result ≡ found_at query store j place
by_words query store j place track start words result id there is within words_are id_is found_there =
    found_there
    ∙ ap (λ n. first_match_at query j (n, song_of track.words) (start, words)) id_is
    ∙ ap (λ ws. first_match_at query j (entry_of track) (start, ws)) words_are
    ∙ sym (at_song query store j place track there ∙ found-inside query j (entry_of track) place.pos start is within)

-- ---- one place of a walk after another

pub sum_by-ones : {A : Type 0} (xs : List A) → sum_by (λ x. 1) xs ≡ length xs
sum_by-ones [] = refl
sum_by-ones {A} (x ∷ xs) = omega (arith, sum_by-cons (λ (x : A). 1) x xs, sum_by-ones xs)

-- lists with the same matches have as many
pub as_many : (xs ys : List Match) → HaveSame xs ys → length xs ≡ length ys
as_many xs ys same = sym (sum_by-ones xs) ∙ same (λ m. 1) ∙ sum_by-ones ys

-- the places of a word give what the word gives
pub word_gives : (query : Query) (shelves : Shelves) (j word : ℕ) (places : List Place) (old : List Match)
    → ArePlaces (index_of shelves.store) word places → IsShelved shelves
    → HaveSame (old ++ filter_map (found_at query shelves.store j) places) (old ++ found_of query (songs_of shelves) j word)
unfolding found_of
word_gives query shelves j word places old are shelved = λ f.
    let found_there : Occurrence → Option Match = λ o. found query j o.song o.position in
    sum_by-append f old (filter_map (found_at query shelves.store j) places)
    ∙ ap (λ n. sum_by f old + n)
    (sum_by-of_filter_map f (found_at query shelves.store j) places
    ∙ of_places (λ o. of_option f (found_there o)) shelves.store shelves.index word places are shelved.rising shelved.held shelved.filled
    ∙ sym (sum_by-of_filter_map f found_there (occurrences_of word (songs_of shelves))))
    ∙ sym (sum_by-append f old (filter_map found_there (occurrences_of word (songs_of shelves))))

sum_by-numbered : (f : ℕ → ℕ) (a : ℕ) (words : List ℕ) → sum_by (λ e. f e.1) (enumerate_from a words) ≡ sum_by f words
sum_by-numbered f a [] = refl
sum_by-numbered f a (x ∷ words) =
    omega (arith, sum_by-cons (λ (e : ℕ × ℕ). f e.1) (a, x) (enumerate_from (a + 1) words), sum_by-cons f x words, sum_by-numbered f (a + 1) words)

-- a sum over all words is one over where they occur
of_words : (f : ℕ → ℕ) (songs : Songs) → sum_by f (all_words songs) ≡ sum_by (λ o. f o.word) (occurrences songs)
of_words f songs =
    sum_by-of_flat_map f (λ (e : ℕ × Song). e.1.words) songs
    ∙ sum_by-same (λ (e : ℕ × Song). sum_by f e.1.words) (λ e. sum_by (λ o. f o.word) (occurrences_in e))
    (λ e. sym (sum_by-of_map (λ (o : Occurrence). f o.word) (λ (x : ℕ × ℕ). record { song = e; position = x.0; word = x.1 }) (enumerate_from 0 e.1.words) ∙ sum_by-numbered f 0 e.1.words)) songs
    ∙ sym (sum_by-of_flat_map (λ (o : Occurrence). f o.word) occurrences_in songs)

one_or_none : (b : Bool) (n : ℕ) → n ≡ cond b 1 0 → n ≤ 1
one_or_none true n is = omega (arith, is)
one_or_none false n is = omega (arith, is)

-- a word stands at no more places than there are nodes in its bucket
pub few_places : (shelves : Shelves) (word : ℕ) (places : List Place) → ArePlaces (index_of shelves.store) word places → IsShelved shelves
    → length places ≤ nodes_of shelves.store.positions (songs_of shelves) word
few_places shelves word places are shelved =
    let number : Bool → ℕ = λ b. cond b 1 0 in
    let songs = songs_of shelves in
    let bucket : ℕ → ℕ = bucket_of shelves.store.positions in
    let here : Occurrence → ℕ = λ o. cond (o.word == word) 1 0 in
    let near : Occurrence → ℕ = λ o. cond (bucket o.word == bucket word) 1 0 in
    let one : (o : Occurrence) → here o ≤ near o = λ o. elim (cases_eq o.word word) [
      | inl is ↦ omega (arith, ap number (eq-eqb (bucket o.word) (bucket word) (ap bucket is)), one_or_none (o.word == word) (here o) refl)
      | inr other ↦ omega (arith, ap number (ne_eqb o.word word other))
    ] in
    let all : sum_by (λ p. 1) places ≡ sum_by (λ o. 1) (occurrences_of word songs) =
    of_places (λ o. 1) shelves.store shelves.index word places are shelved.rising shelved.held shelved.filled in
    omega (
      arith,
      sum_by-ones places,
      all,
      sum_by-of_filter (λ (o : Occurrence). 1) (λ o. o.word == word) (occurrences songs),
      sum_by-le-sum_by here near (occurrences songs) one,
      of_words (λ x. cond (bucket x == bucket word) 1 0) songs,
    )

-- a walk's next place is the first of those that are left
pub first_left : (old new : List Place) (next : Option Place) (place : Place) → next ≡ slice_get old 0 → new ≡ drop 1 old → next ≡ Some place → old ≡ place ∷ new
first_left [] new next place is left some = absurd (none-some place (sym is ∙ some))
first_left (x ∷ xs) new next place is left some =
    ap (λ y. y ∷ xs) (same_Some x place (sym is ∙ some)) ∙ ap (λ ys. place ∷ ys) (sym left)

pub none_left : (old : List Place) (next : Option Place) → next ≡ slice_get old 0 → next ≡ None → old ≡ []
none_left [] next is none = refl
none_left (x ∷ xs) next is none = absurd (none-some x (sym none ∙ is))

-- what a place gives is put, and what is left gives the rest
pub put_more : (query : Query) (store : Store) (j : ℕ) (before left : List Place) (place : Place) (old new all : List Match) (given : Option Match)
    → before ≡ place ∷ left → given ≡ found_at query store j place → new ≡ old ++ cons_option given []
    → HaveSame (old ++ filter_map (found_at query store j) before) all → HaveSame (new ++ filter_map (found_at query store j) left) all
put_more query store j before left place old new all given parts is grown same = λ f.
    let rest : List Match = filter_map (found_at query store j) left in
    let joined : (o : Option Match) → (old ++ cons_option o []) ++ rest ≡ old ++ cons_option o rest = λ o.
    elim o as (λ o. (old ++ cons_option o []) ++ rest ≡ old ++ cons_option o rest) [
      | Some m ↦ append_assoc old (m ∷ []) rest
      | None ↦ append_assoc old [] rest
    ] in
    ap (sum_by f)
    (ap (λ ms. ms ++ rest) grown
    ∙ joined given
    ∙ ap (λ o. old ++ cons_option o rest) is
    ∙ sym (ap (λ ps. old ++ filter_map (found_at query store j) ps) parts))
    ∙ same f

-- ---- one word after another

-- a piece is put, and what is left is together with it what was there
pub put_piece : (old new piece rest all : List Match) → HaveSame new (old ++ piece) → HaveSame (old ++ (piece ++ rest)) all → HaveSame (new ++ rest) all
put_piece old new piece rest all put same = λ f.
    omega (
      arith,
      same f,
      put f,
      sum_by-append f new rest,
      sum_by-append f old piece,
      sum_by-append f old (piece ++ rest),
      sum_by-append f piece rest,
    )

-- what is put next has room
pub piece_fits : (old piece rest first all : List Match) (room : ℕ) → HaveSame (old ++ (piece ++ rest)) (first ++ all) → length first + length all ≤ room
    → length old + length piece ≤ room
piece_fits old piece rest first all room same fits =
    omega (
      arith,
      fits,
      as_many (old ++ (piece ++ rest)) (first ++ all) same,
      length-append old (piece ++ rest),
      length-append piece rest,
      length-append first all,
    )

-- what a print gives, by the subsets of its mask
pub by_subsets : (query : Query) (songs : Songs) (print : ℕ × Print)
    → flat_map (λ s. found_of query songs print.0 (bit_xor print.1.word s)) (subsets_for query print.1) ≡ found_by query songs print
unfolding found_by
by_subsets query songs print = sym (flat_map-map (found_of query songs print.0) (bit_xor print.1.word) (subsets_for query print.1))

pub nodes_by_subsets : (positions : ℕ) (query : Query) (songs : Songs) (print : Print)
    → nodes_by positions query songs print ≡ sum_by (λ s. nodes_of positions songs (bit_xor print.word s)) (subsets_for query print)
nodes_by_subsets positions query songs print = sum_by-of_map (nodes_of positions songs) (bit_xor print.word) (subsets_for query print)

-- ---- one print after another

-- one print more
pub prints_more : (query : Query) (songs : Songs) (j : ℕ) → j < length query.prints
    → flat_map (found_by query songs) (take (j + 1) (enumerate_from 0 query.prints))
    ≡ flat_map (found_by query songs) (take j (enumerate_from 0 query.prints)) ++ found_by query songs (numbered j query.prints)
prints_more query songs j low =
    let d : ℕ × Print = (0, record { word = 0; mask = 0 }) in
    let all = enumerate_from 0 query.prints in
    let one : found_by query songs (get_or all j d) ≡ found_by query songs (numbered j query.prints) =
    ap (found_by query songs) (get_or-enumerate_from 0 query.prints j d low ∙ ap (λ n. (n, get_or query.prints j d.1)) (zero-add j)) in
    ap (flat_map (found_by query songs)) (take_more all j d (omega (arith, length-enumerate_from 0 query.prints)))
    ∙ flat_map-append (found_by query songs) (take j all) (get_or all j d ∷ [])
    ∙ ap (λ ms. flat_map (found_by query songs) (take j all) ++ ms) (append-nil (found_by query songs (get_or all j d)) ∙ one)

-- what a print gives is put behind what those before it gave
pub put_print : (query : Query) (songs : Songs) (j : ℕ) (old new : List Match) → j < length query.prints
    → HaveSame old (flat_map (found_by query songs) (take j (enumerate_from 0 query.prints)))
    → HaveSame new (old ++ found_by query songs (numbered j query.prints))
    → HaveSame new (flat_map (found_by query songs) (take (j + 1) (enumerate_from 0 query.prints)))
put_print query songs j old new low before put = λ f.
    let piece : List Match = found_by query songs (numbered j query.prints) in
    let done : List Match = flat_map (found_by query songs) (take j (enumerate_from 0 query.prints)) in
    omega (arith, put f, before f, sum_by-append f old piece, sum_by-append f done piece, ap (sum_by f) (prints_more query songs j low))

-- there is room for what a print gives
pub print_fits : (query : Query) (songs : Songs) (j room : ℕ) (old : List Match) → j < length query.prints
    → HaveSame old (flat_map (found_by query songs) (take j (enumerate_from 0 query.prints))) → positions_of songs ≤ room
    → length old + length (found_by query songs (numbered j query.prints)) ≤ room
unfolding found_in
print_fits query songs j room old low before fits =
    let all = enumerate_from 0 query.prints in
    let done : List Match = flat_map (found_by query songs) (take j all) in
    let size : length (take (j + 1) all) ≤ length all = omega (arith, length-take (j + 1) all) in
    let some : 0 < length query.prints = omega arith in
    let whole : length (found_in query songs) ≡ length (matches query songs) = as_many (found_in query songs) (matches query songs) (found_all query songs) in
    let split : length (flat_map (found_by query songs) (take (j + 1) all)) + length (flat_map (found_by query songs) (drop (j + 1) all)) ≡ length (found_in query songs) =
    sym (length-append (flat_map (found_by query songs) (take (j + 1) all)) (flat_map (found_by query songs) (drop (j + 1) all)))
    ∙ ap length (sym (flat_map-append (found_by query songs) (take (j + 1) all) (drop (j + 1) all)) ∙ ap (flat_map (found_by query songs)) (take-append-drop (j + 1) all)) in
    omega (
      arith,
      as_many old done before,
      ap length (prints_more query songs j low),
      length-append done (found_by query songs (numbered j query.prints)),
      split,
      whole,
      fewer_matches query songs some,
      fits,
    )

-- what all prints gave, in order, is the list of matches
pub all_matches : (query : Query) (songs : Songs) (put ordered : List Match) (n : ℕ) → length query.prints ≤ n → AreRising songs
    → HaveSame put (flat_map (found_by query songs) (take n (enumerate_from 0 query.prints))) → IsPermutation put ordered → AreSorted ordered
    → ordered ≡ matches query songs
unfolding found_in
all_matches query songs put ordered n whole rising before same up =
    let all = enumerate_from 0 query.prints in
    let last : take n all ≡ all = take_all n all (omega (arith, length-enumerate_from 0 query.prints)) in
    same_in_order ordered (matches query songs)
    (λ f. sum_by-IsPermutation f put ordered same ∙ before f ∙ ap (λ es. sum_by f (flat_map (found_by query songs) es)) last ∙ found_all query songs f)
    (in_order-from_sorted ordered up) (matches_in_order query songs rising)

-- the nodes of all prints are the cost
pub nodes_are_cost : (positions : ℕ) (query : Query) (songs : Songs) → sum_by (nodes_by positions query songs) query.prints ≡ cost positions query songs
unfolding cost
nodes_are_cost positions query songs = sym (sum_by-of_flat_map (nodes_of positions songs) (looked_up query) query.prints)

no_songs : (songs : Songs) → length songs ≡ 0 → songs ≡ []
no_songs [] none = refl
no_songs (e ∷ songs) none = absurd (omega (arith, none))

-- an empty catalogue has no match
pub nothing_matches : (query : Query) (songs : Songs) → length songs ≡ 0 → [] ≡ matches query songs
nothing_matches query songs none = sym (ap (matches query) (no_songs songs none) ∙ matches_none query)
