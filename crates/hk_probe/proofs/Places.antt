-- The places of a word in the table are where it occurs in the songs.
use Rattle.std.proofs.Common.{◌≡◌, ◌≢◌, ℕ, zero, suc, ◌+◌, ◌<◌, ◌≤◌, ◌==◌, List, [], ◌∷◌, map, filter, flat_map, sum_by, Option, Some, None, option_map, Bool, true, false, cond, refl, sym, ◌∙◌, ap, subst, arith, zero-add, inl, inr}
use Rattle.std.specs.List.{All, Contains, enumerate_from, slice_get}
use Rattle.std.specs.Option.{option_map_or}
use Rattle.std.proofs.lemmas.Bool.{cases_eq, eq-eqb, ne_eqb}
use Rattle.std.proofs.lemmas.Option.{same_Some, none-some}
use Rattle.std.proofs.lemmas.List.Sums.{sum_by-append}
use Rattle.std.proofs.lemmas.List.Elements.{All-nil, All-cons, All-head, All-tail, All-append, All-weaker, Contains-append_left, Contains-append_right}
use Rattle.hk_spec_matching.specs.Catalogue.{Song}
use Rattle.hk_spec_matching.specs.Occurrences.{Occurrence, occurrences, occurrences_in, occurrences_of}
use Rattle.hk_table.specs.Store.{Store, SongWithId, song_at}
use Rattle.hk_table.specs.Index.{AreOnce, ArePlaces, StandsAt, index_of}
use Rattle.hk_table.specs.declared.place.Place.{Place}
use Rattle.hk_catalogue.specs.Entries.{AreAbove, AreRising}
use Rattle.hk_catalogue.specs.Shelves.{song_of, entry_of, songs_in, words_at}
use Rattle.hk_catalogue.specs.CatalogueInside.{IsHeld, IsFilled}
use Rattle.hk_catalogue.proofs.Counting.{slot_words}
use Rattle.hk_probe.specs.Search.{entry_at}
use Rattle.hk_probe.proofs.Sums.{sum_by-same, sum_by-of_map, sum_by-of_filter}
use Rattle.hk_probe.proofs.Once.{contains_first, contains_later, once-append, same_sums}

-- ---- the places of a word in a slot

-- those among words that stand from this position on
abbrev places_from : ℕ → ℕ → ℕ → List ℕ → List Place
places_from slot word a words = map (λ e. record { slot = slot; pos = e.0 }) (filter (λ e. e.1 == word) (enumerate_from a words))

abbrev place : ℕ → ℕ → Place
place slot pos = record { slot = slot; pos = pos }

-- one word more in front
abbrev with_word : ℕ → ℕ → ℕ → ℕ → List ℕ → Bool → List Place
with_word slot word a x words b = map (λ e. record { slot = slot; pos = e.0 }) (cond b ((a, x) ∷ filter (λ e. e.1 == word) (enumerate_from (a + 1) words)) (filter (λ e. e.1 == word) (enumerate_from (a + 1) words)))

-- a place in this slot, from this position on
abbrev IsIn : ℕ → ℕ → Place → Type 0
IsIn slot a p = (p.slot ≡ slot) × (a ≤ p.pos)

all_in : (slot word a : ℕ) (words : List ℕ) → All (IsIn slot a) (places_from slot word a words)
all_in slot word a [] = All-nil (IsIn slot a)
all_in slot word a (x ∷ words) =
    let later : List Place = places_from slot word (a + 1) words in
    let rest : All (IsIn slot a) later = All-weaker (IsIn slot (a + 1)) (IsIn slot a) (λ p is. (is.0, omega (arith, is.1))) later (all_in slot word (a + 1) words) in
    elim (x == word) as (λ b. All (IsIn slot a) (with_word slot word a x words b)) [
      | true ↦ All-cons (IsIn slot a) (place slot a) later (refl, omega arith) rest
      | false ↦ rest
    ]

once_in : (slot word a : ℕ) (words : List ℕ) → AreOnce (places_from slot word a words)
once_in slot word a [] = tt
once_in slot word a (x ∷ words) =
    let later : List Place = places_from slot word (a + 1) words in
    let other : All (λ p. place slot a ≢ p) later =
    All-weaker (IsIn slot (a + 1)) (λ p. place slot a ≢ p) (λ p is same. omega (arith, is.1, ap (λ (p : Place). p.pos) same)) later (all_in slot word (a + 1) words) in
    elim (x == word) as (λ b. AreOnce (with_word slot word a x words b)) [
      | true ↦ (other, once_in slot word (a + 1) words)
      | false ↦ once_in slot word (a + 1) words
    ]

-- the word stands at each of these places, where the words are what a list has from a position on
each_stands : (all : List ℕ) (slot word a : ℕ) (words : List ℕ) → ((k : ℕ) → slice_get all (a + k) ≡ slice_get words k)
    → All (λ p. (p.slot ≡ slot) × (slice_get all p.pos ≡ Some word)) (places_from slot word a words)
each_stands all slot word a [] same = All-nil (λ (p : Place). (p.slot ≡ slot) × (slice_get all p.pos ≡ Some word))
each_stands all slot word a (x ∷ words) same =
    let P : Place → Type 0 = λ p. (p.slot ≡ slot) × (slice_get all p.pos ≡ Some word) in
    let later : List Place = places_from slot word (a + 1) words in
    let rest : All P later = each_stands all slot word (a + 1) words (λ k.
    let next : a + 1 + k ≡ a + suc k = omega arith in
    ap (slice_get all) next ∙ same (suc k)) in
    let here : a ≡ a + 0 = omega arith in
    elim (cases_eq x word) [
      | inl is ↦
          let R : Bool → Type 0 = λ b. All P (with_word slot word a x words b) in
          subst R (sym (eq-eqb x word is)) (All-cons P (place slot a) later (refl, ap (slice_get all) here ∙ same 0 ∙ ap (λ w. Some w) is) rest)
      | inr other ↦
          let R : Bool → Type 0 = λ b. All P (with_word slot word a x words b) in
          subst R (sym (ne_eqb x word other)) rest
    ]

-- a place where the word stands is among these
stands_in : (slot word a : ℕ) (words : List ℕ) (k : ℕ) → slice_get words k ≡ Some word → Contains (places_from slot word a words) (place slot (a + k))
stands_in slot word a [] k there = absurd (none-some word there)
stands_in slot word a (x ∷ words) zero there =
    let later : List Place = places_from slot word (a + 1) words in
    let here : a ≡ a + 0 = omega arith in
    let P : ℕ → Type 0 = λ pos. Contains (place slot a ∷ later) (place slot pos) in
    let R : Bool → Type 0 = λ b. Contains (with_word slot word a x words b) (place slot (a + 0)) in
    subst R (sym (eq-eqb x word (same_Some x word there))) (subst P here (contains_first (place slot a) later))
stands_in slot word a (x ∷ words) (suc k) there =
    let later : List Place = places_from slot word (a + 1) words in
    let next : a + 1 + k ≡ a + suc k = omega arith in
    let P : ℕ → Type 0 = λ pos. Contains later (place slot pos) in
    let behind : Contains later (place slot (a + suc k)) = subst P next (stands_in slot word (a + 1) words k there) in
    elim (x == word) as (λ b. Contains (with_word slot word a x words b) (place slot (a + suc k))) [
      | true ↦ contains_later (place slot a) (place slot (a + suc k)) later behind
      | false ↦ behind
    ]

-- ---- the places of a word in all slots of an index

abbrev places_by : Store → ℕ → ℕ × ℕ → List Place
places_by store word entry = places_from entry.1 word 0 (words_at store entry.1)

abbrev places_in : Store → ℕ → List (ℕ × ℕ) → List Place
places_in store word index = flat_map (places_by store word) index

-- the slot has a song with a greater id
abbrev IsAbove : Store → ℕ → Place → Type 0
IsAbove store id p = (n : ℕ) × (IsHeld store (n, p.slot)) × (id < n)

all_above : (store : Store) (word id : ℕ) (index : List (ℕ × ℕ)) → AreAbove id index → All (IsHeld store) index → All (IsAbove store id) (places_in store word index)
all_above store word id [] above held = All-nil (IsAbove store id)
all_above store word id (e ∷ index) above held =
    All-append (IsAbove store id) (places_by store word e) (places_in store word index)
    (All-weaker (IsIn e.1 0) (IsAbove store id)
    (λ p is. (e.0, ap (λ slot. option_map (λ (track : SongWithId). track.id) (song_at store slot)) is.0 ∙ All-head (IsHeld store) e index held, above.0))
    (places_by store word e) (all_in e.1 word 0 (words_at store e.1)))
    (all_above store word id index above.1 (All-tail (IsHeld store) e index held))

once_in_all : (store : Store) (word : ℕ) (index : List (ℕ × ℕ)) → AreRising index → All (IsHeld store) index → AreOnce (places_in store word index)
once_in_all store word [] rising held = tt
once_in_all store word (e ∷ index) rising held =
    let rest : List Place = places_in store word index in
    let others = all_above store word e.0 index rising.0 (All-tail (IsHeld store) e index held) in
    once-append (places_by store word e) rest (once_in e.1 word 0 (words_at store e.1)) (once_in_all store word index rising.1 (All-tail (IsHeld store) e index held))
    (All-weaker (IsIn e.1 0) (λ p. All (λ q. p ≢ q) rest)
    (λ p is. All-weaker (IsAbove store e.0) (λ q. p ≢ q)
    (λ q higher same.
    let slots : e.1 ≡ q.slot = sym is.0 ∙ ap (λ (p : Place). p.slot) same in
    let ids : Some e.0 ≡ Some higher.0 =
    sym (All-head (IsHeld store) e index held) ∙ ap (λ slot. option_map (λ (track : SongWithId). track.id) (song_at store slot)) slots ∙ higher.1 in
    omega (arith, same_Some e.0 higher.0 ids, higher.2)) rest others)
    (places_by store word e) (all_in e.1 word 0 (words_at store e.1)))

stands_are : (store : Store) (word : ℕ) (p : Place) → slice_get (words_at store p.slot) p.pos ≡ Some word → StandsAt (index_of store) word p
stands_are store word p there = ap (λ words. slice_get words p.pos) (slot_words store p.slot) ∙ there

all_stand : (store : Store) (word : ℕ) (index : List (ℕ × ℕ)) → All (StandsAt (index_of store) word) (places_in store word index)
all_stand store word [] = All-nil (StandsAt (index_of store) word)
all_stand store word (e ∷ index) =
    let all : List ℕ = words_at store e.1 in
    All-append (StandsAt (index_of store) word) (places_by store word e) (places_in store word index)
    (All-weaker (λ p. (p.slot ≡ e.1) × (slice_get all p.pos ≡ Some word)) (StandsAt (index_of store) word)
    (λ p is. stands_are store word p (ap (λ slot. slice_get (words_at store slot) p.pos) is.0 ∙ is.1))
    (places_by store word e) (each_stands all e.1 word 0 all (λ k. ap (slice_get all) (zero-add k))))
    (all_stand store word index)

contains-flat_map : {A B : Type 0} (f : A → List B) (xs : List A) (x : A) (y : B) → Contains xs x → Contains (f x) y → Contains (flat_map f xs) y
contains-flat_map f [] x y (k, low, is) there = absurd (omega (arith, low))
contains-flat_map {A} {B} f (z ∷ xs) x y (zero, low, is) there =
    let P : A → Type 0 = λ a. Contains (f a) y in
    Contains-append_left (f z) (flat_map f xs) y (subst P (sym is) there)
contains-flat_map f (z ∷ xs) x y (suc k, low, is) there =
    Contains-append_right (f z) (flat_map f xs) y (contains-flat_map f xs x y (k, omega (arith, low), is) there)

-- a slot in which a word stands has a song
has_song : (store : Store) (slot pos word : ℕ) → slice_get (words_at store slot) pos ≡ Some word → (track : SongWithId) × (song_at store slot ≡ Some track)
has_song store slot pos word there =
    let go : (o : Option SongWithId) → song_at store slot ≡ o → (track : SongWithId) × (song_at store slot ≡ Some track) = λ o.
    elim o as (λ o. song_at store slot ≡ o → (track : SongWithId) × (song_at store slot ≡ Some track)) [
      | Some track ↦ λ is. (track, is)
      | None ↦ λ is.
          let none : None ≡ Some word = sym (ap (λ o. slice_get (option_map_or (λ (track : SongWithId). track.words) o []) pos) is) ∙ there in
          absurd (none-some word none)
    ] in
    go (song_at store slot) refl

all_there : (store : Store) (word : ℕ) (index : List (ℕ × ℕ)) → IsFilled store index → (p : Place) → StandsAt (index_of store) word p
    → Contains (places_in store word index) p
all_there store word index filled p stands =
    let there : slice_get (words_at store p.slot) p.pos ≡ Some word = sym (ap (λ words. slice_get words p.pos) (slot_words store p.slot)) ∙ stands in
    let song = has_song store p.slot p.pos word there in
    let listed : Contains index (song.0.id, p.slot) = filled p.slot song.0 song.1 in
    let P : ℕ → Type 0 = λ pos. Contains (places_from p.slot word 0 (words_at store p.slot)) (place p.slot pos) in
    contains-flat_map (places_by store word) index (song.0.id, p.slot) p listed (subst P (zero-add p.pos) (stands_in p.slot word 0 (words_at store p.slot) p.pos there))

-- ---- the same in the songs

-- the word that stands at a place of the table
abbrev pub occurrence_at : Store → ℕ → Place → Occurrence
occurrence_at store word place = record { song = entry_at store place.slot; position = place.pos; word = word }

-- what a sum has at an entry of an index, and what it has at the entry's song
entry_is : (store : Store) (e : ℕ × ℕ) → IsHeld store e → entry_at store e.1 ≡ (e.0, song_of (words_at store e.1))
entry_is store e held =
    let words : Option SongWithId → List ℕ = λ o. option_map_or (λ (track : SongWithId). track.words) o [] in
    let go : (o : Option SongWithId) → option_map (λ (track : SongWithId). track.id) o ≡ Some e.0 → option_map_or entry_of o (0, song_of []) ≡ (e.0, song_of (words o)) = λ o.
    elim o as (λ o. option_map (λ (track : SongWithId). track.id) o ≡ Some e.0 → option_map_or entry_of o (0, song_of []) ≡ (e.0, song_of (words o))) [
      | Some track ↦ λ is. ap (λ id. (id, song_of track.words)) (same_Some track.id e.0 is)
      | None ↦ λ is. absurd (none-some e.0 is)
    ] in
    go (song_at store e.1) held

at_entry : (g : Occurrence → ℕ) (store : Store) (word : ℕ) (e : ℕ × ℕ) → IsHeld store e
    → sum_by (λ o. cond (o.word == word) (g o) 0) (occurrences_in (e.0, song_of (words_at store e.1))) ≡ sum_by (λ p. g (occurrence_at store word p)) (places_by store word e)
at_entry g store word e held =
    let song : ℕ × Song = (e.0, song_of (words_at store e.1)) in
    let words = enumerate_from 0 (words_at store e.1) in
    let here : ℕ → ℕ → ℕ = λ pos w. g (record { song = song; position = pos; word = w }) in
    sum_by-of_map (λ o. cond (o.word == word) (g o) 0) (λ (x : ℕ × ℕ). record { song = song; position = x.0; word = x.1 }) words
    ∙ sum_by-same (λ x. cond (x.1 == word) (here x.0 x.1) 0) (λ x. cond (x.1 == word) (g (occurrence_at store word (place e.1 x.0))) 0)
    (λ x. elim (cases_eq x.1 word) [
      | inl is ↦ ap (λ n. cond (x.1 == word) n 0) (ap (here x.0) is ∙ ap (λ s. g (record { song = s; position = x.0; word = word })) (sym (entry_is store e held)))
      | inr other ↦ ap (λ b. cond b (here x.0 x.1) 0) (ne_eqb x.1 word other) ∙ sym (ap (λ b. cond b (g (occurrence_at store word (place e.1 x.0))) 0) (ne_eqb x.1 word other))
    ]) words
    ∙ sym (sum_by-of_map (λ p. g (occurrence_at store word p)) (λ (x : ℕ × ℕ). place e.1 x.0) (filter (λ x. x.1 == word) words)
    ∙ sum_by-of_filter (λ (x : ℕ × ℕ). g (occurrence_at store word (place e.1 x.0))) (λ x. x.1 == word) words)

each_entry : (g : Occurrence → ℕ) (store : Store) (word : ℕ) (index : List (ℕ × ℕ)) → All (IsHeld store) index
    → sum_by (λ o. cond (o.word == word) (g o) 0) (occurrences (songs_in store index)) ≡ sum_by (λ p. g (occurrence_at store word p)) (places_in store word index)
each_entry g store word [] held = refl
each_entry g store word (e ∷ index) held =
    let term : Occurrence → ℕ = λ o. cond (o.word == word) (g o) 0 in
    let at : Place → ℕ = λ p. g (occurrence_at store word p) in
    omega (
      arith,
      sum_by-append term (occurrences_in (e.0, song_of (words_at store e.1))) (occurrences (songs_in store index)),
      sum_by-append at (places_by store word e) (places_in store word index),
      at_entry g store word e (All-head (IsHeld store) e index held),
      each_entry g store word index (All-tail (IsHeld store) e index held),
    )

in_songs : (g : Occurrence → ℕ) (store : Store) (word : ℕ) (index : List (ℕ × ℕ)) → All (IsHeld store) index
    → sum_by g (occurrences_of word (songs_in store index)) ≡ sum_by (λ p. g (occurrence_at store word p)) (places_in store word index)
in_songs g store word index held =
    sum_by-of_filter g (λ o. o.word == word) (occurrences (songs_in store index)) ∙ each_entry g store word index held

-- a sum over the places of a word is a sum over where it occurs
pub of_places : (g : Occurrence → ℕ) (store : Store) (index : List (ℕ × ℕ)) (word : ℕ) (places : List Place)
    → ArePlaces (index_of store) word places → AreRising index → All (IsHeld store) index → IsFilled store index
    → sum_by (λ p. g (occurrence_at store word p)) places ≡ sum_by g (occurrences_of word (songs_in store index))
of_places g store index word places found rising held filled =
    let all : List Place = places_in store word index in
    let there : All (Contains all) places = All-weaker (StandsAt (index_of store) word) (Contains all) (all_there store word index filled) places found.there in
    let back : All (Contains places) all = All-weaker (StandsAt (index_of store) word) (Contains places) found.all all (all_stand store word index) in
    same_sums (λ p. g (occurrence_at store word p)) places all found.once (once_in_all store word index rising held) there back
    ∙ sym (in_songs g store word index held)
