-- The songs of a catalogue, with one more and with one less.
use Rattle.std.proofs.Common.{◌≡◌, ◌≢◌, ℕ, zero, suc, ◌+◌, ◌<◌, ◌==◌, true, false, not, ◌||◌, List, [], ◌∷◌, length, take, drop, get_or, refl, sym, ◌∙◌, ap, arith, subst, inl, inr, cond, Option, Some, None, option_map}
use Rattle.std.specs.List.{All, insert, remove}
use Rattle.std.specs.Option.{option_map_or, IsSome}
use Rattle.std.proofs.lemmas.Bool.{or_parts}
use Rattle.std.proofs.lemmas.Bool.Decides.{eqb_tells}
use Rattle.std.proofs.lemmas.List.{length-map, get_or-map}
use Rattle.std.proofs.lemmas.List.Elements.{All-append, All-take, All-drop, All-cons, filter_passes}
use Rattle.std.proofs.lemmas.List.Sums.{sum_by-insert, sum_by-remove}
use Rattle.hk_spec_matching.specs.Catalogue.{Song, Songs, has_song, with_song, without_song, positions_of}
use Rattle.hk_table.specs.Store.{Store, SongWithId, song_at, size_at, size_of}
use Rattle.hk_catalogue.specs.Refusals.{has_id}
use Rattle.hk_catalogue.specs.Entries.{AreAbove, AreRising, Splits}
use Rattle.hk_catalogue.specs.Shelves.{words_at, song_of, songs_in}
use Rattle.hk_catalogue.specs.CatalogueInside.{IsHeld}
use Rattle.hk_catalogue.proofs.Places.{map-insert, map-remove, put-at, gone-at}

pub All-insert : {X : Type 0} (P : X → Type 0) (xs : List X) (i : ℕ) (x : X) → All P xs → P x → All P (insert xs i x)
All-insert P xs i x all here = All-append P (take i xs) (x ∷ drop i xs) (All-take P i xs all) (All-cons P x (drop i xs) here (All-drop P i xs all))

pub All-remove : {X : Type 0} (P : X → Type 0) (xs : List X) (i : ℕ) → All P xs → All P (remove xs i)
All-remove P xs i all = All-append P (take i xs) (drop (suc i) xs) (All-take P i xs all) (All-drop P (suc i) xs all)

-- what an entry of the index is in the map
abbrev pub entry_in : Store → ℕ × ℕ → ℕ × Song
entry_in store entry = (entry.0, song_of (words_at store entry.1))

-- ids, places and order are those of the index
pub has-songs : (store : Store) (index : List (ℕ × ℕ)) (id : ℕ) → has_song (songs_in store index) id ≡ has_id index id
has-songs store [] id = refl
has-songs store (e ∷ es) id = ap (λ b. (e.0 == id) || b) (has-songs store es id)

pub length-songs : (store : Store) (index : List (ℕ × ℕ)) → length (songs_in store index) ≡ length index
length-songs store index = length-map index (entry_in store)

splits-songs : (store : Store) (index : List (ℕ × ℕ)) (id place : ℕ) → Splits index id place → Splits (songs_in store index) id place
splits-songs store [] id place here = here
splits-songs store (e ∷ es) id zero here = here
splits-songs store (e ∷ es) id (suc place) here = (here.0, splits-songs store es id place here.1)

above-songs : (store : Store) (index : List (ℕ × ℕ)) (id : ℕ) → AreAbove id index → AreAbove id (songs_in store index)
above-songs store [] id above = tt
above-songs store (e ∷ es) id above = (above.0, above-songs store es id above.1)

-- the ids of the songs rise as those of the index
pub rising-songs : (store : Store) (index : List (ℕ × ℕ)) → AreRising index → AreRising (songs_in store index)
rising-songs store [] rising = tt
rising-songs store (e ∷ es) rising = (above-songs store es e.0 rising.0, rising-songs store es rising.1)

-- a store that differs in one slot alone
abbrev pub SameBut : ℕ → Store → Store → Type 0
SameBut slot old new = (s : ℕ) → s ≢ slot → song_at new s ≡ song_at old s

pub songs_stay : (old new : Store) (slot : ℕ) (index : List (ℕ × ℕ)) → SameBut slot old new → All (λ e. e.1 ≢ slot) index → songs_in new index ≡ songs_in old index
songs_stay old new slot [] same others = refl
songs_stay old new slot (e ∷ es) same others =
    ap (λ track. (e.0, song_of (option_map_or (λ t. t.words) track [])) ∷ songs_in new es) (same e.1 (others zero e (omega arith)))
    ∙ ap (λ songs. entry_in old e ∷ songs) (songs_stay old new slot es same (λ k d low. others (suc k) d (omega arith)))

-- an entry that holds a song isn't in an empty slot, nor in that of a song with another id
pub some_not_none : {A : Type 0} (a : A) → None ≡ Some a → ⊥
some_not_none a is = cc

pub off_empty : (store : Store) (slot : ℕ) (e : ℕ × ℕ) → song_at store slot ≡ None → IsHeld store e → e.1 ≢ slot
off_empty store slot e empty held = λ at.
    some_not_none e.0 (sym (ap (option_map (λ (t : SongWithId). t.id)) (ap (song_at store) at ∙ empty)) ∙ held)

pub off_other : (store : Store) (e f : ℕ × ℕ) → IsHeld store f → IsHeld store e → e.0 ≢ f.0 → e.1 ≢ f.1
off_other store e f held_f held_e other = λ at.
    other (let same : Some e.0 ≡ Some f.0 = sym held_e ∙ ap (λ s. option_map (λ (t : SongWithId). t.id) (song_at store s)) at ∙ held_f in cc)

pub held_stays : (old new : Store) (slot : ℕ) (index : List (ℕ × ℕ)) → SameBut slot old new → All (λ e. e.1 ≢ slot) index → All (IsHeld old) index → All (IsHeld new) index
held_stays old new slot index same others held k d low =
    ap (option_map (λ (t : SongWithId). t.id)) (same (get_or index k d).1 (others k d low)) ∙ held k d low

-- a song more, at its place
pub songs-insert : (old new : Store) (slot place : ℕ) (track : SongWithId) (index : List (ℕ × ℕ)) → SameBut slot old new → song_at new slot ≡ Some track
    → All (λ e. e.1 ≢ slot) index → songs_in new (insert index place (track.id, slot)) ≡ insert (songs_in old index) place (track.id, song_of track.words)
songs-insert old new slot place track index same is others =
    map-insert (entry_in new) index place (track.id, slot)
    ∙ ap (λ t. insert (songs_in new index) place (track.id, song_of (option_map_or (λ t. t.words) t []))) is
    ∙ ap (λ songs. insert songs place (track.id, song_of track.words)) (songs_stay old new slot index same others)

pub songs-with : (old : Store) (place : ℕ) (track : SongWithId) (index : List (ℕ × ℕ)) → Splits index track.id place → has_id index track.id ≡ false
    → insert (songs_in old index) place (track.id, song_of track.words) ≡ with_song (songs_in old index) track.id (song_of track.words)
songs-with old place track index here new =
    put-at (songs_in old index) track.id (song_of track.words) place (splits-songs old index track.id place here) (has-songs old index track.id ∙ new)

-- a song less
pub songs-remove : (old new : Store) (slot place : ℕ) (index : List (ℕ × ℕ)) → SameBut slot old new → All (λ e. e.1 ≢ slot) (remove index place)
    → songs_in new (remove index place) ≡ remove (songs_in old index) place
songs-remove old new slot place index same others = songs_stay old new slot (remove index place) same others ∙ map-remove (entry_in old) index place

pub songs-without : (old : Store) (id place : ℕ) (index : List (ℕ × ℕ)) → Splits index id place → AreRising index → has_id index id ≡ true
    → remove (songs_in old index) place ≡ without_song (songs_in old index) id
songs-without old id place index here rising there =
    gone-at (songs_in old index) id place (splits-songs old index id place here) (rising-songs old index rising) (has-songs old index id ∙ there)

-- the entries beside the one that goes have other ids
passes_other : (n id : ℕ) → not (n == id) ≡ true → n ≢ id
passes_other n id passes = elim (eqb_tells n id) [
  | inl same ↦ absurd (let no : false ≡ true = sym (ap not same.0) ∙ passes in cc)
  | inr other ↦ other.1
]

pub other_ids : (id place : ℕ) (index : List (ℕ × ℕ)) → Splits index id place → AreRising index → has_id index id ≡ true → All (λ e. e.0 ≢ id) (remove index place)
other_ids id place index here rising there =
    subst (All (λ (e : ℕ × ℕ). e.0 ≢ id)) (sym (gone-at index id place here rising there))
    (λ k d low. passes_other _ id (filter_passes (λ (e : ℕ × ℕ). not (e.0 == id)) index k d low))

size_words : (slot : Option SongWithId) → length (option_map_or (λ t. t.words) slot []) ≡ size_of slot
size_words None = refl
size_words (Some track) = refl

-- how many words there are, with a song more and with a song less
pub positions-insert : (songs : Songs) (place : ℕ) (track : SongWithId) → positions_of (insert songs place (track.id, song_of track.words)) ≡ positions_of songs + length track.words
positions-insert songs place track = sum_by-insert (λ (e : ℕ × Song). length e.1.words) songs place (track.id, song_of track.words)

pub positions-remove : (store : Store) (place : ℕ) (index : List (ℕ × ℕ)) (e : ℕ × ℕ) → place < length index → get_or index place e ≡ e
    → positions_of (remove (songs_in store index) place) + size_at store e.1 ≡ positions_of (songs_in store index)
positions-remove store place index e low is =
    let words : (ℕ × Song) → ℕ = λ s. length s.1.words in
    let here : get_or (songs_in store index) place (entry_in store e) ≡ entry_in store e = get_or-map (entry_in store) index place e (entry_in store e) low ∙ ap (entry_in store) is in
    omega (arith, sum_by-remove words (songs_in store index) place (entry_in store e) (omega (arith, low, length-songs store index)), ap words here, size_words (song_at store e.1))

some_from : (slot : Option SongWithId) (id : ℕ) → option_map (λ (t : SongWithId). t.id) slot ≡ Some id → IsSome slot
some_from None id is = absurd (cc)
some_from (Some track) id is = refl

pub some_from_held : (store : Store) (e : ℕ × ℕ) → IsHeld store e → IsSome (song_at store e.1)
some_from_held store e held = some_from (song_at store e.1) e.0 held

-- a song that isn't there can't go
pub without-absent : (songs : Songs) (id : ℕ) → has_song songs id ≡ false → without_song songs id ≡ songs
without-absent [] id absent = refl
without-absent (e ∷ es) id absent =
    let parts = or_parts (e.0 == id) (has_song es id) absent in
    ap (λ b. cond (not b) (e ∷ without_song es id) (without_song es id)) parts.0 ∙ ap (λ songs. e ∷ songs) (without-absent es id parts.1)
