-- A table beside a store: what is put into both, and taken out of both.
use Rattle.std.proofs.Common.{◌≡◌, ℕ, zero, suc, List, [], ◌∷◌, length, length-append, map, replicate, refl, sym, ap, subst, ◌∙◌, arith, Option, Some, None, option_map}
use Rattle.std.specs.Option.{IsSome}
use Rattle.std.proofs.lemmas.List.{map-set}
use Rattle.std.proofs.lemmas.List.Concat.{flat_map-cons}
use Rattle.std.proofs.lemmas.List.Sums.{sum_by-cons}
use Rattle.hk_table.specs.Store as stores
use Rattle.hk_table.specs.Store.{Store, SongWithId, song_at, size_of, spare, with_song_at, without_song_at, new_store}
use Rattle.hk_table.proofs.Extents.{get_map}
use Rattle.hk_table.specs.Index.{index_of, new_index, slot_at, words_in, all_words, room, with_words_at, without_words_at}

pub slot-indexed : (store : Store) (slot : ℕ) → slot_at (index_of store) slot ≡ option_map (λ (song : SongWithId). song.words) (song_at store slot)
slot-indexed store slot = get_map (λ (song : SongWithId). song.words) store.slots slot

some_of : (slot : Option SongWithId) → IsSome slot → IsSome (option_map (λ (song : SongWithId). song.words) slot)
some_of None some = absurd (cc)
some_of (Some song) some = refl

-- what holds a song in the store holds words in the table
pub some-indexed : (store : Store) (slot : ℕ) → IsSome (song_at store slot) → IsSome (slot_at (index_of store) slot)
some-indexed store slot some = subst IsSome (sym (slot-indexed store slot)) (some_of (song_at store slot) some)

size_is : (slot : Option SongWithId) → length (words_in (option_map (λ (song : SongWithId). song.words) slot)) ≡ size_of slot
size_is None = refl
size_is (Some song) = refl

words_len : (slots : List (Option SongWithId)) → length (all_words (map (option_map (λ (song : SongWithId). song.words)) slots)) ≡ stores.words_in slots
words_len [] = refl
words_len (s ∷ ss) =
    let rest = map (option_map (λ (song : SongWithId). song.words)) ss in
    let here = option_map (λ (song : SongWithId). song.words) s in
    omega (arith, ap length (flat_map-cons words_in here rest), length-append (words_in here) (all_words rest), size_is s, words_len ss, sum_by-cons size_of s ss)

-- they have the same room
pub room-indexed : (store : Store) → room (index_of store) ≡ spare store
room-indexed store = omega (arith, words_len store.slots)

pub index-put : (store : Store) (slot : ℕ) (song : SongWithId) → index_of (with_song_at store slot song) ≡ with_words_at (index_of store) slot song.words
index-put store slot song =
    let slots = map-set (option_map (λ (song : SongWithId). song.words)) store.slots slot (Some song) in
    λ i. record { slots = slots i; positions = store.positions }

pub index-clear : (store : Store) (slot : ℕ) → index_of (without_song_at store slot) ≡ without_words_at (index_of store) slot
index-clear store slot =
    let slots = map-set (option_map (λ (song : SongWithId). song.words)) store.slots slot None in
    λ i. record { slots = slots i; positions = store.positions }

no_slots : (n : ℕ) → map (option_map (λ (song : SongWithId). song.words)) (replicate n None) ≡ replicate n None
no_slots zero = refl
no_slots (suc n) = ap (λ ss. None ∷ ss) (no_slots n)

pub no_words : (n : ℕ) → all_words (replicate n None) ≡ []
no_words zero = refl
no_words (suc n) = no_words n

-- a store of empty slots has no words
pub none-indexed : (positions songs : ℕ) → all_words (index_of (new_store positions songs)).slots ≡ []
none-indexed positions songs = ap all_words (no_slots songs) ∙ no_words songs

pub index-new : (positions songs : ℕ) → new_index positions songs ≡ index_of (new_store positions songs)
index-new positions songs = λ i. record { slots = sym (no_slots songs) i; positions = positions }
