-- How many words pass a test, in the slots and in the map, with one song more and with one less.
use Rattle.std.proofs.Common.{◌≡◌, ℕ, ◌<◌, List, [], length, set, get_or, refl, ap, ◌∙◌, arith, Option, Some, None, option_map}
use Rattle.std.specs.List.{count_by, insert, remove}
use Rattle.std.specs.Option.{option_map_or}
use Rattle.std.proofs.lemmas.List.{length-map, get_or-map}
use Rattle.std.proofs.lemmas.List.Sums.{sum_by-insert, sum_by-remove}
use Rattle.hk_spec_matching.specs.Catalogue.{Song}
use Rattle.hk_spec_matching.specs.Cost as cost
use Rattle.hk_table.specs.Store.{Store, SongWithId, song_at, with_song_at, without_song_at}
use Rattle.hk_table.specs.Index.{Index, words_in, all_words, slot_at, index_of}
use Rattle.hk_table.proofs.Counting.{count_by-flat_map, count-set}
use Rattle.hk_table.proofs.Indexed.{slot-indexed, index-put, index-clear}
use Rattle.hk_catalogue.specs.Shelves.{song_of, songs_in, words_at}
use Rattle.hk_catalogue.specs.CatalogueInside.{AreCounted}
use Rattle.hk_catalogue.proofs.Shelving.{entry_in, length-songs}

words_of : (slot : Option SongWithId) → words_in (option_map (λ (song : SongWithId). song.words) slot) ≡ option_map_or (λ (song : SongWithId). song.words) slot []
words_of None = refl
words_of (Some song) = refl

-- the words of a slot, as the table and as the catalogue read them
pub slot_words : (store : Store) (slot : ℕ) → words_in (slot_at (index_of store) slot) ≡ words_at store slot
slot_words store slot = ap words_in (slot-indexed store slot) ∙ words_of (song_at store slot)

slot_there : (store : Store) (slot : ℕ) → slot < length store.slots → slot < length (index_of store).slots
slot_there store slot low = omega (arith, low, length-map store.slots (option_map (λ (song : SongWithId). song.words)))

pub counted-insert : (old new : Store) (slot place : ℕ) (track : SongWithId) (index more : List (ℕ × ℕ)) → new ≡ with_song_at old slot track → slot < length old.slots
    → song_at old slot ≡ None → songs_in new more ≡ insert (songs_in old index) place (track.id, song_of track.words) → AreCounted old index → AreCounted new more
counted-insert old new slot place track index more put low empty grown counted p =
    let words : (ℕ × Song) → List ℕ = λ e. e.1.words in
    let none : count_by p (words_in (slot_at (index_of old) slot)) ≡ 0 = ap (count_by p) (slot_words old slot ∙ ap (λ t. option_map_or (λ (song : SongWithId). song.words) t []) empty) in
    let slots : count_by p (all_words (index_of new).slots) ≡ count_by p (all_words (set (index_of old).slots slot (Some track.words))) =
    ap (λ (x : Index). count_by p (all_words x.slots)) (ap index_of put ∙ index-put old slot track) in
    omega (
      arith,
      slots,
      count-set p (index_of old).slots slot (Some track.words) (slot_there old slot low),
      none,
      counted p,
      ap (λ songs. count_by p (cost.all_words songs)) grown,
      count_by-flat_map p words (insert (songs_in old index) place (track.id, song_of track.words)),
      count_by-flat_map p words (songs_in old index),
      sum_by-insert (λ e. count_by p (words e)) (songs_in old index) place (track.id, song_of track.words),
    )

pub counted-remove : (old new : Store) (place : ℕ) (e : ℕ × ℕ) (index less : List (ℕ × ℕ)) → new ≡ without_song_at old e.1 → e.1 < length old.slots
    → place < length index → get_or index place e ≡ e → songs_in new less ≡ remove (songs_in old index) place → AreCounted old index → AreCounted new less
counted-remove old new place e index less cleared low within is left counted p =
    let words : (ℕ × Song) → List ℕ = λ e. e.1.words in
    let here : get_or (songs_in old index) place (entry_in old e) ≡ entry_in old e = get_or-map (entry_in old) index place e (entry_in old e) within ∙ ap (entry_in old) is in
    let slots : count_by p (all_words (index_of new).slots) ≡ count_by p (all_words (set (index_of old).slots e.1 None)) =
    ap (λ (x : Index). count_by p (all_words x.slots)) (ap index_of cleared ∙ index-clear old e.1) in
    omega (
      arith,
      slots,
      count-set p (index_of old).slots e.1 None (slot_there old e.1 low),
      ap (count_by p) (slot_words old e.1),
      counted p,
      ap (λ songs. count_by p (cost.all_words songs)) left,
      count_by-flat_map p words (remove (songs_in old index) place),
      count_by-flat_map p words (songs_in old index),
      sum_by-remove (λ e. count_by p (words e)) (songs_in old index) place (entry_in old e) (omega (arith, within, length-songs old index)),
      ap (λ s. count_by p (words s)) here,
    )
