-- Where words stand, as contracts see a table.
use Rattle.std.specs.Prelude.{◌≡◌, ◌≢◌, ℕ, ◌-◌, ◌==◌, List, [], ◌∷◌, length, map, flat_map, count_by, replicate, slice_index_or, slice_set, Option, Some, None, option_map, ⊤}
use Rattle.std.specs.List.{All, Contains, slice_get}
use Rattle.std.specs.Option.{option_map_or}
use Rattle.hk_spec_matching.specs.Buckets.{bucket_of}
use Rattle.hk_table.specs.Store.{Store}
use Rattle.hk_table.specs.declared.place.Place.{Place}

-- slots, each empty or with a song's words, and how many words of all songs there may be
pub record Index : Type 0 where
  pub slots : List (Option (List ℕ))
  pub positions : ℕ

abbrev pub new_index : ℕ → ℕ → Index
new_index positions songs = record { slots = replicate songs None; positions = positions }

-- the words of a slot, and none where it is empty
abbrev pub words_in : Option (List ℕ) → List ℕ
words_in slot = option_map_or (λ words. words) slot []

abbrev pub slot_at : Index → ℕ → Option (List ℕ)
slot_at index slot = slice_index_or index.slots slot None

-- the words of all slots
abbrev pub all_words : List (Option (List ℕ)) → List ℕ
all_words slots = flat_map words_in slots

-- how many words there is room for beside those of all slots
abbrev pub room : Index → ℕ
room index = index.positions - length (all_words index.slots)

-- the same with these words in a slot
abbrev pub with_words_at : Index → ℕ → List ℕ → Index
with_words_at index slot words = record index { slots = slice_set index.slots slot (Some words) }

-- the same with this slot empty
abbrev pub without_words_at : Index → ℕ → Index
without_words_at index slot = record index { slots = slice_set index.slots slot None }

-- the songs' words of a store
abbrev pub index_of : Store → Index
index_of store = record { slots = map (option_map (λ song. song.words)) store.slots; positions = store.positions }

-- the word stands at this place
abbrev pub StandsAt : Index → ℕ → Place → Type 0
StandsAt index word place = slice_get (words_in (slot_at index place.slot)) place.pos ≡ Some word

-- no place twice
abbrev pub AreOnce : List Place → Type 0
AreOnce [] = ⊤
AreOnce (x ∷ xs) = All (λ y. x ≢ y) xs × AreOnce xs

-- these are the places of a word, each once
pub record ArePlaces (index : Index) (word : ℕ) (places : List Place) : Type 0 where
  pub once : AreOnce places
  pub there : All (StandsAt index word) places
  pub all : (place : Place) → StandsAt index word place → Contains places place

-- how many words stand in the bucket of a word
abbrev pub bucket_size : Index → ℕ → ℕ
bucket_size index word = count_by (λ x. bucket_of index.positions x == bucket_of index.positions word) (all_words index.slots)

-- What is left of a walk: the places that it will give, in this order, and how many nodes it will visit.
pub record Course : Type 0 where
  pub places : List Place
  pub nodes : ℕ
