-- How many words a store has room for.
use Rattle.std.proofs.Common.{◌≡◌, ℕ, ◌+◌, ◌-◌, ◌<◌, ◌≤◌, length, get_or, take, replicate, zero, suc, refl, ◌++◌, [], ◌∷◌, sym, ◌∙◌, ap, arith, subst, inl, inr, List, Option, Some, None}
use Rattle.std.proofs.lemmas.Bool.{cases_lt}
use Rattle.std.proofs.lemmas.List.{get_or_past, length-map, take_all}
use Rattle.std.proofs.lemmas.List.Sums.{sum_by-set}
use Rattle.std.specs.Option.{option_map}
use Rattle.hk_table.specs.Store.{Store, SongWithId, song_at, size_at, size_of, spare, words_in, with_song_at, without_song_at}
use Rattle.hk_table.specs.Extents.{extent_song, extent_songs}
use Rattle.hk_table.specs.Inside.{as_store, IsKept}
use Rattle.hk_table.specs.declared.extent.Extent.{Extent}
use Rattle.hk_table.specs.declared.song_store.SongStore.TheInside.{Inside}
use Rattle.hk_table.proofs.Extents.{sizes, get_map}

-- the words of all slots are the store's words
pub all_in : (s : Inside) → IsKept s → words_in (as_store s).slots ≡ length s.words.items
all_in s kept = sizes s.words.items s.slots.items kept.within ∙ kept.all_words

pub words_fit : (s : Inside) (store : Store) → as_store s ≡ store → IsKept s → words_in store.slots ≤ store.positions
words_fit s store view kept = subst (λ (p : Store). words_in p.slots ≤ p.positions) view (omega (arith, all_in s kept, kept.few_words, s.words.ok))

pub room_left : (s : Inside) (store : Store) (n : ℕ) → as_store s ≡ store → IsKept s → n ≤ spare store → length s.words.items + n ≤ s.positions
room_left s store n view kept few =
    let left : n ≤ spare (as_store s) = subst (λ (p : Store). n ≤ spare p) (sym view) few in
    omega (arith, left, all_in s kept, kept.few_words, s.words.ok)

-- a slot that is there
pub slot_there : (s : Inside) (store : Store) (slot : ℕ) → as_store s ≡ store → slot < length store.slots → slot < length s.slots.items
slot_there s store slot view low =
    let here : slot < length (as_store s).slots = subst (λ (p : Store). slot < length p.slots) (sym view) low in
    omega (arith, here, length-map s.slots.items (option_map (extent_song s.words.items)))

none_from_map : {X : Type 0} (f : Extent → X) (slot : Option Extent) → option_map f slot ≡ None → slot ≡ None
none_from_map f None is = refl
none_from_map f (Some e) is = absurd (cc)

pub there_in_view : (s : Inside) (store : Store) (slot : ℕ) → as_store s ≡ store → slot < length s.slots.items → slot < length store.slots
there_in_view s store slot view low =
    subst (λ (p : Store). slot < length p.slots) view (omega (arith, low, length-map s.slots.items (option_map (extent_song s.words.items))))

songs-none : (words : List ℕ) (n : ℕ) → extent_songs words (replicate n None) ≡ replicate n None
songs-none words zero = refl
songs-none words (suc n) = ap (λ ts. None ∷ ts) (songs-none words n)

-- an empty slot
pub slot_empty : (s : Inside) (store : Store) (slot : ℕ) → as_store s ≡ store → song_at store slot ≡ None → get_or s.slots.items slot None ≡ None
slot_empty s store slot view empty =
    none_from_map (extent_song s.words.items) (get_or s.slots.items slot None)
    (sym (get_map (extent_song s.words.items) s.slots.items slot) ∙ subst (λ (p : Store). song_at p slot ≡ None) (sym view) empty)

pub there_from_some : (slots : List (Option Extent)) (slot : ℕ) (e : Extent) → get_or slots slot None ≡ Some e → slot < length slots
there_from_some slots slot e is = elim (cases_lt slot (length slots)) [
  | inl low ↦ low
  | inr high ↦ absurd (let past : get_or slots slot None ≡ None = get_or_past slots slot None high in cc)
]

-- a vector of no item, once it was filled
pub filled : {A : Type 0} (value : A) (items : List A) (n k : ℕ) → items ≡ [] → k ≡ 0 → take n items ++ replicate (n - k) value ≡ replicate n value
filled value items n k none start =
    ap (λ xs. take n xs ++ replicate (n - k) value) none
    ∙ ap (λ xs. xs ++ replicate (n - k) value) (take_all n [] (omega arith))
    ∙ ap (λ j. replicate j value) (omega (arith, start))

-- slots of which none was set
pub slots_new : (words : List ℕ) (slots : List (Option Extent)) (n k : ℕ) → slots ≡ [] → k ≡ 0
    → extent_songs words (take n slots ++ replicate (n - k) None) ≡ replicate n None
slots_new words slots n k none start = ap (extent_songs words) (filled None slots n k none start) ∙ songs-none words n

-- one song more takes its words of the room
pub spare-put : (store : Store) (slot : ℕ) (song : SongWithId) → slot < length store.slots → song_at store slot ≡ None → length song.words ≤ spare store
    → spare (with_song_at store slot song) + length song.words ≡ spare store
spare-put store slot song low empty room =
    omega (arith, sum_by-set size_of store.slots slot (Some song) None low, ap size_of empty, room)

-- a song less gives its words back
pub spare-clear : (store : Store) (slot : ℕ) → slot < length store.slots → words_in store.slots ≤ store.positions
    → spare (without_song_at store slot) ≡ spare store + size_at store slot
spare-clear store slot low fits = omega (arith, sum_by-set size_of store.slots slot None None low, fits)
