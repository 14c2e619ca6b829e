-- What a catalogue's fields say of its value, and how they are kept.
use Rattle.std.proofs.Common.{◌≡◌, ◌≢◌, ℕ, ◌<◌, ◌==◌, List, [], length, get_or, set, sym, ◌∙◌, ap, arith, subst, inl, inr, Option, Some, None, option_map}
use Rattle.std.specs.List.{All, slice_get}
use Rattle.std.specs.Option.{option_map_or}
use Rattle.std.proofs.lemmas.Option.{slice_get-get_or}
use Rattle.std.proofs.lemmas.Bool.{cases_lt}
use Rattle.std.proofs.lemmas.List.{get_or-map, get_or_past, get_or-set_same, get_or-set_other, length-map, length-set}
use Rattle.hk_spec_matching.specs.Catalogue.{has_song}
use Rattle.hk_table.specs.Store.{Store, SongWithId, song_at}
use Rattle.hk_catalogue.specs.Refusals.{has_id}
use Rattle.hk_catalogue.specs.Entries.{entry_pairs, AreRising, Splits}
use Rattle.hk_catalogue.specs.Shelves.{Shelves, songs_in, songs_of, song_of, entry_of}
use Rattle.hk_catalogue.specs.CatalogueInside.{as_shelves, IsKept, IsHeld, IsFree}
use Rattle.hk_catalogue.specs.declared.entry.Entry.{Entry}
use Rattle.hk_catalogue.specs.declared.catalogue.Catalogue.TheInside.{Inside}
use Rattle.hk_catalogue.proofs.Places.{has-here}
use Rattle.hk_catalogue.proofs.Shelving.{has-songs, length-songs, entry_in, SameBut, off_empty, some_not_none}

abbrev pub pair_of : Entry → ℕ × ℕ
pair_of entry = (entry.id, entry.number)

pub has_in_view : (inside : Inside) (shelves : Shelves) (entries : List Entry) (id : ℕ) → as_shelves inside ≡ shelves → entries ≡ inside.index.items
    → has_id (entry_pairs entries) id ≡ has_song (songs_of shelves) id
has_in_view inside shelves entries id view same =
    ap (λ (es : List Entry). has_id (entry_pairs es) id) same ∙ sym (has-songs inside.store (entry_pairs inside.index.items) id)
    ∙ ap (λ (s : Shelves). has_song (songs_of s) id) view

-- how many songs there are
pub count_in_view : (inside : Inside) (shelves : Shelves) → as_shelves inside ≡ shelves → length (songs_of shelves) ≡ length inside.index.items
count_in_view inside shelves view =
    ap (λ (s : Shelves). length (songs_of s)) (sym view) ∙ length-songs inside.store (entry_pairs inside.index.items) ∙ length-map inside.index.items pair_of

-- an entry that is read has its song
pub held_at : (store : Store) (entries : List Entry) (place : ℕ) (entry : Entry) → All (IsHeld store) (entry_pairs entries) → place < length entries
    → entry ≡ get_or entries place entry → IsHeld store (pair_of entry)
held_at store entries place entry held low is =
    let here : get_or (entry_pairs entries) place (pair_of entry) ≡ pair_of entry = get_or-map pair_of entries place entry (pair_of entry) low ∙ ap pair_of (sym is) in
    subst (IsHeld store) here (held place (pair_of entry) (omega (arith, low, length-map entries pair_of)))

-- a slot with a song is there
pub slot_there : (store : Store) (e : ℕ × ℕ) → IsHeld store e → e.1 < length store.slots
slot_there store e held = elim (cases_lt e.1 (length store.slots)) [
  | inl low ↦ low
  | inr high ↦ absurd (some_not_none e.0 (sym (ap (option_map (λ (t : SongWithId). t.id)) (get_or_past store.slots e.1 None high)) ∙ held))
]

-- a store in which one slot was set
pub same_but_set : (old new : Store) (slot : ℕ) (x : Option SongWithId) → new.slots ≡ set old.slots slot x → SameBut slot old new
same_but_set old new slot x changed s other = ap (λ slots. get_or slots s None) changed ∙ get_or-set_other old.slots slot s x None other

pub set_in : (old new : Store) (slot : ℕ) (x : Option SongWithId) → new.slots ≡ set old.slots slot x → slot < length old.slots → song_at new slot ≡ x
set_in old new slot x changed there = ap (λ slots. get_or slots slot None) changed ∙ get_or-set_same old.slots slot x None there

pub length_set : (old new : Store) (slot : ℕ) (x : Option SongWithId) → new.slots ≡ set old.slots slot x → length new.slots ≡ length old.slots
length_set old new slot x changed = ap length changed ∙ length-set old.slots slot x

-- free slots stay free where another slot changes
pub free_stay : (old new : Store) (slot : ℕ) (xs : List ℕ) → SameBut slot old new → length new.slots ≡ length old.slots → All (λ s. s ≢ slot) xs
    → All (IsFree old) xs → All (IsFree new) xs
free_stay old new slot xs same size others free k d low =
    let here : IsFree old (get_or xs k d) = free k d low in
    record { there = omega (arith, here.there, size); empty = same (get_or xs k d) (others k d low) ∙ here.empty }

pub none_held : (store : Store) (e : ℕ × ℕ) (xs : List ℕ) → IsHeld store e → All (IsFree store) xs → All (λ s. s ≢ e.1) xs
none_held store e xs held free k d low = λ same. off_empty store (get_or xs k d) e (free k d low).empty held (sym same)

pub none_there : (store : Store) (slot : ℕ) (index : List (ℕ × ℕ)) → song_at store slot ≡ None → All (IsHeld store) index → All (λ e. e.1 ≢ slot) index
none_there store slot index empty held k d low = off_empty store slot (get_or index k d) empty (held k d low)

-- the song of an entry that is read is the map's song at its place
pub entry_read : (store : Store) (entries : List Entry) (n : ℕ) (entry : Entry) (track : SongWithId) → All (IsHeld store) (entry_pairs entries) → n < length entries
    → entry ≡ get_or entries n entry → song_at store entry.number ≡ Some track → slice_get (songs_in store (entry_pairs entries)) n ≡ Some (entry_of track)
entry_read store entries n entry track held low is there =
    let index = entry_pairs entries in
    let id : track.id ≡ entry.id =
    let same : Some track.id ≡ Some entry.id = sym (ap (option_map (λ (t : SongWithId). t.id)) there) ∙ held_at store entries n entry held low is in cc in
    let size : length (songs_in store index) ≡ length entries = length-songs store index ∙ length-map entries pair_of in
    let pair : get_or index n (pair_of entry) ≡ pair_of entry = get_or-map pair_of entries n entry (pair_of entry) low ∙ ap pair_of (sym is) in
    slice_get-get_or (songs_in store index) n (entry_in store (pair_of entry)) (omega (arith, size, low))
    ∙ ap (λ s. Some s) (get_or-map (entry_in store) index n (pair_of entry) (entry_in store (pair_of entry)) (omega (arith, low, length-map entries pair_of)) ∙ ap (entry_in store) pair)
    ∙ ap (λ t. Some (entry.id, song_of (option_map_or (λ t. t.words) t []))) there
    ∙ ap (λ n. Some (n, song_of track.words)) (sym id)

-- whether the entry at an id's place has the id is whether the catalogue has it
pub read_has : (inside : Inside) (shelves : Shelves) (entries : List Entry) (id place : ℕ) (entry : Entry) → as_shelves inside ≡ shelves → entries ≡ inside.index.items
    → IsKept inside → Splits (entry_pairs entries) id place → place < length entries → entry ≡ get_or entries place entry → (entry.id == id) ≡ has_song (songs_of shelves) id
read_has inside shelves entries id place entry view same kept splits low is =
    has-here entries id place entry splits (subst (λ (es : List Entry). AreRising (entry_pairs es)) (sym same) kept.rising) low is
    ∙ has_in_view inside shelves entries id view same
