-- The song is put into the last free slot, and its entry at its place.
use Rattle.std.proofs.Common.{◌≡◌, ◌≢◌, ◌+◌, ◌++◌, [], ◌∷◌, ℕ, List, length, set, sym, ◌∙◌, ap, arith, subst, refl, Some, false, option_map}
use Rattle.std.specs.List.{All, insert}
use Rattle.std.proofs.lemmas.List.{get_or_push, length_push, length-map}
use Rattle.std.proofs.lemmas.List.Elements.{All-take}
use Rattle.hk_spec_matching.specs.Catalogue.{with_song, positions_of}
use Rattle.hk_table.specs.Store.{Store, SongWithId, song_at, spare}
use Rattle.hk_table.specs.Index.{Index, index_of, room, with_words_at}
use Rattle.hk_table.proofs.Indexed.{index-put, room-indexed}
use Rattle.hk_catalogue.proofs.Counting.{counted-insert}
use Rattle.hk_catalogue.specs.Refusals.{has_id}
use Rattle.hk_catalogue.specs.Entries.{entry_pairs, AreRising, Splits}
use Rattle.hk_catalogue.specs.Shelves.{Shelves, songs_in, songs_of, song_of}
use Rattle.hk_catalogue.specs.CatalogueInside.{IsKept, IsHeld, IsFilled, IsFree, AreDistinct}
use Rattle.hk_catalogue.specs.declared.entry.Entry.{Entry}
use Rattle.hk_catalogue.specs.declared.catalogue.Catalogue.TheInside.{Inside}
use Rattle.hk_catalogue.proofs.Places.{map-insert, rising-insert}
use Rattle.hk_catalogue.proofs.Filled.{filled-insert}
use Rattle.hk_catalogue.proofs.FreeSlots.{others_differ, distinct-front}
use Rattle.hk_catalogue.proofs.Shelving.{All-insert, SameBut, held_stays, songs-insert, songs-with, positions-insert}
use Rattle.hk_catalogue.proofs.Kept.{pair_of, has_in_view, same_but_set, set_in, length_set, free_stay, none_there}
use Rattle.hk_catalogue.proofs.catalogue.Catalogue.add.Goals as goal

pub insert-requires-clause-room : goal.insert-requires-clause-room
insert-requires-clause-room c =
    let left : room c.self.inside.table ≡ spare c.args.self.now.store =
    ap room c.self.invariant.indexed ∙ room-indexed c.self.inside.store ∙ ap (λ (s : Shelves). spare s.store) c.self.view_is in
    omega (arith, left, c.requires.words)

-- where the song's entry is put
splits : (c : goal.In-Ok) → Splits (entry_pairs c.self.inside.index.items) c.args.song.now.id c.place_of-place.result
splits c =
    subst (λ (n : ℕ). Splits (entry_pairs c.self.inside.index.items) n c.place_of-place.result) c.id-id.ensures
    (subst (λ (es : List Entry). Splits (entry_pairs es) c.id-id.result c.place_of-place.result) c.as_slice.ensures.value c.place_of-place.ensures.splits)

absent : (c : goal.In-Ok) → has_id (entry_pairs c.self.inside.index.items) c.args.song.now.id ≡ false
absent c = has_in_view c.self.inside c.args.self.now c.self.inside.index.items c.args.song.now.id c.self.view_is refl ∙ c.requires.new

entries_are : (c : goal.In-Ok) → entry_pairs c.insert-2.new.self.items ≡ insert (entry_pairs c.self.inside.index.items) c.place_of-place.result (c.args.song.now.id, c.in-Some.slot)
entries_are c =
    ap entry_pairs c.in-Ok.ensures.items
    ∙ map-insert pair_of c.self.inside.index.items c.place_of-place.result (record { id = c.id-id.result; number = c.in-Some.slot })
    ∙ ap (λ n. insert (entry_pairs c.self.inside.index.items) c.place_of-place.result (n, c.in-Some.slot)) c.id-id.ensures

-- the slot was free
popped : (c : goal.In-Ok) → c.self.inside.free.items ≡ c.pop.new.self.items ++ c.in-Some.slot ∷ []
popped c = c.in-Some.ensures.items

was_free : (c : goal.In-Ok) → IsFree c.self.inside.store c.in-Some.slot
was_free c =
    let front = c.pop.new.self.items in
    let all : All (IsFree c.self.inside.store) (front ++ c.in-Some.slot ∷ []) = subst (All (IsFree c.self.inside.store)) (popped c) c.self.invariant.free in
    subst (IsFree c.self.inside.store) (get_or_push front c.in-Some.slot 0 (length front) refl) (all (length front) 0 (omega (arith, length_push front c.in-Some.slot)))

changed : (c : goal.In-Ok) → c.put.new.self.slots ≡ set c.self.inside.store.slots c.in-Some.slot (Some c.args.song.now)
changed c = ap (λ (s : Store). s.slots) c.put.ensures.put

same : (c : goal.In-Ok) → SameBut c.in-Some.slot c.self.inside.store c.put.new.self
same c = same_but_set c.self.inside.store c.put.new.self c.in-Some.slot (Some c.args.song.now) (changed c)

put_in : (c : goal.In-Ok) → song_at c.put.new.self c.in-Some.slot ≡ Some c.args.song.now
put_in c = set_in c.self.inside.store c.put.new.self c.in-Some.slot (Some c.args.song.now) (changed c) (was_free c).there

off_slot : (c : goal.In-Ok) → All (λ e. e.1 ≢ c.in-Some.slot) (entry_pairs c.self.inside.index.items)
off_slot c = none_there c.self.inside.store c.in-Some.slot (entry_pairs c.self.inside.index.items) (was_free c).empty c.self.invariant.held

grown : (c : goal.In-Ok) → songs_in c.put.new.self (entry_pairs c.insert-2.new.self.items)
    ≡ insert (songs_in c.self.inside.store (entry_pairs c.self.inside.index.items)) c.place_of-place.result (c.args.song.now.id, song_of c.args.song.now.words)
grown c =
    ap (songs_in c.put.new.self) (entries_are c)
    ∙ songs-insert c.self.inside.store c.put.new.self c.in-Some.slot c.place_of-place.result c.args.song.now (entry_pairs c.self.inside.index.items) (same c) (put_in c) (off_slot c)

pub invariant_of-self : goal.invariant_of-self
invariant_of-self c =
    let inside : Inside = c.self.inside in
    let kept : IsKept inside = c.self.invariant in
    let index = entry_pairs inside.index.items in
    let front : List ℕ = c.pop.new.self.items in
    let new : Store = c.put.new.self in
    let slot : ℕ = c.in-Some.slot in
    let place : ℕ = c.place_of-place.result in
    let track : SongWithId = c.args.song.now in
    let size : length new.slots ≡ length inside.store.slots = length_set inside.store new slot (Some track) (changed c) in
    let distinct : AreDistinct (front ++ slot ∷ []) = subst AreDistinct (popped c) kept.distinct in
    let old_free : All (IsFree inside.store) front = subst (All (IsFree inside.store)) (sym c.in-Some.ensures.rest) (All-take (IsFree inside.store) _ inside.free.items kept.free) in
    let sum : positions_of (songs_in new (entry_pairs c.insert-2.new.self.items)) ≡ positions_of (songs_in inside.store index) + length track.words =
    ap positions_of (grown c) ∙ positions-insert (songs_in inside.store index) place track in
    record {
      rising = subst AreRising (sym (entries_are c)) (rising-insert index track.id slot place (splits c) (absent c) kept.rising);
      held = subst (All (IsHeld new)) (sym (entries_are c))
          (All-insert (IsHeld new) index place (track.id, slot) (held_stays inside.store new slot index (same c) (off_slot c) kept.held) (ap (option_map (λ (t : SongWithId). t.id)) (put_in c)));
      filled = subst (IsFilled new) (sym (entries_are c))
          (filled-insert inside.store new slot place track index (same c) (put_in c) (omega (arith, c.place_of-place.ensures.bound, ap (λ (es : List Entry). length es) c.as_slice.ensures.value, length-map inside.index.items pair_of)) kept.filled);
      free = free_stay inside.store new slot front (same c) size (others_differ front slot distinct) old_free;
      distinct = distinct-front front slot distinct;
      all_slots = omega (arith, kept.all_slots, c.in-Ok.ensures.len, ap length (popped c), length_push front slot, inside.free.ok, c.pop.new.self.ok, size);
      all_words = omega (arith, sum, c.put.ensures.spare, kept.all_words, ap (λ (s : Store). s.positions) c.put.ensures.put);
      counted = counted-insert inside.store new slot place track index (entry_pairs c.insert-2.new.self.items) c.put.ensures.put (was_free c).there (was_free c).empty (grown c) kept.counted;
      indexed = c.insert.ensures ∙ ap (λ (x : Index). with_words_at x slot track.words) kept.indexed ∙ sym (index-put inside.store slot track) ∙ ap index_of (sym c.put.ensures.put);
      short = omega (arith, kept.short, size);
      room_index = omega (arith, kept.room_index, c.in-Ok.ensures.capacity, size);
      room_free = omega (arith, kept.room_free, c.in-Some.ensures.capacity, size);
    }

pub returns-clause-songs : goal.returns-clause-songs
returns-clause-songs c =
    grown c
    ∙ songs-with c.self.inside.store c.place_of-place.result c.args.song.now (entry_pairs c.self.inside.index.items) (splits c) (absent c)
    ∙ ap (λ (s : Shelves). with_song (songs_of s) c.args.song.now.id (song_of c.args.song.now.words)) c.self.view_is
