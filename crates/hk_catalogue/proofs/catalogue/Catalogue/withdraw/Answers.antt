-- The entry goes from its place, and its slot is the last that is free.
use Rattle.std.proofs.Common.{◌≡◌, ◌≢◌, ◌++◌, ◌<◌, [], ◌∷◌, ℕ, List, length, get_or, set, sym, ◌∙◌, ap, arith, subst, refl, None, true}
use Rattle.std.specs.List.{All, remove}
use Rattle.std.specs.Option.{IsSome}
use Rattle.std.proofs.lemmas.Bool.{eqb-true}
use Rattle.std.proofs.lemmas.List.{length-map, get_or-map}
use Rattle.std.proofs.lemmas.List.Elements.{All-push}
use Rattle.hk_spec_matching.specs.Catalogue.{has_song, without_song, positions_of}
use Rattle.hk_table.specs.Store.{Store}
use Rattle.hk_table.specs.Index.{Index, index_of, slot_at, without_words_at}
use Rattle.hk_table.proofs.Indexed.{index-clear, some-indexed}
use Rattle.hk_catalogue.proofs.Counting.{counted-remove}
use Rattle.hk_catalogue.specs.Refusals.{has_id}
use Rattle.hk_catalogue.specs.Entries.{entry_pairs, AreRising, Splits}
use Rattle.hk_catalogue.specs.Shelves.{Shelves, songs_in, songs_of}
use Rattle.hk_catalogue.specs.CatalogueInside.{as_shelves, IsKept, IsHeld, IsFilled, IsFree, AreDistinct}
use Rattle.hk_catalogue.specs.declared.entry.Entry.{Entry}
use Rattle.hk_catalogue.specs.declared.catalogue.Catalogue.TheInside.{Inside}
use Rattle.hk_catalogue.proofs.Places.{has-here, map-remove, rising-remove, within-at}
use Rattle.hk_catalogue.proofs.Filled.{filled-remove}
use Rattle.hk_catalogue.proofs.FreeSlots.{distinct-push}
use Rattle.hk_catalogue.proofs.Shelving.{All-remove, SameBut, held_stays, off_other, other_ids, songs-remove, songs-without, positions-remove, some_from_held}
use Rattle.hk_catalogue.proofs.Kept.{pair_of, has_in_view, held_at, slot_there, same_but_set, set_in, length_set, free_stay, none_held}
use Rattle.hk_catalogue.proofs.catalogue.Catalogue.withdraw.Goals as goal

-- the id stands at the place, by the fields
pub record StandsAt (inside : Inside) (id place : ℕ) : Type 0 where
  pub splits : Splits (entry_pairs inside.index.items) id place
  pub there : has_id (entry_pairs inside.index.items) id ≡ true
  pub within : place < length inside.index.items

stands : (inside : Inside) (shelves : Shelves) (entries : List Entry) (id place : ℕ) → as_shelves inside ≡ shelves → IsKept inside → entries ≡ inside.index.items
    → has_song (songs_of shelves) id ≡ true → Splits (entry_pairs entries) id place → StandsAt inside id place
stands inside shelves entries id place view kept same has splits =
    let there : has_id (entry_pairs inside.index.items) id ≡ true = has_in_view inside shelves inside.index.items id view refl ∙ has in
    let here : Splits (entry_pairs inside.index.items) id place = subst (λ (es : List Entry). Splits (entry_pairs es) id place) same splits in
    record { splits = here; there = there; within = omega (arith, length-map inside.index.items pair_of, within-at (entry_pairs inside.index.items) id place here kept.rising there) }

pub remove-gone-requires : goal.remove-gone-requires
remove-gone-requires c =
    let at = stands c.self.inside c.args.self.now c.as_slice.result.now c.args.id c.place_of-place.result c.self.view_is c.self.invariant
    c.as_slice.ensures.value c.requires c.place_of-place.ensures.splits in
    omega (arith, at.within, c.self.inside.index.ok)

pub clear-requires : goal.clear-requires
clear-requires c =
    let at = stands c.self.inside c.args.self.now c.as_slice.result.now c.args.id c.place_of-place.result c.self.view_is c.self.invariant
    c.as_slice.ensures.value c.requires c.place_of-place.ensures.splits in
    record {
      holds = some_from_held c.self.inside.store (pair_of c.remove-gone.result)
          (held_at c.self.inside.store c.self.inside.index.items c.place_of-place.result c.remove-gone.result c.self.invariant.held at.within c.remove-gone.ensures.value);
    }

pub remove-requires : goal.remove-requires
remove-requires c =
    let at = stands c.self.inside c.args.self.now c.as_slice.result.now c.args.id c.place_of-place.result c.self.view_is c.self.invariant
    c.as_slice.ensures.value c.requires c.place_of-place.ensures.splits in
    let held = held_at c.self.inside.store c.self.inside.index.items c.place_of-place.result c.remove-gone.result c.self.invariant.held at.within c.remove-gone.ensures.value in
    record {
      holds = subst (λ (x : Index). IsSome (slot_at x c.remove-gone.result.number)) (sym c.self.invariant.indexed)
          (some-indexed c.self.inside.store c.remove-gone.result.number (some_from_held c.self.inside.store (pair_of c.remove-gone.result) held));
    }

at_call : (c : goal.After-push_reserved) → StandsAt c.self.inside c.args.id c.place_of-place.result
at_call c =
    stands c.self.inside c.args.self.now c.as_slice.result.now c.args.id c.place_of-place.result c.self.view_is c.self.invariant
    c.as_slice.ensures.value c.requires c.place_of-place.ensures.splits

held_gone : (c : goal.After-push_reserved) → IsHeld c.self.inside.store (pair_of c.remove-gone.result)
held_gone c = held_at c.self.inside.store c.self.inside.index.items c.place_of-place.result c.remove-gone.result c.self.invariant.held (at_call c).within c.remove-gone.ensures.value

gone_id : (c : goal.After-push_reserved) → c.remove-gone.result.id ≡ c.args.id
gone_id c =
    eqb-true c.remove-gone.result.id c.args.id
    (has-here c.self.inside.index.items c.args.id c.place_of-place.result c.remove-gone.result (at_call c).splits c.self.invariant.rising (at_call c).within c.remove-gone.ensures.value
    ∙ (at_call c).there)

entries_are : (c : goal.After-push_reserved) → entry_pairs c.remove-gone.new.self.items ≡ remove (entry_pairs c.self.inside.index.items) c.place_of-place.result
entries_are c = ap entry_pairs c.remove-gone.ensures.items ∙ map-remove pair_of c.self.inside.index.items c.place_of-place.result

changed : (c : goal.After-push_reserved) → c.clear.new.self.slots ≡ set c.self.inside.store.slots c.remove-gone.result.number None
changed c = ap (λ (s : Store). s.slots) c.clear.ensures.cleared

same : (c : goal.After-push_reserved) → SameBut c.remove-gone.result.number c.self.inside.store c.clear.new.self
same c = same_but_set c.self.inside.store c.clear.new.self c.remove-gone.result.number None (changed c)

-- the entries that stay have other slots
off_slot : (c : goal.After-push_reserved) → All (λ e. e.1 ≢ c.remove-gone.result.number) (remove (entry_pairs c.self.inside.index.items) c.place_of-place.result)
off_slot c k d low =
    let index = entry_pairs c.self.inside.index.items in
    let rest = remove index c.place_of-place.result in
    let other : (get_or rest k d).0 ≢ c.args.id = other_ids c.args.id c.place_of-place.result index (at_call c).splits c.self.invariant.rising (at_call c).there k d low in
    off_other c.self.inside.store (get_or rest k d) (pair_of c.remove-gone.result) (held_gone c)
    (All-remove (IsHeld c.self.inside.store) index c.place_of-place.result c.self.invariant.held k d low) (λ at. other (at ∙ gone_id c))

left : (c : goal.After-push_reserved) → songs_in c.clear.new.self (entry_pairs c.remove-gone.new.self.items)
    ≡ remove (songs_in c.self.inside.store (entry_pairs c.self.inside.index.items)) c.place_of-place.result
left c =
    ap (songs_in c.clear.new.self) (entries_are c)
    ∙ songs-remove c.self.inside.store c.clear.new.self c.remove-gone.result.number c.place_of-place.result (entry_pairs c.self.inside.index.items) (same c) (off_slot c)

pub invariant_of-self : goal.invariant_of-self
invariant_of-self c =
    let inside : Inside = c.self.inside in
    let kept : IsKept inside = c.self.invariant in
    let index = entry_pairs inside.index.items in
    let new : Store = c.clear.new.self in
    let gone : Entry = c.remove-gone.result in
    let place : ℕ = c.place_of-place.result in
    let size : length new.slots ≡ length inside.store.slots = length_set inside.store new gone.number None (changed c) in
    let there : gone.number < length inside.store.slots = slot_there inside.store (pair_of gone) (held_gone c) in
    let others : All (λ s. s ≢ gone.number) inside.free.items = none_held inside.store (pair_of gone) inside.free.items (held_gone c) kept.free in
    let freed : IsFree new gone.number = record { there = omega (arith, there, size); empty = set_in inside.store new gone.number None (changed c) there } in
    let free : All (IsFree new) (inside.free.items ++ gone.number ∷ []) =
    All-push (IsFree new) inside.free.items gone.number (free_stay inside.store new gone.number inside.free.items (same c) size others kept.free) freed in
    let pair : get_or index place (pair_of gone) ≡ pair_of gone = get_or-map pair_of inside.index.items place gone (pair_of gone) (at_call c).within ∙ ap pair_of (sym c.remove-gone.ensures.value) in
    let sum = positions-remove inside.store place index (pair_of gone) (omega (arith, (at_call c).within, length-map inside.index.items pair_of)) pair in
    record {
      rising = subst AreRising (sym (entries_are c)) (rising-remove index place kept.rising);
      held = subst (All (IsHeld new)) (sym (entries_are c))
          (held_stays inside.store new gone.number (remove index place) (same c) (off_slot c) (All-remove (IsHeld inside.store) index place kept.held));
      filled = subst (IsFilled new) (sym (entries_are c))
          (filled-remove inside.store new place (pair_of gone) index (same c) (set_in inside.store new gone.number None (changed c) there) (omega (arith, (at_call c).within, length-map inside.index.items pair_of)) pair kept.filled);
      free = subst (All (IsFree new)) (sym c.push_reserved.ensures.items) free;
      distinct = subst AreDistinct (sym c.push_reserved.ensures.items) (distinct-push inside.free.items gone.number kept.distinct others);
      all_slots = omega (arith, kept.all_slots, c.remove-gone.ensures.len, c.push_reserved.ensures.len, size);
      all_words = omega (arith, sum, ap positions_of (left c), c.clear.ensures.spare, kept.all_words, ap (λ (s : Store). s.positions) c.clear.ensures.cleared);
      counted = counted-remove inside.store new place (pair_of gone) index (entry_pairs c.remove-gone.new.self.items) c.clear.ensures.cleared there
          (omega (arith, (at_call c).within, length-map inside.index.items pair_of)) pair (left c) kept.counted;
      indexed = c.remove.ensures ∙ ap (λ (x : Index). without_words_at x gone.number) kept.indexed ∙ sym (index-clear inside.store gone.number) ∙ ap index_of (sym c.clear.ensures.cleared);
      short = omega (arith, kept.short, size);
      room_index = omega (arith, kept.room_index, c.remove-gone.ensures.capacity, size);
      room_free = omega (arith, kept.room_free, c.push_reserved.ensures.capacity, size);
    }

pub returns-clause-songs : goal.returns-clause-songs
returns-clause-songs c =
    left c
    ∙ songs-without c.self.inside.store c.args.id c.place_of-place.result (entry_pairs c.self.inside.index.items) (at_call c).splits c.self.invariant.rising (at_call c).there
    ∙ ap (λ (s : Shelves). without_song (songs_of s) c.args.id) c.self.view_is
