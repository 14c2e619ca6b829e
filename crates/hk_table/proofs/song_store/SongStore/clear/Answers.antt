-- The words behind the song's move down, and so do the extents that begin behind it.
use Rattle.std.proofs.Common.{◌≡◌, ◌+◌, ◌<◌, List, length, get_or, set, map, sym, ◌∙◌, ap, arith, subst, Option, Some, None}
use Rattle.std.specs.List.{All}
use Rattle.std.specs.Option.{option_map}
use Rattle.std.specs.Vec.{with_item, with_items}
use Rattle.std.proofs.lemmas.List.{with_items_is, length-map, length-set}
use Rattle.std.proofs.lemmas.List.Sums.{sum_by-set}
use Rattle.hk_table.specs.Store.{Store, spare, without_song_at}
use Rattle.hk_table.specs.Extents.{extent_songs, IsWithin, IsSlotWithin, IsSlotApart, AreApart, length_of, lengths_in, moved_down}
use Rattle.hk_table.specs.Inside.{IsKept}
use Rattle.hk_table.specs.declared.extent.Extent.{Extent}
use Rattle.hk_table.specs.declared.song_store.SongStore.TheInside.{Inside}
use Rattle.hk_table.proofs.Moves.{closed, left, length-closed, songs-left, others_apart, within-left, apart-left, lengths-moved}
use Rattle.hk_table.proofs.Room.{there_from_some, there_in_view, words_fit, spare-clear}
use Rattle.hk_table.proofs.song_store.SongStore.clear.Goals as goal

pub close_up-requires : goal.close_up-requires
close_up-requires c =
    let slots : List (Option Extent) = c.self.inside.slots.items in
    let is : get_or slots c.args.slot None ≡ Some c.in-Some.gone = ap (λ ss. get_or ss c.args.slot None) (sym c.as_slice.ensures.value) ∙ sym c.extent_at.ensures ∙ c.in-Some.is in
    subst (All (IsSlotApart c.in-Some.gone)) (sym c.as_mut_slice.ensures.value)
    (others_apart slots c.args.slot c.in-Some.gone (there_from_some slots c.args.slot c.in-Some.gone is) c.self.invariant.apart is)

-- what the slot held
is : (c : goal.After-cut_out) → get_or c.self.inside.slots.items c.args.slot None ≡ Some c.in-Some.gone
is c = ap (λ ss. get_or ss c.args.slot None) (sym c.as_slice.ensures.value) ∙ sym c.extent_at.ensures ∙ c.in-Some.is

there : (c : goal.After-cut_out) → c.args.slot < length c.self.inside.slots.items
there c = there_from_some c.self.inside.slots.items c.args.slot c.in-Some.gone (is c)

here : (c : goal.After-cut_out) → IsWithin (length c.self.inside.words.items) c.in-Some.gone
here c = subst (IsSlotWithin (length c.self.inside.words.items)) (is c) (c.self.invariant.within c.args.slot None (there c))

others : (c : goal.After-cut_out) → All (IsSlotApart c.in-Some.gone) (set c.self.inside.slots.items c.args.slot None)
others c = others_apart c.self.inside.slots.items c.args.slot c.in-Some.gone (there c) c.self.invariant.apart (is c)

-- the slots and the number of words after the call
slots_are : (c : goal.After-cut_out) → (with_items (with_item c.self.inside.slots c.args.slot None) c.close_up.new.slots).items ≡ left c.self.inside.slots.items c.args.slot c.in-Some.gone
slots_are c =
    let slots = c.self.inside.slots in
    let closed_up : c.close_up.new.slots ≡ left slots.items c.args.slot c.in-Some.gone = c.close_up.ensures ∙ ap (map (option_map (moved_down c.in-Some.gone))) c.as_mut_slice.ensures.value in
    let size : length c.close_up.new.slots ≡ slots.len =
    omega (arith, ap length closed_up, length-map (set slots.items c.args.slot None) (option_map (moved_down c.in-Some.gone)), length-set slots.items c.args.slot None, slots.ok) in
    with_items_is (with_item slots c.args.slot None) c.close_up.new.slots size ∙ closed_up

fewer : (c : goal.After-cut_out) → length c.cut_out.new.words.items + c.in-Some.gone.length ≡ length c.self.inside.words.items
fewer c = omega (arith, ap length c.cut_out.ensures.words, length-closed c.self.inside.words.items c.in-Some.gone (here c))

pub invariant_of-self : goal.invariant_of-self
invariant_of-self c =
    let inside : Inside = c.self.inside in
    let kept : IsKept inside = c.self.invariant in
    let slots : List (Option Extent) = inside.slots.items in
    let n = length inside.words.items in
    let m = length c.cut_out.new.words.items in
    let less = fewer c in
    record {
      within = subst (All (IsSlotWithin m)) (sym (slots_are c)) (within-left n m slots c.args.slot c.in-Some.gone (here c) less kept.within (others c));
      apart = subst AreApart (sym (slots_are c)) (apart-left n slots c.args.slot c.in-Some.gone (there c) kept.within kept.apart (others c));
      all_words = ap lengths_in (slots_are c) ∙ lengths-moved c.in-Some.gone (set slots c.args.slot None)
          ∙ omega (arith, sum_by-set length_of slots c.args.slot None None (there c), ap length_of (is c), less, kept.all_words);
      few_words = omega (arith, less, kept.few_words, inside.words.ok, c.cut_out.new.words.ok);
      short = kept.short;
      room = omega (arith, kept.room, c.cut_out.ensures.capacity);
    }

pub returns-clause-cleared : goal.returns-clause-cleared
returns-clause-cleared c =
    let inside : Inside = c.self.inside in
    let gone : Extent = c.in-Some.gone in
    let slots : List (Option Extent) = (with_items (with_item inside.slots c.args.slot None) c.close_up.new.slots).items in
    let closed_up : extent_songs c.cut_out.new.words.items slots ≡ set (extent_songs inside.words.items inside.slots.items) c.args.slot None =
    ap (λ ws. extent_songs ws slots) c.cut_out.ensures.words
    ∙ ap (extent_songs (closed inside.words.items gone)) (slots_are c)
    ∙ songs-left inside.words.items inside.slots.items c.args.slot gone (here c) (others c) in
    let new : Store = record { slots = extent_songs c.cut_out.new.words.items slots; positions = inside.positions } in
    subst (λ (s : Store). new ≡ without_song_at s c.args.slot) c.self.view_is (λ i. record { slots = closed_up i; positions = inside.positions })

pub returns-clause-spare : goal.returns-clause-spare
returns-clause-spare c =
    ap spare (returns-clause-cleared c)
    ∙ spare-clear c.args.self.now c.args.slot (there_in_view c.self.inside c.args.self.now c.args.slot c.self.view_is (there c)) (words_fit c.self.inside c.args.self.now c.self.view_is c.self.invariant)
