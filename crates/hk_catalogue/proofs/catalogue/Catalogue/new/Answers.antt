use Rattle.std.proofs.Common.{◌≡◌, ℕ, List, [], length, get_or, replicate, arith, inl, inr, sym, ap, ◌∙◌, subst, Option, None}
use Rattle.std.specs.List.{All, count_by}
use Rattle.std.proofs.lemmas.Bool.{cases_lt}
use Rattle.std.proofs.lemmas.List.{length-replicate, get_or-replicate, get_or_past}
use Rattle.std.proofs.lemmas.Grind.{common_steps}
use Rattle.hk_table.specs.Store.{Store, SongWithId, new_store, song_at}
use Rattle.hk_table.specs.Index.{index_of}
use Rattle.hk_table.proofs.Indexed.{index-new, none-indexed}
use Rattle.hk_catalogue.specs.Entries.{entry_pairs}
use Rattle.hk_catalogue.specs.CatalogueInside.{AreCounted, IsFilled, IsFree}
use Rattle.hk_catalogue.specs.Shelves.{IsCounting}
use Rattle.hk_catalogue.proofs.Shelving.{some_not_none}
use Rattle.hk_catalogue.proofs.catalogue.Catalogue.new.Goals as goal

none_counted : (positions songs : ℕ) → AreCounted (new_store positions songs) []
none_counted positions songs p = ap (count_by p) (none-indexed positions songs)

counted : (store : Store) (index : List (ℕ × ℕ)) (positions songs : ℕ) → store ≡ new_store positions songs → index ≡ [] → AreCounted store index
counted store index positions songs new none =
    subst (AreCounted store) (sym none) (subst (λ s. AreCounted s []) (sym new) (none_counted positions songs))

-- all slots are empty
none_at : (songs slot : ℕ) → song_at (new_store 0 songs) slot ≡ None
none_at songs slot = elim (cases_lt slot songs) [
  | inl low ↦ get_or-replicate songs slot None None low
  | inr past ↦ get_or_past (replicate songs None) slot None (omega (arith, past, length-replicate {A = Option SongWithId} songs None))
]

filled : (store : Store) (index : List (ℕ × ℕ)) (positions songs : ℕ) → store ≡ new_store positions songs → IsFilled store index
filled store index positions songs new slot track is =
    absurd (some_not_none track (sym (ap (λ (s : Store). song_at s slot) new ∙ none_at songs slot) ∙ is))

free : (store : Store) (numbers : List ℕ) (positions songs : ℕ) → store ≡ new_store positions songs → length numbers ≡ songs → IsCounting numbers
    → All (IsFree store) numbers
free store numbers positions songs new size counting k d low =
    let here : get_or numbers k d ≡ k = counting k d low in
    subst (λ s. IsFree s (get_or numbers k d)) (sym new) (record {
      there = omega (arith, here, low, size, length-replicate {A = Option SongWithId} songs None);
      empty = none_at songs (get_or numbers k d);
    })

pub invariant_of-result : goal.invariant_of-result
invariant_of-result c = record {
  rising = grind (arith, common_steps);
  held = grind (arith, common_steps);
  filled = filled c.in_ok-store.store (entry_pairs c.in-Ok.index.items) c.args.positions c.args.songs c.in_ok-store.ensures;
  free = free c.in_ok-store.store c.in_ok-free.free.items c.args.positions c.args.songs c.in_ok-store.ensures
      (omega (arith, c.in_ok-free.ensures.count, c.in_ok-free.free.ok)) c.in_ok-free.ensures.numbers;
  distinct = grind (arith, common_steps);
  all_slots = grind (arith, common_steps);
  all_words = grind (arith, common_steps);
  counted = counted c.in_ok-store.store (entry_pairs c.in-Ok.index.items) c.args.positions c.args.songs c.in_ok-store.ensures (ap entry_pairs c.in-Ok.ensures.items);
  indexed = c.in_ok-table.ensures ∙ index-new c.args.positions c.args.songs ∙ ap index_of (sym c.in_ok-store.ensures);
  short = grind (arith, common_steps);
  room_index = grind (arith, common_steps);
  room_free = grind (arith, common_steps);
}
