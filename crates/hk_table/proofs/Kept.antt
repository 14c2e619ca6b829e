-- What is true of a table, with a song more and with a song less.
use Rattle.std.proofs.Common.{◌≡◌, ◌≢◌, ◌<◌, ◌≤◌, ◌-◌, ◌^◌, ◌==◌, ℕ, zero, suc, List, [], ◌∷◌, length, set, get_or, replicate, refl, sym, ap, ◌∙◌, subst, arith, inl, inr, Option, Some, None}
use Rattle.std.specs.List.{count_by}
use Rattle.std.specs.Option.{IsSome}
use Rattle.std.specs.Vec.{with_item}
use Rattle.std.proofs.lemmas.Bool.{cases_lt}
use Rattle.std.proofs.lemmas.List.{length-map, length-replicate, get_or_past}
use Rattle.hk_spec_matching.specs.Buckets.{bucket_bits}
use Rattle.hk_nodes.specs.Chains.{END}
use Rattle.hk_nodes.specs.Store.{Store, IsHead, IsOrderly, song_at, new_store, without_song}
use Rattle.hk_nodes.proofs.Fresh.{not_live, empty_at, none_at}
use Rattle.hk_table.specs.Index.{Index, all_words, room, slot_at, new_index, with_words_at, without_words_at}
use Rattle.hk_table.specs.Songs.{bucket_at, as_index, HoldSongs, IsKept, IsLonger, slots_in, slot_in}
use Rattle.hk_table.specs.declared.table.Table.TheInside.{Inside}
use Rattle.hk_table.proofs.Buckets.{least_bits, most_bits}
use Rattle.hk_table.proofs.Indexed.{no_words}
use Rattle.hk_table.proofs.Holding.{none_slot, slot_none, slot_at_head, slots_with, hold_with, slots_without, hold_without}

pub shift_low : (t : Inside) → IsKept t → t.shift < 32
shift_low t kept = omega (arith, kept.shift, least_bits (length t.nodes.behind))

pub bits_of : (t : Inside) → IsKept t → 32 - t.shift ≡ bucket_bits (length t.nodes.behind)
bits_of t kept = omega (arith, kept.shift, most_bits (length t.nodes.behind))

pub seen_slot : (t : Inside) (index : Index) (slot : ℕ) → as_index t ≡ index → slot < length index.slots → slot < length t.heads.items
seen_slot t index slot view low =
    let here : slot < length (slots_in t.nodes t.heads.items) = subst (λ (x : Index). slot < length x.slots) (sym view) low in
    omega (arith, here, length-map t.heads.items (slot_in t.nodes))

pub seen_empty : (t : Inside) (index : Index) (slot : ℕ) → as_index t ≡ index → slot < length index.slots → slot_at index slot ≡ None
    → get_or t.heads.items slot END ≡ END
seen_empty t index slot view low empty =
    none_slot t.nodes (get_or t.heads.items slot END)
    (sym (slot_at_head t.nodes t.heads.items slot (seen_slot t index slot view low)) ∙ subst (λ (x : Index). slot_at x slot ≡ None) (sym view) empty)

pub seen_room : (t : Inside) (index : Index) → as_index t ≡ index → IsKept t → room index ≡ t.nodes.spare
seen_room t index view kept = sym (ap room view) ∙ omega (arith, kept.hold.all)

-- the fields once a song is in or out
abbrev pub changed : Inside → Store → ℕ → ℕ → Inside
changed t nodes slot head = record { nodes = nodes; heads = with_item t.heads slot head; shift = t.shift }

kept_as : (t : Inside) (nodes : Store) (slot head : ℕ) → IsKept t → length nodes.behind ≡ length t.nodes.behind → length nodes.chains ≡ length t.nodes.chains
    → HoldSongs (bucket_at t.shift) nodes (set t.heads.items slot head) → IsKept (changed t nodes slot head)
kept_as t nodes slot head kept same_nodes same_buckets hold = record {
  hold = hold;
  shift = kept.shift ∙ ap (λ n. 32 - bucket_bits n) (sym same_nodes);
  buckets = same_buckets ∙ kept.buckets ∙ ap (λ n. 2 ^ bucket_bits n) (sym same_nodes);
  few = omega (arith, same_nodes, kept.few);
}

module _ (t : Inside) (nodes : Store) (slot head : ℕ) (words : List ℕ) (kept : IsKept t) (low : slot < length t.heads.items)
    (empty : get_or t.heads.items slot END ≡ END) (some : 0 < length words) (longer : IsLonger (bucket_at t.shift) slot 0 t.nodes nodes words head) where
  pub kept_with : IsKept (changed t nodes slot head)
  kept_with =
      kept_as t nodes slot head kept longer.nodes longer.buckets
      (hold_with (bucket_at t.shift) slot t.nodes nodes t.heads.items words head kept.hold longer low empty some)

  pub index_with : as_index (changed t nodes slot head) ≡ with_words_at (as_index t) slot words
  index_with =
      let slots = slots_with (bucket_at t.shift) slot t.nodes nodes t.heads.items words head kept.hold longer low empty some in
      λ i. record { slots = slots i; positions = longer.nodes i }

not_none : {A : Type 0} (slot : Option A) → IsSome slot → slot ≡ None → ⊥
not_none None some none = absurd (cc)
not_none (Some a) some none = absurd (cc)

-- a slot that holds words is there, and its song begins at a node
pub there : (t : Inside) (slot : ℕ) → IsSome (slot_at (as_index t) slot) → slot < length t.heads.items
there t slot some = elim (cases_lt slot (length t.heads.items)) [
  | inl low ↦ low
  | inr past ↦
      absurd (not_none (slot_at (as_index t) slot) some
      (get_or_past (slots_in t.nodes t.heads.items) slot None (omega (arith, past, length-map t.heads.items (slot_in t.nodes)))))
]

pub begins : (t : Inside) (slot : ℕ) → IsKept t → IsSome (slot_at (as_index t) slot) → IsHead t.nodes (get_or t.heads.items slot END)
begins t slot kept some = elim (kept.hold.songs slot (there t slot some)) [
  | inl none ↦
      absurd (not_none (slot_at (as_index t) slot) some
      (slot_at_head t.nodes t.heads.items slot (there t slot some) ∙ slot_none t.nodes (get_or t.heads.items slot END) none))
  | inr is ↦ is.0
]

pub seen_some : (t : Inside) (index : Index) (slot : ℕ) → as_index t ≡ index → IsSome (slot_at index slot) → IsSome (slot_at (as_index t) slot)
seen_some t index slot view some = subst (λ (x : Index). IsSome (slot_at x slot)) (sym view) some

module _ (t : Inside) (nodes : Store) (slot : ℕ) (kept : IsKept t) (some : IsSome (slot_at (as_index t) slot))
    (given : nodes ≡ without_song t.nodes (song_at t.nodes (get_or t.heads.items slot END)))
    (others : (x : ℕ) → IsHead t.nodes x → x ≢ get_or t.heads.items slot END → IsHead nodes x) (orderly : IsOrderly nodes) where
  pub kept_without : IsKept (changed t nodes slot END)
  kept_without =
      kept_as t nodes slot END kept (ap (λ (s : Store). length s.behind) given)
      (ap (λ (s : Store). length s.chains) given ∙ length-map t.nodes.chains _)
      (hold_without (bucket_at t.shift) slot t.nodes nodes t.heads.items kept.hold (there t slot some) (begins t slot kept some) given others orderly)

  pub index_without : as_index (changed t nodes slot END) ≡ without_words_at (as_index t) slot
  index_without =
      let slots = slots_without (bucket_at t.shift) slot t.nodes nodes t.heads.items kept.hold (there t slot some) (begins t slot kept some) given others orderly in
      λ i. record { slots = slots i; positions = length (given i).behind }

-- a table of empty slots
no_slots : (m : Store) (n : ℕ) → slots_in m (replicate n END) ≡ replicate n None
no_slots m zero = refl
no_slots m (suc n) = ap (λ ss. None ∷ ss) (no_slots m n)

pub hold_none : (bucket : ℕ → ℕ) (positions buckets songs : ℕ) → buckets ≤ 2 ^ 20 → IsOrderly (new_store positions buckets)
    → HoldSongs bucket (new_store positions buckets) (replicate songs END)
hold_none bucket positions buckets songs few orderly =
    let m : Store = new_store positions buckets in
    let none : all_words (slots_in m (replicate songs END)) ≡ [] = ap all_words (no_slots m songs) ∙ no_words songs in
    record {
      orderly = orderly;
      songs = λ slot low. inl (none_at songs slot);
      owned = λ x live. absurd (not_live positions buckets x few live);
      counts = λ value. ap length (empty_at buckets value) ∙ sym (ap (count_by (λ w. bucket w == value)) none);
      all = omega (arith, ap length none, length-replicate positions END);
    }

pub index_none : (m : Store) (positions songs : ℕ) → length m.behind ≡ positions → (heads : List ℕ) → heads ≡ replicate songs END
    → ◌≡◌ {A = Index} (record { slots = slots_in m heads; positions = length m.behind }) (new_index positions songs)
index_none m positions songs size heads none =
    let slots : slots_in m heads ≡ replicate songs None = ap (slots_in m) none ∙ no_slots m songs in
    λ i. record { slots = slots i; positions = size i }
