-- The nodes of a table hold its songs, with one song more and with one less.
use Rattle.std.proofs.Common.{◌≡◌, ◌≢◌, ◌<◌, ◌==◌, ℕ, suc, List, [], ◌∷◌, length, map, set, get_or, refl, ap, sym, subst, ◌∙◌, arith, inl, inr, cond, get_or-set_same, get_or-set_other, Bool, Some, None}
use Rattle.std.specs.List.{count_by}
use Rattle.std.proofs.lemmas.Bool.{cases_eq, ne_eqb}
use Rattle.std.proofs.lemmas.List.{length-set, length-map, map-set, same_lists, get_or-map}
use Rattle.std.proofs.lemmas.List.Sums.{sum_by-cons}
use Rattle.hk_nodes.specs.Chains.{END, Has, without}
use Rattle.hk_nodes.specs.Store.{Store, IsLive, IsHead, IsOrderly, IsSong, chain_at, song_at, without_song}
use Rattle.hk_nodes.proofs.Walks.{lacks_has}
use Rattle.hk_nodes.proofs.Taking.{song_behind}
use Rattle.hk_nodes.proofs.Giving.{chain_less, song_split}
use Rattle.hk_nodes.proofs.Songs.{live_was, freed_other, length_without, count_in}
use Rattle.hk_table.specs.Index.{words_in, all_words}
use Rattle.hk_table.specs.Walks.{node_word}
use Rattle.hk_table.specs.Songs.{AreWritten, IsSlot, IsOwned, HoldSongs, IsSame, IsLonger, slot_in, slots_in, words_from}
use Rattle.hk_table.proofs.Counting.{count-set, length-set_words}
use Rattle.hk_table.proofs.Adding.{song_end, live_in_song, not_live_end, written_same, words_same}

-- what a slot has, by its head
pub slot_none : (m : Store) (head : ℕ) → head ≡ END → slot_in m head ≡ None
slot_none m head none = ap (slot_in m) none

pub slot_some : (m : Store) (head : ℕ) → head ≢ END → slot_in m head ≡ Some (words_from m head)
slot_some m head some = ap (λ b. cond b None (Some (words_from m head))) (ne_eqb head END some)

pub none_slot : (m : Store) (head : ℕ) → slot_in m head ≡ None → head ≡ END
none_slot m head none = elim (cases_eq head END) [
  | inl is ↦ is
  | inr other ↦ absurd (let no : Some (words_from m head) ≡ None = sym (slot_some m head other) ∙ none in cc)
]

pub head_not_end : (m : Store) (head : ℕ) → IsOrderly m → IsHead m head → head ≢ END
head_not_end m head orderly is = λ same. not_live_end m orderly (subst (IsLive m) same is.live)

-- a slot's song is as it was
slot_same : (old m : Store) (slot head : ℕ) → IsOrderly old → ((x : ℕ) → IsLive old x → IsSame old m x) → IsSlot old slot head → slot_in m head ≡ slot_in old head
slot_same old m slot head orderly same (inl none) = slot_none m head none ∙ sym (slot_none old head none)
slot_same old m slot head orderly same (inr is) =
    let some = head_not_end old head orderly is.0 in
    let here : words_from m head ≡ words_from old head =
    ap (map (node_word m)) (same head is.0.live).song
    ∙ words_same old m (song_at old head) (λ x has. same x (live_in_song old head x orderly (inr is.0) has)) in
    slot_some m head some ∙ ap (λ ws. Some ws) here ∙ sym (slot_some old head some)

slots_same : (old m : Store) (heads : List ℕ) → IsOrderly old → ((x : ℕ) → IsLive old x → IsSame old m x)
    → ((slot : ℕ) → slot < length heads → IsSlot old slot (get_or heads slot END)) → slots_in m heads ≡ slots_in old heads
slots_same old m heads orderly same songs =
    same_lists (slots_in m heads) (slots_in old heads) (length-map heads (slot_in m) ∙ sym (length-map heads (slot_in old))) (λ k d low.
    let inside : k < length heads = omega (arith, low, length-map heads (slot_in m)) in
    get_or-map (slot_in m) heads k END d inside ∙ slot_same old m k (get_or heads k END) orderly same (songs k inside)
    ∙ sym (get_or-map (slot_in old) heads k END d inside))

pub slot_at_head : (m : Store) (heads : List ℕ) (slot : ℕ) → slot < length heads → get_or (slots_in m heads) slot None ≡ slot_in m (get_or heads slot END)
slot_at_head m heads slot low = get_or-map (slot_in m) heads slot END None low

module _ (bucket : ℕ → ℕ) (slot : ℕ) (old m : Store) (heads words : List ℕ) (head : ℕ) (hold : HoldSongs bucket old heads)
    (longer : IsLonger bucket slot 0 old m words head) (low : slot < length heads) (empty : get_or heads slot END ≡ END) (some : 0 < length words) where
  begins : IsHead m head
  begins = elim longer.begins [
    | inl none ↦
        let no : words ≡ [] = sym longer.words_are ∙ ap (map (node_word m)) (ap (song_at m) none ∙ song_end m longer.orderly) in
        absurd (omega (arith, some, ap length no))
    | inr is ↦ is
  ]

  same : (x : ℕ) → IsLive old x → IsSame old m x
  same x live = (longer.stays x live).1

  slot_is : slot_in m head ≡ Some words
  slot_is = slot_some m head (head_not_end m head longer.orderly begins) ∙ ap (λ ws. Some ws) longer.words_are

  pub slots_with : slots_in m (set heads slot head) ≡ set (slots_in old heads) slot (Some words)
  slots_with = map-set (slot_in m) heads slot head
      ∙ ap (λ ss. set ss slot (slot_in m head)) (slots_same old m heads hold.orderly same hold.songs)
      ∙ ap (set (slots_in old heads) slot) slot_is

  head_other : (k : ℕ) → k ≢ slot → get_or (set heads slot head) k END ≡ get_or heads k END
  head_other k other = get_or-set_other heads slot k head END other

  head_here : get_or (set heads slot head) slot END ≡ head
  head_here = get_or-set_same heads slot head END low

  songs : (k : ℕ) → k < length (set heads slot head) → IsSlot m k (get_or (set heads slot head) k END)
  songs k inside = elim (cases_eq k slot) [
    | inl here ↦
        subst (IsSlot m k) (sym (ap (λ i. get_or (set heads slot head) i END) here ∙ head_here))
        (inr (begins, subst (λ i. AreWritten m i 0 (song_at m head)) (sym here) longer.written))
    | inr other ↦
        subst (IsSlot m k) (sym (head_other k other))
        (elim (hold.songs k (omega (arith, inside, length-set heads slot head))) [
          | inl none ↦ inl none
          | inr is ↦ inr (
            longer.heads (get_or heads k END) is.0,
            subst (AreWritten m k 0) (sym (same (get_or heads k END) is.0.live).song)
                (written_same old m k 0 (song_at old (get_or heads k END)) (λ x has. same x (live_in_song old (get_or heads k END) x hold.orderly (inr is.0) has)) is.1),
          )
        ])
  ]

  -- a song that has a node begins at a live node
  begins_live : (k x : ℕ) → k < length heads → Has x (song_at old (get_or heads k END)) → IsLive old (get_or heads k END)
  begins_live k x inside has = elim (hold.songs k inside) [
    | inl none ↦ absurd (subst (Has x) (ap (song_at old) none ∙ song_end old hold.orderly) has)
    | inr is ↦ is.0.live
  ]

  owned : (x : ℕ) → IsLive m x → IsOwned bucket m (set heads slot head) x
  owned x live = elim (longer.live x live) [
    | inl before ↦
        let was = hold.owned x before in
        let is = same x before in
        let other : get_or old.slots x 0 ≢ slot = λ at.
        subst (Has x) (ap (λ i. song_at old (get_or heads i END)) at ∙ ap (song_at old) empty ∙ song_end old hold.orderly) was.song in
        let there : get_or (set heads slot head) (get_or m.slots x 0) END ≡ get_or heads (get_or old.slots x 0) END =
        ap (λ i. get_or (set heads slot head) i END) is.slot ∙ head_other (get_or old.slots x 0) other in
        record {
          bucketed = is.bucket_of ∙ was.bucketed ∙ ap bucket (sym is.word);
          slot = omega (arith, is.slot, was.slot, length-set heads slot head);
          song = subst (Has x) (sym (ap (song_at m) there ∙ (same (get_or heads (get_or old.slots x 0) END) (begins_live (get_or old.slots x 0) x was.slot was.song)).song)) was.song;
        }
    | inr has ↦
        let at : get_or m.slots x 0 ≡ slot = written_slot m slot 0 x (song_at m head) longer.written has in
        record {
          bucketed = longer.bucketed x has;
          slot = omega (arith, at, low, length-set heads slot head);
          song = subst (Has x) (sym (ap (λ i. song_at m (get_or (set heads slot head) i END)) at ∙ ap (song_at m) head_here)) has;
        }
  ] where
    written_slot : (m : Store) (slot pos x : ℕ) (xs : List ℕ) → AreWritten m slot pos xs → Has x xs → get_or m.slots x 0 ≡ slot
    written_slot m slot pos x [] written has = absurd has
    written_slot m slot pos x (y ∷ ys) written (inl is) = ap (λ i. get_or m.slots i 0) is ∙ written.0
    written_slot m slot pos x (y ∷ ys) written (inr later) = written_slot m slot (suc pos) x ys written.2 later

  was_empty : get_or (slots_in old heads) slot None ≡ None
  was_empty = slot_at_head old heads slot low ∙ slot_none old (get_or heads slot END) empty

  inside : slot < length (slots_in old heads)
  inside = omega (arith, low, length-map heads (slot_in old))

  pub hold_with : HoldSongs bucket m (set heads slot head)
  hold_with = record {
    orderly = longer.orderly;
    songs = songs;
    owned = owned;
    counts = λ value.
        let p : ℕ → Bool = λ w. bucket w == value in
        omega (
          arith,
          longer.chains value,
          hold.counts value,
          ap (λ ss. count_by p (all_words ss)) slots_with,
          count-set p (slots_in old heads) slot (Some words) inside,
          ap (λ s. count_by p (words_in s)) was_empty,
        );
    all = omega (
      arith,
      longer.spare,
      longer.nodes,
      hold.all,
      ap (λ ss. length (all_words ss)) slots_with,
      length-set_words (slots_in old heads) slot (Some words) inside,
      ap (λ s. length (words_in s)) was_empty,
    );
  }

-- the words of a song's nodes that are in a bucket
counted_song : (bucket : ℕ → ℕ) (m : Store) (value : ℕ) (xs : List ℕ) → ((x : ℕ) → Has x xs → get_or m.bucket_of x END ≡ bucket (node_word m x))
    → count_in m.bucket_of value xs ≡ count_by (λ w. bucket w == value) (map (node_word m) xs)
counted_song bucket m value [] theirs = refl
counted_song bucket m value (x ∷ xs) theirs =
    let here : ◌≡◌ {A = ℕ} (cond (get_or m.bucket_of x END == value) 1 0) (cond (bucket (node_word m x) == value) 1 0) =
    ap (λ b. cond (b == value) 1 0) (theirs x (inl refl)) in
    omega (
      arith,
      here,
      counted_song bucket m value xs (λ y has. theirs y (inr has)),
      sum_by-cons (λ y. cond (get_or m.bucket_of y END == value) 1 0) x xs,
      sum_by-cons (λ w. cond (bucket w == value) 1 0) (node_word m x) (map (node_word m) xs),
    )

module _ (bucket : ℕ → ℕ) (slot : ℕ) (m t : Store) (heads : List ℕ) (hold : HoldSongs bucket m heads) (low : slot < length heads)
    (is_head : IsHead m (get_or heads slot END)) (given : t ≡ without_song m (song_at m (get_or heads slot END)))
    (others : (x : ℕ) → IsHead m x → x ≢ get_or heads slot END → IsHead t x) (orderly : IsOrderly t) where
  abbrev head : ℕ
  head = get_or heads slot END

  abbrev song : List ℕ
  song = song_at m head

  is_song : IsSong m head song
  is_song = song_behind m head hold.orderly.fits hold.orderly (inr is_head)

  pub slots_without : slots_in t (set heads slot END) ≡ set (slots_in m heads) slot None
  slots_without = ap (λ (s : Store). slots_in s (set heads slot END)) given ∙ map-set (slot_in m) heads slot END

  -- the first node of a slot's song has that slot
  first_slot : (k : ℕ) → IsHead m (get_or heads k END) → AreWritten m k 0 (song_at m (get_or heads k END)) → get_or m.slots (get_or heads k END) 0 ≡ k
  first_slot k is written =
      let split : song_at m (get_or heads k END) ≡ _ = song_split m (get_or heads k END) hold.orderly.fits hold.orderly is in
      (subst (AreWritten m k 0) split written).0

  here : AreWritten m slot 0 song
  here = elim (hold.songs slot low) [
    | inl none ↦ absurd (head_not_end m head hold.orderly is_head none)
    | inr is ↦ is.1
  ]

  songs_left : (k : ℕ) → k < length (set heads slot END) → IsSlot t k (get_or (set heads slot END) k END)
  songs_left k inside = elim (cases_eq k slot) [
    | inl same ↦ inl (ap (λ i. get_or (set heads slot END) i END) same ∙ get_or-set_same heads slot END END low)
    | inr other ↦
        subst (IsSlot t k) (sym (get_or-set_other heads slot k END END other))
        (elim (hold.songs k (omega (arith, inside, length-set heads slot END))) [
          | inl none ↦ inl none
          | inr is ↦ inr (
            others (get_or heads k END) is.0 (λ same. other (sym (first_slot k is.0 is.1) ∙ ap (λ h. get_or m.slots h 0) same ∙ first_slot slot is_head here)),
            subst (λ (s : Store). AreWritten s k 0 (song_at s (get_or heads k END))) (sym given) is.1,
          )
        ])
  ]

  owned_left : (x : ℕ) → IsLive t x → IsOwned bucket t (set heads slot END) x
  owned_left x live =
      let left = live_was m song hold.orderly.fits.few_buckets x (subst (λ (s : Store). IsLive s x) given live) in
      let was = hold.owned x left.0 in
      let other : get_or m.slots x 0 ≢ slot = λ at. lacks_has x song left.1 (subst (λ k. Has x (song_at m (get_or heads k END))) at was.song) in
      subst (λ (s : Store). IsOwned bucket s (set heads slot END) x) (sym given) (record {
        bucketed = freed_other x song m.bucket_of left.1 ∙ was.bucketed;
        slot = omega (arith, was.slot, length-set heads slot END);
        song = subst (λ h. Has x (song_at m h)) (sym (get_or-set_other heads slot (get_or m.slots x 0) END END other)) was.song;
      })

  slot_was : get_or (slots_in m heads) slot None ≡ Some (words_from m head)
  slot_was = slot_at_head m heads slot low ∙ slot_some m head (head_not_end m head hold.orderly is_head)

  inside_slots : slot < length (slots_in m heads)
  inside_slots = omega (arith, low, length-map heads (slot_in m))

  counts_left : (value : ℕ) → length (chain_at t value) ≡ count_by (λ w. bucket w == value) (all_words (slots_in t (set heads slot END)))
  counts_left value =
      let p : ℕ → Bool = λ w. bucket w == value in
      let shorter : chain_at t value ≡ without song (chain_at m value) = ap (λ (s : Store). chain_at s value) given ∙ chain_less song m.chains value in
      let there : (x : ℕ) → Has x song → get_or m.bucket_of x END ≡ value → Has x (chain_at m value) =
      λ x has at. subst (λ v. Has x (chain_at m v)) at (hold.orderly.there x (live_in_song m head x hold.orderly (inr is_head) has)) in
      omega (
        arith,
        ap length shorter,
        length_without m.bucket_of value song (chain_at m value) is_song.once (hold.orderly.once value) (hold.orderly.theirs value) there,
        counted_song bucket m value song (λ x has. (hold.owned x (live_in_song m head x hold.orderly (inr is_head) has)).bucketed),
        hold.counts value,
        ap (λ ss. count_by p (all_words ss)) slots_without,
        count-set p (slots_in m heads) slot None inside_slots,
        ap (λ s. count_by p (words_in s)) slot_was,
      )

  pub hold_without : HoldSongs bucket t (set heads slot END)
  hold_without = record {
    orderly = orderly;
    songs = songs_left;
    owned = owned_left;
    counts = counts_left;
    all = omega (
      arith,
      ap (λ (s : Store). s.spare) given,
      ap (λ (s : Store). length s.behind) given,
      hold.all,
      ap (λ ss. length (all_words ss)) slots_without,
      length-set_words (slots_in m heads) slot None inside_slots,
      ap (λ s. length (words_in s)) slot_was,
      length-map song (node_word m),
    );
  }
