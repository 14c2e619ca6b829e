-- A node more in front of a song that is being put in.
use Rattle.std.proofs.Common.{◌≡◌, ◌≢◌, ◌<◌, ◌⊎◌, ◌+◌, ◌==◌, ℕ, suc, List, [], ◌∷◌, length, map, set, get_or, refl, ap, sym, subst, ◌∙◌, arith, inl, inr, cond, get_or-set_same, get_or-set_other}
use Rattle.std.specs.List.{count_by}
use Rattle.std.proofs.lemmas.Bool.{cases_eq, eq-eqb, ne_eqb}
use Rattle.std.proofs.lemmas.List.{length-set, get_or_past}
use Rattle.std.proofs.lemmas.List.Sums.{sum_by-cons}
use Rattle.hk_nodes.specs.Chains.{END, Has, AllBelow}
use Rattle.hk_nodes.specs.Store.{Store, IsLive, IsHead, IsOrderly, chain_at, song_at, with_node}
use Rattle.hk_nodes.proofs.Walks.{nodes_are}
use Rattle.hk_nodes.proofs.Taking.{song_behind}
use Rattle.hk_table.specs.Walks.{node_word}
use Rattle.hk_table.specs.Songs.{AreWritten, IsSame, IsLonger}

pub song_end : (m : Store) → IsOrderly m → song_at m END ≡ []
song_end m orderly = nodes_are m.behind END [] orderly.fits.few refl tt

pub below_has : (values : List ℕ) (bound x : ℕ) (xs : List ℕ) → AllBelow values bound xs → Has x xs → get_or values x END < bound
below_has values bound x [] all has = absurd has
below_has values bound x (y ∷ ys) all (inl same) = omega (arith, ap (λ i. get_or values i END) same, all.0)
below_has values bound x (y ∷ ys) all (inr later) = below_has values bound x ys all.1 later

-- the nodes of a song are live
pub live_in_song : (m : Store) (head x : ℕ) → IsOrderly m → (head ≡ END) ⊎ IsHead m head → Has x (song_at m head) → IsLive m x
live_in_song m head x orderly begins has =
    below_has m.bucket_of (length m.chains) x (song_at m head) (song_behind m head orderly.fits orderly begins).live has

pub not_live_end : (m : Store) → IsOrderly m → IsLive m END → ⊥
not_live_end m orderly live =
    omega (arith, live, get_or_past m.bucket_of END END (omega (arith, orderly.fits.few, orderly.fits.same)), orderly.fits.few_buckets)

pub written_same : (old m : Store) (slot pos : ℕ) (xs : List ℕ) → ((x : ℕ) → Has x xs → IsSame old m x) → AreWritten old slot pos xs → AreWritten m slot pos xs
written_same old m slot pos [] same written = tt
written_same old m slot pos (x ∷ xs) same written =
    let here = same x (inl refl) in
    (here.slot ∙ written.0, here.pos ∙ written.1, written_same old m slot (suc pos) xs (λ y has. same y (inr has)) written.2)

pub words_same : (old m : Store) (xs : List ℕ) → ((x : ℕ) → Has x xs → IsSame old m x) → map (node_word m) xs ≡ map (node_word old) xs
words_same old m [] same = refl
words_same old m (x ∷ xs) same = λ i. (same x (inl refl)).word i ∷ words_same old m xs (λ y has. same y (inr has)) i

pub none_longer : (bucket : ℕ → ℕ) (slot from : ℕ) (m : Store) → IsOrderly m → IsLonger bucket slot from m m [] END
none_longer bucket slot from m orderly =
    let none = song_end m orderly in
    record {
      orderly = orderly;
      begins = inl refl;
      fresh = not_live_end m orderly;
      words_are = ap (map (node_word m)) none;
      written = subst (AreWritten m slot from) (sym none) tt;
      bucketed = λ x has. absurd (subst (Has x) none has);
      live = λ x live. inl live;
      stays = λ x live. (live, record { bucket_of = refl; word = refl; slot = refl; pos = refl; song = refl });
      heads = λ x is. is;
      chains = λ value. omega arith;
      spare = omega arith;
      nodes = refl;
      buckets = refl;
    }

-- what a take answers
pub record Taken (bucket slot pos word rest node : ℕ) (m t : Store) : Type 0 where
  pub taken : t ≡ with_node m node bucket word slot pos rest
  pub free : get_or m.bucket_of node END ≡ END
  pub there : node < length m.behind
  pub head : IsHead t node
  pub song : song_at t node ≡ node ∷ song_at m rest
  pub songs : (x : ℕ) → IsLive m x → song_at t x ≡ song_at m x
  pub heads : (x : ℕ) → IsHead m x → x ≢ rest → IsHead t x
  pub orderly : IsOrderly t

module _ (bucket : ℕ → ℕ) (slot from : ℕ) (old m t : Store) (words : List ℕ) (head w n : ℕ) (was : IsLonger bucket slot (suc from) old m words head)
    (some : 0 < m.spare) (low : bucket w < length m.chains) (take : Taken (bucket w) slot from w head n m t) where
  bucket_here : get_or t.bucket_of n END ≡ bucket w
  bucket_here = ap (λ (s : Store). get_or s.bucket_of n END) take.taken
      ∙ get_or-set_same m.bucket_of n (bucket w) END (omega (arith, take.there, was.orderly.fits.same))

  word_here : node_word t n ≡ w
  word_here = ap (λ (s : Store). node_word s n) take.taken ∙ get_or-set_same m.words n w 0 (omega (arith, take.there, was.orderly.fits.words))

  slot_here : get_or t.slots n 0 ≡ slot
  slot_here = ap (λ (s : Store). get_or s.slots n 0) take.taken ∙ get_or-set_same m.slots n slot 0 (omega (arith, take.there, was.orderly.fits.slots))

  pos_here : get_or t.positions n 0 ≡ from
  pos_here = ap (λ (s : Store). get_or s.positions n 0) take.taken
      ∙ get_or-set_same m.positions n from 0 (omega (arith, take.there, was.orderly.fits.positions))

  bucket_other : (x : ℕ) → x ≢ n → get_or t.bucket_of x END ≡ get_or m.bucket_of x END
  bucket_other x other = ap (λ (s : Store). get_or s.bucket_of x END) take.taken ∙ get_or-set_other m.bucket_of n x (bucket w) END other

  buckets : length t.chains ≡ length m.chains
  buckets = ap (λ (s : Store). length s.chains) take.taken ∙ length-set m.chains (bucket w) (n ∷ chain_at m (bucket w))

  not_live : IsLive m n → ⊥
  not_live live = omega (arith, live, take.free, was.orderly.fits.few_buckets)

  apart : (x : ℕ) → IsLive m x → x ≢ n
  apart x live = λ same. not_live (subst (IsLive m) same live)

  -- a node that was live is as it was
  same : (x : ℕ) → IsLive m x → IsSame m t x
  same x live =
      let other = apart x live in
      record {
        bucket_of = bucket_other x other;
        word = ap (λ (s : Store). node_word s x) take.taken ∙ get_or-set_other m.words n x w 0 other;
        slot = ap (λ (s : Store). get_or s.slots x 0) take.taken ∙ get_or-set_other m.slots n x slot 0 other;
        pos = ap (λ (s : Store). get_or s.positions x 0) take.taken ∙ get_or-set_other m.positions n x from 0 other;
        song = take.songs x live;
      }

  still_live : (x : ℕ) → IsLive m x → IsLive t x
  still_live x live = omega (arith, live, bucket_other x (apart x live), buckets)

  live_before : (x : ℕ) → x ≢ n → IsLive t x → IsLive m x
  live_before x other live = omega (arith, live, bucket_other x other, buckets)

  in_song : (x : ℕ) → Has x (song_at m head) → IsLive m x
  in_song x has = live_in_song m head x was.orderly was.begins has

  same_in_song : (x : ℕ) → Has x (song_at m head) → IsSame m t x
  same_in_song x has = same x (in_song x has)

  split : (x : ℕ) → Has x (song_at t n) → (x ≡ n) ⊎ Has x (song_at m head)
  split x has = subst (Has x) take.song has

  -- a song that was there begins elsewhere
  head_other : (x : ℕ) → IsHead old x → x ≢ head
  head_other x is = λ same. was.fresh (subst (IsLive old) same is.live)

  pub one_longer : IsLonger bucket slot from old t (w ∷ words) n
  one_longer = record {
    orderly = take.orderly;
    begins = inr take.head;
    fresh = λ live. not_live (was.stays n live).0;
    words_are = ap (map (node_word t)) take.song
        ∙ (λ i. word_here i ∷ (words_same m t (song_at m head) same_in_song ∙ was.words_are) i);
    written = subst (AreWritten t slot from) (sym take.song)
        (slot_here, pos_here, written_same m t slot (suc from) (song_at m head) same_in_song was.written);
    bucketed = λ x has. elim (split x has) [
      | inl here ↦ ap (λ i. get_or t.bucket_of i END) here ∙ bucket_here ∙ ap bucket (sym word_here) ∙ ap (λ i. bucket (node_word t i)) (sym here)
      | inr later ↦
          let is = same_in_song x later in
          is.bucket_of ∙ was.bucketed x later ∙ ap bucket (sym is.word)
    ];
    live = λ x live. elim (cases_eq x n) [
      | inl here ↦ inr (subst (Has x) (sym take.song) (inl here))
      | inr other ↦ elim (was.live x (live_before x other live)) [
        | inl before ↦ inl before
        | inr has ↦ inr (subst (Has x) (sym take.song) (inr has))
      ]
    ];
    stays = λ x live.
        let before = was.stays x live in
        let now = same x before.0 in (
          still_live x before.0,
          record {
            bucket_of = now.bucket_of ∙ before.1.bucket_of;
            word = now.word ∙ before.1.word;
            slot = now.slot ∙ before.1.slot;
            pos = now.pos ∙ before.1.pos;
            song = now.song ∙ before.1.song;
          },
        );
    heads = λ x is. take.heads x (was.heads x is) (head_other x is);
    chains = λ value. chain_longer value;
    spare = omega (arith, ap (λ (s : Store). s.spare) take.taken, was.spare, some);
    nodes = ap (λ (s : Store). length s.behind) take.taken ∙ length-set m.behind n head ∙ was.nodes;
    buckets = buckets ∙ was.buckets;
  } where
    chain_longer : (value : ℕ) → length (chain_at t value) ≡ length (chain_at old value) + count_by (λ x. bucket x == value) (w ∷ words)
    chain_longer value =
        let counted = sum_by-cons (λ x. cond (bucket x == value) 1 0) w words in
        let seen : chain_at t value ≡ get_or (set m.chains (bucket w) (n ∷ chain_at m (bucket w))) value [] = ap (λ (s : Store). chain_at s value) take.taken in
        elim (cases_eq value (bucket w)) [
          | inl here ↦
              let one : ◌≡◌ {A = ℕ} (cond (bucket w == value) 1 0) 1 = ap (λ b. cond b 1 0) (eq-eqb (bucket w) value (sym here)) in
              let longer : chain_at t value ≡ n ∷ chain_at m value =
              seen ∙ ap (λ v. get_or (set m.chains (bucket w) (n ∷ chain_at m (bucket w))) v []) here
              ∙ get_or-set_same m.chains (bucket w) (n ∷ chain_at m (bucket w)) [] low ∙ ap (λ v. n ∷ chain_at m v) (sym here) in
              omega (arith, ap length longer, was.chains value, counted, one)
          | inr other ↦
              let none : ◌≡◌ {A = ℕ} (cond (bucket w == value) 1 0) 0 = ap (λ b. cond b 1 0) (ne_eqb (bucket w) value (λ is. other (sym is))) in
              let stays : chain_at t value ≡ chain_at m value =
              seen ∙ get_or-set_other m.chains (bucket w) value (n ∷ chain_at m (bucket w)) [] other in
              omega (arith, ap length stays, was.chains value, counted, none)
        ]
