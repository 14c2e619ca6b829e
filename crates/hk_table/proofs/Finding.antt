-- The places of a word are those that its bucket's nodes give.
use Rattle.std.proofs.Common.{◌≡◌, ◌≢◌, ◌<◌, ◌⊎◌, ◌+◌, ◌==◌, ℕ, zero, suc, List, [], ◌∷◌, length, map, filter, get_or, refl, ap, sym, subst, ◌∙◌, arith, inl, inr, cond, Bool, Some, None}
use Rattle.std.specs.List.{All, Contains, slice_get}
use Rattle.std.proofs.lemmas.Bool.{cases_eq, cases_lt, eq-eqb, ne_eqb}
use Rattle.std.proofs.lemmas.Option.{slice_get-get_or, slice_get_within, get_or_from_slice_get}
use Rattle.std.proofs.lemmas.List.{length-map, get_or-map, get_or_past}
use Rattle.std.proofs.lemmas.List.Elements.{All-cons}
use Rattle.hk_nodes.specs.Chains as chains
use Rattle.hk_nodes.specs.Chains.{END, Has, Lacks, AllHave}
use Rattle.hk_nodes.specs.Store.{Store, IsLive, IsHead, chain_at, song_at}
use Rattle.hk_table.specs.Index.{Index, words_in, slot_at, StandsAt, AreOnce, ArePlaces}
use Rattle.hk_table.specs.Walks.{node_word, place_of}
use Rattle.hk_table.specs.Songs.{AreWritten, HoldSongs, slots_in, slot_in, words_from}
use Rattle.hk_table.specs.declared.place.Place.{Place}
use Rattle.hk_table.proofs.Adding.{song_end, live_in_song}
use Rattle.hk_table.proofs.Holding.{slot_none, slot_some, slot_at_head, head_not_end}

-- a node of a song stands at its position
written_at : (m : Store) (slot pos x : ℕ) (xs : List ℕ) → AreWritten m slot pos xs → Has x xs
    → (k : ℕ) × (k < length xs) × (get_or m.positions x 0 ≡ pos + k) × (get_or xs k END ≡ x)
written_at m slot pos x [] written has = absurd has
written_at m slot pos x (y ∷ ys) written (inl same) = (zero, omega arith, omega (arith, ap (λ i. get_or m.positions i 0) same, written.1), sym same)
written_at m slot pos x (y ∷ ys) written (inr later) =
    let rest = written_at m slot (suc pos) x ys written.2 later in
    (suc rest.0, omega (arith, rest.1), omega (arith, rest.2), rest.3)

-- and what stands at a position has it
at_written : (m : Store) (slot pos k : ℕ) (xs : List ℕ) → AreWritten m slot pos xs → k < length xs
    → Has (get_or xs k END) xs × (get_or m.slots (get_or xs k END) 0 ≡ slot) × (get_or m.positions (get_or xs k END) 0 ≡ pos + k)
at_written m slot pos k [] written low = absurd (omega (arith, low))
at_written m slot pos zero (x ∷ xs) written low = (inl refl, written.0, omega (arith, written.1))
at_written m slot pos (suc k) (x ∷ xs) written low =
    let rest = at_written m slot (suc pos) k xs written.2 (omega (arith, low)) in
    (inr rest.0, rest.1, omega (arith, rest.2))

module _ (bucket : ℕ → ℕ) (m : Store) (heads : List ℕ) (positions word : ℕ) (hold : HoldSongs bucket m heads) where
  abbrev index : Index
  index = record { slots = slots_in m heads; positions = positions }

  abbrev hits : ℕ → Bool
  hits x = node_word m x == word

  abbrev found : List ℕ → List Place
  found xs = map (place_of m) (filter hits xs)

  -- a live node's song, and the song's positions
  song_is : (x : ℕ) → IsLive m x → IsHead m (get_or heads (get_or m.slots x 0) END) × AreWritten m (get_or m.slots x 0) 0 (song_at m (get_or heads (get_or m.slots x 0) END))
  song_is x live =
      let own = hold.owned x live in
      elim (hold.songs (get_or m.slots x 0) own.slot) [
        | inl none ↦ absurd (subst (Has x) (ap (song_at m) none ∙ song_end m hold.orderly) own.song)
        | inr is ↦ is
      ]

  place_in : (x : ℕ) → IsLive m x → (get_or m.positions x 0 < length (song_at m (get_or heads (get_or m.slots x 0) END)))
      × (get_or (song_at m (get_or heads (get_or m.slots x 0) END)) (get_or m.positions x 0) END ≡ x)
  place_in x live =
      let at = written_at m (get_or m.slots x 0) 0 x (song_at m (get_or heads (get_or m.slots x 0) END)) (song_is x live).1 (hold.owned x live).song in
      let is : get_or m.positions x 0 ≡ at.0 = omega (arith, at.2) in
      (omega (arith, is, at.1), ap (λ k. get_or (song_at m (get_or heads (get_or m.slots x 0) END)) k END) is ∙ at.3)

  -- two live nodes with one place are one
  one_place : (x y : ℕ) → IsLive m x → IsLive m y → place_of m x ≡ place_of m y → x ≡ y
  one_place x y live_x live_y same =
      sym (place_in x live_x).1
      ∙ ap (λ (p : Place). get_or (song_at m (get_or heads p.slot END)) p.pos END) same
      ∙ (place_in y live_y).1

  kept_hit : (x : ℕ) (xs : List ℕ) → node_word m x ≡ word → found (x ∷ xs) ≡ place_of m x ∷ found xs
  kept_hit x xs is = ap (λ b. map (place_of m) (cond b (x ∷ filter hits xs) (filter hits xs))) (eq-eqb (node_word m x) word is)

  kept_miss : (x : ℕ) (xs : List ℕ) → node_word m x ≢ word → found (x ∷ xs) ≡ found xs
  kept_miss x xs other = ap (λ b. map (place_of m) (cond b (x ∷ filter hits xs) (filter hits xs))) (ne_eqb (node_word m x) word other)

  tells : (x : ℕ) → (node_word m x ≡ word) ⊎ (node_word m x ≢ word)
  tells x = cases_eq (node_word m x) word

  others_away : (x : ℕ) (xs : List ℕ) → IsLive m x → ((y : ℕ) → Has y xs → IsLive m y) → Lacks x xs → All (λ p. place_of m x ≢ p) (found xs)
  others_away x [] live_x live lacks = λ k d low. absurd (omega (arith, low))
  others_away x (y ∷ ys) live_x live lacks =
      let rest = others_away x ys live_x (λ z has. live z (inr has)) lacks.1 in
      elim (tells y) [
        | inl is ↦
            subst (All (λ p. place_of m x ≢ p)) (sym (kept_hit y ys is))
            (All-cons (λ p. place_of m x ≢ p) (place_of m y) (found ys) (λ same. lacks.0 (one_place x y live_x (live y (inl refl)) same)) rest)
        | inr other ↦ subst (All (λ p. place_of m x ≢ p)) (sym (kept_miss y ys other)) rest
      ]

  found_once : (xs : List ℕ) → ((y : ℕ) → Has y xs → IsLive m y) → chains.AreOnce xs → AreOnce (found xs)
  found_once [] live once = tt
  found_once (x ∷ xs) live once =
      let rest = found_once xs (λ z has. live z (inr has)) once.1 in
      elim (tells x) [
        | inl is ↦
            subst AreOnce (sym (kept_hit x xs is))
            (others_away x xs (live x (inl refl)) (λ z has. live z (inr has)) once.0, rest)
        | inr other ↦ subst AreOnce (sym (kept_miss x xs other)) rest
      ]

  -- a live node's word stands at its place
  stands : (x : ℕ) → IsLive m x → node_word m x ≡ word → StandsAt index word (place_of m x)
  stands x live is =
      let slot = get_or m.slots x 0 in
      let head = get_or heads slot END in
      let pos = get_or m.positions x 0 in
      let own = hold.owned x live in
      let place = place_in x live in
      let some : head ≢ END = λ none. subst (Has x) (ap (song_at m) none ∙ song_end m hold.orderly) own.song in
      let words : words_in (slot_at index slot) ≡ words_from m head = ap words_in (slot_at_head m heads slot own.slot ∙ slot_some m head some) in
      ap (λ ws. slice_get ws pos) words
      ∙ slice_get-get_or (words_from m head) pos (node_word m END) (omega (arith, place.0, length-map (song_at m head) (node_word m)))
      ∙ ap (λ w. Some w) (get_or-map (node_word m) (song_at m head) pos END (node_word m END) place.0 ∙ ap (node_word m) place.1 ∙ is)

  found_stand : (xs : List ℕ) → ((y : ℕ) → Has y xs → IsLive m y) → All (StandsAt index word) (found xs)
  found_stand [] live = λ k d low. absurd (omega (arith, low))
  found_stand (x ∷ xs) live =
      let rest = found_stand xs (λ z has. live z (inr has)) in
      elim (tells x) [
        | inl is ↦ subst (All (StandsAt index word)) (sym (kept_hit x xs is)) (All-cons (StandsAt index word) (place_of m x) (found xs) (stands x (live x (inl refl)) is) rest)
        | inr other ↦ subst (All (StandsAt index word)) (sym (kept_miss x xs other)) rest
      ]

  is_found : (x : ℕ) (xs : List ℕ) → Has x xs → node_word m x ≡ word → Contains (found xs) (place_of m x)
  is_found x [] has is = absurd has
  is_found x (y ∷ ys) (inl same) is =
      subst (λ ps. Contains ps (place_of m x)) (sym (kept_hit y ys (ap (node_word m) (sym same) ∙ is))) (zero, omega arith, ap (place_of m) (sym same))
  is_found x (y ∷ ys) (inr later) is =
      let rest = is_found x ys later is in
      elim (tells y) [
        | inl here ↦ subst (λ ps. Contains ps (place_of m x)) (sym (kept_hit y ys here)) (suc rest.0, omega (arith, rest.1), rest.2)
        | inr other ↦ subst (λ ps. Contains ps (place_of m x)) (sym (kept_miss y ys other)) rest
      ]

has_value : (values : List ℕ) (value x : ℕ) (xs : List ℕ) → AllHave values value xs → Has x xs → get_or values x END ≡ value
has_value values value x [] have has = absurd has
has_value values value x (y ∷ ys) have (inl same) = ap (λ i. get_or values i END) same ∙ have.0
has_value values value x (y ∷ ys) have (inr later) = has_value values value x ys have.1 later

module _ (bucket : ℕ → ℕ) (m : Store) (heads : List ℕ) (positions word : ℕ) (hold : HoldSongs bucket m heads) (low : bucket word < length m.chains) where
  abbrev chain : List ℕ
  chain = chain_at m (bucket word)

  live_chain : (x : ℕ) → Has x chain → IsLive m x
  live_chain x has = omega (arith, low, has_value m.bucket_of (bucket word) x chain (hold.orderly.theirs (bucket word)) has)

  abbrev all_found : List Place
  all_found = map (place_of m) (filter (λ x. node_word m x == word) chain)

  -- a place of a slot's song
  in_song : (slot pos : ℕ) → slot < length heads → IsHead m (get_or heads slot END) → AreWritten m slot 0 (song_at m (get_or heads slot END))
      → slice_get (words_from m (get_or heads slot END)) pos ≡ Some word → Contains all_found (record { slot = slot; pos = pos })
  in_song slot pos inside is written there =
      let head = get_or heads slot END in
      let song = song_at m head in
      let short : pos < length song = omega (arith, slice_get_within (words_from m head) pos word there, length-map song (node_word m)) in
      let x = get_or song pos END in
      let at = at_written m slot 0 pos song written short in
      let live : IsLive m x = live_in_song m head x hold.orderly (inr is) at.0 in
      let has_word : node_word m x ≡ word =
      sym (get_or-map (node_word m) song pos END (node_word m END) short) ∙ get_or_from_slice_get (words_from m head) pos word (node_word m END) there in
      let listed : Has x chain =
      subst (λ b. Has x (chain_at m b)) ((hold.owned x live).bucketed ∙ ap bucket has_word) (hold.orderly.there x live) in
      let place : place_of m x ≡ record { slot = slot; pos = pos } = let here : get_or m.positions x 0 ≡ pos = omega (arith, at.2) in λ i. record { slot = at.1 i; pos = here i } in
      subst (Contains all_found) place (is_found bucket m heads positions word hold x chain listed has_word)

  no_words : (slot pos : ℕ) → words_in (get_or (slots_in m heads) slot None) ≡ [] → slice_get (words_in (get_or (slots_in m heads) slot None)) pos ≡ Some word → ⊥
  no_words slot pos none there =
      let short = slice_get_within (words_in (get_or (slots_in m heads) slot None)) pos word there in
      omega (arith, short, ap length none)

  all_places : (place : Place) → StandsAt (record { slots = slots_in m heads; positions = positions }) word place → Contains all_found place
  all_places place there = elim (cases_lt place.slot (length heads)) [
    | inl inside ↦ elim (hold.songs place.slot inside) [
      | inl none ↦
          absurd (no_words place.slot place.pos (ap words_in (slot_at_head m heads place.slot inside ∙ slot_none m (get_or heads place.slot END) none)) there)
      | inr is ↦
          let some = head_not_end m (get_or heads place.slot END) hold.orderly is.0 in
          let words = ap words_in (slot_at_head m heads place.slot inside ∙ slot_some m (get_or heads place.slot END) some) in
          in_song place.slot place.pos inside is.0 is.1 (sym (ap (λ ws. slice_get ws place.pos) words) ∙ there)
    ]
    | inr past ↦
        absurd (no_words place.slot place.pos (ap words_in (get_or_past (slots_in m heads) place.slot None (omega (arith, past, length-map heads (slot_in m))))) there)
  ]

  pub are_places : ArePlaces (record { slots = slots_in m heads; positions = positions }) word all_found
  are_places = record {
    once = found_once bucket m heads positions word hold chain live_chain (hold.orderly.once (bucket word));
    there = found_stand bucket m heads positions word hold chain live_chain;
    all = all_places;
  }
