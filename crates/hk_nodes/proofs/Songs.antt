-- A store without a song: which nodes are live, where the other songs begin, and how long the chains are.
use Rattle.std.proofs.Common.{◌≡◌, ◌<◌, ◌+◌, ◌⊎◌, ◌==◌, ℕ, List, [], ◌∷◌, length, map, set, get_or, refl, ap, sym, subst, ◌∙◌, arith, inl, inr, cond, get_or-set_same, get_or-set_other}
use Rattle.std.specs.List.{count_by}
use Rattle.std.proofs.lemmas.Bool.{cases_eq, cases_lt, eq-eqb, ne_eqb}
use Rattle.std.proofs.lemmas.List.{length-map, length-set, get_or_past}
use Rattle.std.proofs.lemmas.List.Sums.{sum_by-cons}
use Rattle.hk_nodes.specs.Chains.{END, Lacks, AreOnce, Has, AllHave, without}
use Rattle.hk_nodes.specs.Store.{Store, IsLive, freed, without_song}
use Rattle.hk_nodes.proofs.Walks.{lacks_value, lacks_has}
use Rattle.hk_nodes.proofs.Giving.{gone_here, stays_here, without_lacks, without_more, without_none, once_less, has_less}

pub lacks_or_has : (x : ℕ) (xs : List ℕ) → Lacks x xs ⊎ Has x xs
lacks_or_has x [] = inl tt
lacks_or_has x (y ∷ ys) = elim (cases_eq x y) [
  | inl same ↦ inr (inl same)
  | inr other ↦ elim (lacks_or_has x ys) [
    | inl lacks ↦ inl (other, lacks)
    | inr has ↦ inr (inr has)
  ]
]

pub freed_other : (x : ℕ) (song bucket_of : List ℕ) → Lacks x song → get_or (freed song bucket_of) x END ≡ get_or bucket_of x END
freed_other x [] bucket_of lacks = refl
freed_other x (y ∷ ys) bucket_of lacks = freed_other x ys (set bucket_of y END) lacks.1 ∙ get_or-set_other bucket_of y x END END lacks.0

set_free : (y : ℕ) (bucket_of : List ℕ) → get_or (set bucket_of y END) y END ≡ END
set_free y bucket_of = elim (cases_lt y (length bucket_of)) [
  | inl low ↦ get_or-set_same bucket_of y END END low
  | inr high ↦ get_or_past (set bucket_of y END) y END (omega (arith, high, length-set bucket_of y END))
]

more_free : (x y : ℕ) (bucket_of : List ℕ) → get_or bucket_of x END ≡ END → get_or (set bucket_of y END) x END ≡ END
more_free x y bucket_of free = elim (cases_eq x y) [
  | inl same ↦ ap (λ i. get_or (set bucket_of y END) i END) same ∙ set_free y bucket_of
  | inr other ↦ get_or-set_other bucket_of y x END END other ∙ free
]

stays_free : (x : ℕ) (song bucket_of : List ℕ) → get_or bucket_of x END ≡ END → get_or (freed song bucket_of) x END ≡ END
stays_free x [] bucket_of free = free
stays_free x (y ∷ ys) bucket_of free = stays_free x ys (set bucket_of y END) (more_free x y bucket_of free)

freed_here : (x : ℕ) (song bucket_of : List ℕ) → Has x song → get_or (freed song bucket_of) x END ≡ END
freed_here x [] bucket_of has = absurd has
freed_here x (y ∷ ys) bucket_of (inl same) =
    stays_free x ys (set bucket_of y END) (ap (λ i. get_or (set bucket_of y END) i END) same ∙ set_free y bucket_of)
freed_here x (y ∷ ys) bucket_of (inr later) = freed_here x ys (set bucket_of y END) later

module _ (m : Store) (song : List ℕ) (few : length m.chains < END) where
  chains_len : length (map (without song) m.chains) ≡ length m.chains
  chains_len = length-map m.chains (without song)

  -- the nodes that are still live are those that were and that the song lacks
  pub live_was : (x : ℕ) → IsLive (without_song m song) x → IsLive m x × Lacks x song
  live_was x live = elim (lacks_or_has x song) [
    | inl lacks ↦ (omega (arith, live, freed_other x song m.bucket_of lacks, chains_len), lacks)
    | inr has ↦ absurd (omega (arith, live, freed_here x song m.bucket_of has, chains_len, few))
  ]

  pub live_still : (x : ℕ) → IsLive m x → Lacks x song → IsLive (without_song m song) x
  live_still x live lacks = omega (arith, live, freed_other x song m.bucket_of lacks, chains_len)

have_less : (values : List ℕ) (value x : ℕ) (xs : List ℕ) → AllHave values value xs → AllHave values value (without (x ∷ []) xs)
have_less values value x [] have = tt
have_less values value x (y ∷ ys) have = elim (cases_eq y x) [
  | inl same ↦ subst (AllHave values value) (sym (gone_here x y ys same)) (have_less values value x ys have.1)
  | inr other ↦ subst (AllHave values value) (sym (stays_here x y ys other)) (have.0, have_less values value x ys have.1)
]

-- how many nodes of a list have a value
abbrev pub count_in : List ℕ → ℕ → List ℕ → ℕ
count_in values value nodes = count_by (λ x. get_or values x END == value) nodes

length_cut : (x : ℕ) (xs : List ℕ) → AreOnce xs → Has x xs → length (without (x ∷ []) xs) + 1 ≡ length xs
length_cut x [] once has = absurd has
length_cut x (y ∷ ys) once (inl same) =
    let gone : without (x ∷ []) (y ∷ ys) ≡ ys =
    gone_here x y ys (sym same) ∙ without_lacks x ys (subst (λ i. Lacks i ys) (sym same) once.0) in
    omega (arith, ap length gone)
length_cut x (y ∷ ys) once (inr later) =
    let stays : without (x ∷ []) (y ∷ ys) ≡ y ∷ without (x ∷ []) ys =
    stays_here x y ys (λ same. lacks_has y ys once.0 (subst (λ i. Has i ys) (sym same) later)) in
    omega (arith, ap length stays, length_cut x ys once.1 later)

-- A chain is shorter by the nodes of the song that stand in it.
pub length_without : (values : List ℕ) (value : ℕ) (song chain : List ℕ) → AreOnce song → AreOnce chain → AllHave values value chain
    → ((x : ℕ) → Has x song → get_or values x END ≡ value → Has x chain) → length (without song chain) + count_in values value song ≡ length chain
length_without values value [] chain once_song once theirs there = omega (arith, ap length (without_none chain))
length_without values value (x ∷ xs) chain once_song once theirs there =
    let less : List ℕ = without (x ∷ []) chain in
    let rest = length_without values value xs less once_song.1 (once_less x chain once) (have_less values value x chain theirs)
    (λ y has is. has_less x y chain (λ same. lacks_has x xs once_song.0 (subst (λ i. Has i xs) same has)) (there y (inr has) is)) in
    let more : without xs less ≡ without (x ∷ xs) chain = without_more x xs chain in
    let counted = sum_by-cons (λ y. cond (get_or values y END == value) 1 0) x xs in
    elim (cases_eq (get_or values x END) value) [
      | inl here ↦
          let one : ◌≡◌ {A = ℕ} (cond (get_or values x END == value) 1 0) 1 = ap (λ b. cond b 1 0) (eq-eqb (get_or values x END) value here) in
          omega (arith, rest, ap length more, counted, one, length_cut x chain once (there x (inl refl) here))
      | inr other ↦
          let none : ◌≡◌ {A = ℕ} (cond (get_or values x END == value) 1 0) 0 = ap (λ b. cond b 1 0) (ne_eqb (get_or values x END) value other) in
          omega (arith, rest, ap length more, counted, none, ap length (without_lacks x chain (lacks_value values value x chain other theirs)))
    ]
