-- A walk through the nodes of a bucket, step by step.
use Rattle.std.proofs.Common.{◌≡◌, ◌≢◌, ◌<◌, ◌⊎◌, ◌+◌, ◌==◌, ℕ, List, [], ◌∷◌, ◌++◌, length, map, filter, get_or, refl, ap, sym, subst, ◌∙◌, arith, inl, inr, cond, append_assoc}
use Rattle.std.proofs.lemmas.Bool.{eq-eqb, ne_eqb}
use Rattle.std.proofs.lemmas.List.{get_or_past}
use Rattle.hk_nodes.specs.Chains.{END, AreOnce, AllHave, first_of}
use Rattle.hk_nodes.specs.Store.{Store, Fits, IsLive, IsOrderly, chain_at}
use Rattle.hk_nodes.proofs.Giving.{lacks_mid}
use Rattle.hk_nodes.proofs.Leaving.{cut_at}
use Rattle.hk_table.specs.Walks.{node_word, place_of, course, from_on, rest_at, IsWalk}
use Rattle.hk_table.specs.declared.place.Place.{Place}
use Rattle.hk_table.specs.declared.walk.Walk.TheInside.{Inside}

from_here : (x : ℕ) (front back : List ℕ) → AreOnce (front ++ x ∷ back) → from_on x (front ++ x ∷ back) ≡ x ∷ back
from_here x [] back once = ap (λ b. cond b (x ∷ back) (from_on x back)) (eq-eqb x x refl)
from_here x (y ∷ ys) back once =
    ap (λ b. cond b (y ∷ ys ++ x ∷ back) (from_on x (ys ++ x ∷ back))) (ne_eqb x y (λ same. lacks_mid y x ys back once.0 (sym same)))
    ∙ from_here x ys back once.1

have_mid : (values : List ℕ) (v y : ℕ) (front back : List ℕ) → AllHave values v (front ++ y ∷ back) → get_or values y END ≡ v
have_mid values v y [] back have = have.0
have_mid values v y (z ∷ zs) back have = have_mid values v y zs back have.1

-- nothing stands behind an end
pub rest_end : (m : Store) → Fits m → rest_at m END ≡ []
rest_end m fits =
    let free : get_or m.bucket_of END END ≡ END = get_or_past m.bucket_of END END (omega (arith, fits.few, fits.same)) in
    let none : chain_at m END ≡ [] = get_or_past m.chains END [] (omega (arith, fits.few_buckets)) in
    ap (from_on END) (ap (chain_at m) free ∙ none)

-- where a node stands in its bucket
pub record Stands (m : Store) (x : ℕ) (front back : List ℕ) : Type 0 where
  pub chain : chain_at m (get_or m.bucket_of x END) ≡ front ++ x ∷ back
  pub rest : rest_at m x ≡ x ∷ back
  pub next : rest_at m (first_of back) ≡ back
  pub live : (first_of back ≡ END) ⊎ IsLive m (first_of back)

next_rest : (m : Store) (bucket x : ℕ) (front back : List ℕ) → IsOrderly m → bucket < length m.chains → chain_at m bucket ≡ front ++ x ∷ back
    → (rest_at m (first_of back) ≡ back) × ((first_of back ≡ END) ⊎ IsLive m (first_of back))
next_rest m bucket x front [] orderly low is = (rest_end m orderly.fits, inl refl)
next_rest m bucket x front (z ∷ zs) orderly low is =
    let split : chain_at m bucket ≡ (front ++ x ∷ []) ++ z ∷ zs = is ∙ sym (append_assoc front (x ∷ []) (z ∷ zs)) in
    let here : get_or m.bucket_of z END ≡ bucket = have_mid m.bucket_of bucket z (front ++ x ∷ []) zs (subst (AllHave m.bucket_of bucket) split (orderly.theirs bucket)) in (
      ap (λ b. from_on z (chain_at m b)) here ∙ ap (from_on z) split ∙ from_here z (front ++ x ∷ []) zs (subst AreOnce split (orderly.once bucket)),
      inr (omega (arith, here, low)),
    )

pub standing : (m : Store) (x : ℕ) → IsOrderly m → IsLive m x → (front : List ℕ) × (back : List ℕ) × Stands m x front back
standing m x orderly live =
    let bucket = get_or m.bucket_of x END in
    let cut = cut_at x (chain_at m bucket) (orderly.there x live) in
    let next = next_rest m bucket x cut.0 cut.1 orderly live cut.2 in (
      cut.0,
      cut.1,
      record {
        chain = cut.2;
        rest = ap (from_on x) cut.2 ∙ from_here x cut.0 cut.1 (subst AreOnce cut.2 (orderly.once bucket));
        next = next.0;
        live = next.1;
      },
    )

-- what a visit of a node leaves of a walk
pub record Visited (m : Store) (word x next : ℕ) : Type 0 where
  pub at : (next ≡ END) ⊎ IsLive m next
  pub nodes : length (rest_at m x) ≡ length (rest_at m next) + 1
  pub hit : node_word m x ≡ word → (course m word (rest_at m x)).places ≡ place_of m x ∷ (course m word (rest_at m next)).places
  pub miss : node_word m x ≢ word → (course m word (rest_at m x)).places ≡ (course m word (rest_at m next)).places

visited : (m : Store) (word x next : ℕ) → IsOrderly m → IsLive m x
    → ((bucket : ℕ) (front back : List ℕ) → chain_at m bucket ≡ front ++ x ∷ back → next ≡ first_of back) → Visited m word x next
visited m word x next orderly live link =
    let stands = standing m x orderly live in
    let front : List ℕ = stands.0 in
    let back : List ℕ = stands.1 in
    let is = stands.2 in
    let here : next ≡ first_of back = link (get_or m.bucket_of x END) front back is.chain in
    let rest : rest_at m next ≡ back = ap (rest_at m) here ∙ is.next in
    let places : List ℕ → List Place = λ xs. (course m word xs).places in
    record {
      at = subst (λ i. (i ≡ END) ⊎ IsLive m i) (sym here) is.live;
      nodes = omega (arith, ap length is.rest, ap length rest);
      hit = λ same. ap places is.rest ∙ ap (λ b. map (place_of m) (cond b (x ∷ filter (λ y. node_word m y == word) back) (filter (λ y. node_word m y == word) back))) (eq-eqb (node_word m x) word same)
          ∙ ap (λ xs. place_of m x ∷ places xs) (sym rest);
      miss = λ other. ap places is.rest ∙ ap (λ b. map (place_of m) (cond b (x ∷ filter (λ y. node_word m y == word) back) (filter (λ y. node_word m y == word) back))) (ne_eqb (node_word m x) word other)
          ∙ ap places (sym rest);
    }

some_at : (m : Store) (at : ℕ) → (at ≡ END) ⊎ IsLive m at → at ≢ END → IsLive m at
some_at m at (inl none) some = absurd (some none)
some_at m at (inr live) some = live

pub step : (w : Inside) (next : ℕ) → IsWalk w → w.at ≢ END
    → ((bucket : ℕ) (front back : List ℕ) → chain_at w.nodes.now bucket ≡ front ++ w.at ∷ back → next ≡ first_of back) → Visited w.nodes.now w.word w.at next
step w next walk some link = visited w.nodes.now w.word w.at next walk.orderly (some_at w.nodes.now w.at walk.at some) link
