-- In which bucket each node stands, once a node came into a chain or went.
use Rattle.std.proofs.Common.{◌≡◌, ◌≢◌, ◌<◌, ◌+◌, ℕ, zero, suc, List, [], ◌∷◌, length, map, set, get_or, replicate, nat_eq, cond, true, false, refl, ap, sym, ◌∙◌, arith, inl, inr, get_or-set_same, get_or-set_other}
use Rattle.std.proofs.lemmas.Bool.{cases_eq, eq-eqb, ne_eqb}
use Rattle.std.proofs.lemmas.List.{length-set, length-replicate, get_or-replicate, same_lists}
use Rattle.std.proofs.lemmas.List.FromFn.{length-map-range_with_len, get_or-map-range_with_len}
use Rattle.hk_nodes.specs.Chains.{END, Lacks, is_in, without, bucket_from, buckets_in}

pub length-buckets_in : (nodes : ℕ) (chains : List (List ℕ)) → length (buckets_in nodes chains) ≡ nodes
length-buckets_in nodes chains = length-map-range_with_len (bucket_from 0 chains) 0 nodes

bucket_is : (nodes x d : ℕ) (chains : List (List ℕ)) → x < nodes → get_or (buckets_in nodes chains) x d ≡ bucket_from 0 chains x
bucket_is nodes x d chains low = get_or-map-range_with_len (bucket_from 0 chains) 0 nodes x x d low (omega arith)

lacks_none : (x : ℕ) (xs : List ℕ) → Lacks x xs → is_in x xs ≡ false
lacks_none x [] lacks = refl
lacks_none x (y ∷ ys) lacks = ap (λ b. cond b true (is_in x ys)) (ne_eqb x y lacks.0) ∙ lacks_none x ys lacks.1

in_front : (x n : ℕ) (xs : List ℕ) → x ≢ n → is_in x (n ∷ xs) ≡ is_in x xs
in_front x n xs other = ap (λ b. cond b true (is_in x xs)) (ne_eqb x n other)

here : (n : ℕ) (xs : List ℕ) → is_in n (n ∷ xs) ≡ true
here n xs = ap (λ b. cond b true (is_in n xs)) (eq-eqb n n refl)

-- a node that none of the chains has
pub from_none : (at x : ℕ) (chains : List (List ℕ)) → ((b : ℕ) → Lacks x (get_or chains b [])) → bucket_from at chains x ≡ END
unfolding bucket_from
from_none at x [] lacks = refl
from_none at x (c ∷ cs) lacks =
    ap (λ b. cond b at (bucket_from (suc at) cs x)) (lacks_none x c (lacks 0)) ∙ from_none (suc at) x cs (λ b. lacks (suc b))

-- the bucket of a node that was put in front of its chain
from_here : (at n b : ℕ) (chains : List (List ℕ)) → b < length chains → ((x : ℕ) → Lacks n (get_or chains x []))
    → bucket_from at (set chains b (n ∷ get_or chains b [])) n ≡ at + b
unfolding bucket_from
from_here at n b [] low lacks = absurd (omega (arith, low))
from_here at n zero (c ∷ cs) low lacks = ap (λ i. cond i at (bucket_from (suc at) cs n)) (here n c) ∙ omega arith
from_here at n (suc b) (c ∷ cs) low lacks =
    ap (λ i. cond i at (bucket_from (suc at) (set cs b (n ∷ get_or cs b [])) n)) (lacks_none n c (lacks 0))
    ∙ from_here (suc at) n b cs (omega (arith, low)) (λ x. lacks (suc x)) ∙ omega arith

-- all other nodes stay where they were
from_other : (at n b x : ℕ) (chains : List (List ℕ)) → x ≢ n → bucket_from at (set chains b (n ∷ get_or chains b [])) x ≡ bucket_from at chains x
unfolding bucket_from
from_other at n b x [] other = refl
from_other at n zero x (c ∷ cs) other = ap (λ i. cond i at (bucket_from (suc at) cs x)) (in_front x n c other)
from_other at n (suc b) x (c ∷ cs) other = ap (λ l. cond (is_in x c) at l) (from_other (suc at) n b x cs other)

pub buckets_with : (nodes n b : ℕ) (chains : List (List ℕ)) → b < length chains → ((x : ℕ) → Lacks n (get_or chains x []))
    → buckets_in nodes (set chains b (n ∷ get_or chains b [])) ≡ set (buckets_in nodes chains) n b
buckets_with nodes n b chains low lacks =
    let new : List (List ℕ) = set chains b (n ∷ get_or chains b []) in
    let old_len : length (buckets_in nodes chains) ≡ nodes = length-buckets_in nodes chains in
    let new_len : length (buckets_in nodes new) ≡ nodes = length-buckets_in nodes new in
    same_lists (buckets_in nodes new) (set (buckets_in nodes chains) n b) (new_len ∙ sym (length-set (buckets_in nodes chains) n b ∙ old_len)) (λ k d inside.
    let k_low : k < nodes = omega (arith, inside, new_len) in
    bucket_is nodes k d new k_low ∙ elim (cases_eq k n) [
      | inl same ↦
          let is : bucket_from 0 new n ≡ b = omega (arith, from_here 0 n b chains low lacks) in
          ap (bucket_from 0 new) same ∙ is
          ∙ sym (ap (λ i. get_or (set (buckets_in nodes chains) n b) i d) same ∙ get_or-set_same (buckets_in nodes chains) n b d (omega (arith, k_low, same, old_len)))
      | inr other ↦
          from_other 0 n b k chains other
          ∙ sym (get_or-set_other (buckets_in nodes chains) n k b d other ∙ bucket_is nodes k d chains k_low)
    ])

-- a node that went
lacks_without : (n : ℕ) (xs : List ℕ) → is_in n (without (n ∷ []) xs) ≡ false
lacks_without n [] = refl
lacks_without n (x ∷ xs) = elim (cases_eq x n) [
  | inl same ↦ ap (λ b. is_in n (cond (cond b true false) (without (n ∷ []) xs) (x ∷ without (n ∷ []) xs))) (eq-eqb x n same) ∙ lacks_without n xs
  | inr other ↦
      ap (λ b. is_in n (cond (cond b true false) (without (n ∷ []) xs) (x ∷ without (n ∷ []) xs))) (ne_eqb x n other)
      ∙ in_front n x (without (n ∷ []) xs) (λ same. other (sym same)) ∙ lacks_without n xs
]

in_without : (n y : ℕ) (xs : List ℕ) → y ≢ n → is_in y (without (n ∷ []) xs) ≡ is_in y xs
in_without n y [] other = refl
in_without n y (x ∷ xs) other = elim (cases_eq x n) [
  | inl same ↦
      ap (λ b. is_in y (cond (cond b true false) (without (n ∷ []) xs) (x ∷ without (n ∷ []) xs))) (eq-eqb x n same)
      ∙ in_without n y xs other ∙ sym (in_front y x xs (λ is. other (is ∙ same)))
  | inr away ↦
      ap (λ b. is_in y (cond (cond b true false) (without (n ∷ []) xs) (x ∷ without (n ∷ []) xs))) (ne_eqb x n away)
      ∙ ap (λ i. cond (nat_eq y x) true i) (in_without n y xs other)
]

from_gone : (at n : ℕ) (chains : List (List ℕ)) → bucket_from at (map (without (n ∷ [])) chains) n ≡ END
unfolding bucket_from
from_gone at n [] = refl
from_gone at n (c ∷ cs) =
    ap (λ b. cond b at (bucket_from (suc at) (map (without (n ∷ [])) cs) n)) (lacks_without n c) ∙ from_gone (suc at) n cs

from_left : (at n x : ℕ) (chains : List (List ℕ)) → x ≢ n → bucket_from at (map (without (n ∷ [])) chains) x ≡ bucket_from at chains x
unfolding bucket_from
from_left at n x [] other = refl
from_left at n x (c ∷ cs) other =
    ap (λ b. cond b at (bucket_from (suc at) (map (without (n ∷ [])) cs) x)) (in_without n x c other)
    ∙ ap (λ l. cond (is_in x c) at l) (from_left (suc at) n x cs other)

pub buckets_without : (nodes n : ℕ) (chains : List (List ℕ)) → buckets_in nodes (map (without (n ∷ [])) chains) ≡ set (buckets_in nodes chains) n END
buckets_without nodes n chains =
    let new : List (List ℕ) = map (without (n ∷ [])) chains in
    let old_len : length (buckets_in nodes chains) ≡ nodes = length-buckets_in nodes chains in
    let new_len : length (buckets_in nodes new) ≡ nodes = length-buckets_in nodes new in
    same_lists (buckets_in nodes new) (set (buckets_in nodes chains) n END) (new_len ∙ sym (length-set (buckets_in nodes chains) n END ∙ old_len)) (λ k d inside.
    let k_low : k < nodes = omega (arith, inside, new_len) in
    bucket_is nodes k d new k_low ∙ elim (cases_eq k n) [
      | inl same ↦
          ap (bucket_from 0 new) same ∙ from_gone 0 n chains
          ∙ sym (ap (λ i. get_or (set (buckets_in nodes chains) n END) i d) same ∙ get_or-set_same (buckets_in nodes chains) n END d (omega (arith, k_low, same, old_len)))
      | inr other ↦
          from_left 0 n k chains other
          ∙ sym (get_or-set_other (buckets_in nodes chains) n k END d other ∙ bucket_is nodes k d chains k_low)
    ])

-- all nodes are free where all chains are empty
pub buckets_empty : (nodes : ℕ) (chains : List (List ℕ)) → ((b x : ℕ) → Lacks x (get_or chains b [])) → buckets_in nodes chains ≡ replicate nodes END
buckets_empty nodes chains lacks =
    let len : length (buckets_in nodes chains) ≡ nodes = length-buckets_in nodes chains in
    same_lists (buckets_in nodes chains) (replicate nodes END) (len ∙ sym (length-replicate nodes END)) (λ k d inside.
    let k_low : k < nodes = omega (arith, inside, len) in
    bucket_is nodes k d chains k_low ∙ from_none 0 k chains (λ b. lacks b k) ∙ sym (get_or-replicate nodes k END d k_low))
