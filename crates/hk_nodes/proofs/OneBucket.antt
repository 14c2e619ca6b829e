-- The chain of one bucket changes, and those of the others stay linked as they were.
use Rattle.std.proofs.Common.{◌≡◌, ◌≢◌, ◌<◌, ◌+◌, ℕ, List, [], length, get_or, sym, subst, ◌∙◌, arith, inl, inr}
use Rattle.std.proofs.lemmas.Bool.{cases_eq}
use Rattle.std.proofs.lemmas.List.{length-map, get_or-map}
use Rattle.hk_nodes.specs.Chains.{END, FIRST_BUCKET, IsChain, AreOnce, nodes_from}
use Rattle.hk_nodes.specs.Store.{chain_at}
use Rattle.hk_nodes.specs.Inside.{chains_of, as_store, IsKept}
use Rattle.hk_nodes.specs.declared.nodes.Nodes.TheInside.{Inside}
use Rattle.hk_nodes.proofs.Walks.{path_of, nodes_are}

pub at_bucket : (next heads : List ℕ) (x : ℕ) → x < length heads → get_or (chains_of next heads) x [] ≡ nodes_from next (get_or heads x 0)
at_bucket next heads x low = get_or-map (nodes_from next) heads x 0 [] low

-- what is known of the bucket's new chain, and of the others
pub record Changed (s t : Inside) (b : ℕ) (here : List ℕ) : Type 0 where
  pub few : length t.next.items < END
  pub heads_len : length t.heads.items ≡ length s.heads.items
  pub bucket : b < length s.heads.items
  pub linked_here : IsChain t.heads.items t.next.items t.prev.items b here
  pub once_here : AreOnce here
  pub linked_other : (x : ℕ) → x < length s.heads.items → x ≢ b → IsChain t.heads.items t.next.items t.prev.items x (chain_at (as_store s) x)

pub chains_len : (s : Inside) → length (as_store s).chains ≡ length s.heads.items
chains_len s = length-map s.heads.items (nodes_from s.next.items)

module _ (s t : Inside) (b : ℕ) (here : List ℕ) (kept : IsKept s) (changed : Changed s t b here) where
  pub new_len : length (as_store t).chains ≡ length s.heads.items
  new_len = chains_len t ∙ changed.heads_len

  chain_is : (x : ℕ) (nodes : List ℕ) → x < length s.heads.items → AreOnce nodes → IsChain t.heads.items t.next.items t.prev.items x nodes → chain_at (as_store t) x ≡ nodes
  chain_is x nodes inside once linked =
      at_bucket t.next.items t.heads.items x (omega (arith, inside, changed.heads_len))
      ∙ nodes_are t.next.items (get_or t.heads.items x 0) nodes changed.few
      (path_of t.next.items t.prev.items (FIRST_BUCKET + x) (get_or t.heads.items x 0) nodes linked) once

  pub is_here : chain_at (as_store t) b ≡ here
  is_here = chain_is b here changed.bucket changed.once_here changed.linked_here

  pub is_other : (x : ℕ) → x < length s.heads.items → x ≢ b → chain_at (as_store t) x ≡ chain_at (as_store s) x
  is_other x inside other = chain_is x (chain_at (as_store s) x) inside (kept.orderly.once x) (changed.linked_other x inside other)

  -- all chains are linked
  pub linked_all : (x : ℕ) → x < length t.heads.items → IsChain t.heads.items t.next.items t.prev.items x (chain_at (as_store t) x)
  linked_all x low = elim (cases_eq x b) [
    | inl same ↦
        subst (λ i. IsChain t.heads.items t.next.items t.prev.items i (chain_at (as_store t) i)) (sym same)
        (subst (IsChain t.heads.items t.next.items t.prev.items b) (sym is_here) changed.linked_here)
    | inr other ↦
        let inside : x < length s.heads.items = omega (arith, low, changed.heads_len) in
        subst (IsChain t.heads.items t.next.items t.prev.items x) (sym (is_other x inside other)) (changed.linked_other x inside other)
  ]
