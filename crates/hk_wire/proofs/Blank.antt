-- Bytes that didn't come count as 0.
use Rattle.std.proofs.Common.{◌≡◌, ℕ, ◌+◌, ◌≤◌, List, take, drop, slice_index, sym, ◌∙◌, arith, inl, inr}
use Rattle.std.proofs.lemmas.List.{get_or-take, get_or-drop, get_or_past, length-take}
use Rattle.std.proofs.lemmas.Bool.{cases_lt}

module _ (n : ℕ) (bytes : List ℕ) (blank : (place : ℕ) → n ≤ place → slice_index bytes place ≡ 0) where
  same_byte : (i : ℕ) → slice_index (take n bytes) i ≡ slice_index bytes i
  same_byte i = elim (cases_lt i n) [
    | inl within ↦ get_or-take n bytes i 0 within
    | inr past ↦ get_or_past (take n bytes) i 0 (omega (arith, length-take n bytes, past)) ∙ sym (blank i past)
  ]

  pub same_behind : (place i : ℕ) → slice_index (drop place (take n bytes)) i ≡ slice_index (drop place bytes) i
  same_behind place i = get_or-drop place (take n bytes) i 0 ∙ same_byte (place + i) ∙ sym (get_or-drop place bytes i 0)
