-- A point between two points of the quarter circle lies there too.
use Rattle.std.proofs.Common.{◌≡◌, ℕ, zero, suc, ◌+◌, ◌*◌, ◌/◌, ◌^◌, ◌<◌, ◌≤◌, inl, inr, arith}
use Rattle.std.proofs.lemmas.Bool.Decides.{leb_tells}
use Rattle.std.proofs.lemmas.Nat.{mul-le, le-div}
use Rattle.hk_spec_sound.proofs.Roots.{IsRootOf}

-- a part is no longer than the whole
pub part-le-root : (x y r : ℕ) → IsRootOf (x * x + y * y) r → x ≤ r
part-le-root x y r root = elim (leb_tells x r) [
  | inl low ↦ low.1
  | inr high ↦ absurd (let squares : (r + 1) * (r + 1) ≤ x * x = mul-le (r + 1) (r + 1) x x (omega (arith, high.1)) (omega (arith, high.1)) in omega (arith, squares, root.1))
]

-- and the whole no longer than both parts
pub root-le-parts : (x y r : ℕ) → IsRootOf (x * x + y * y) r → r ≤ x + y
root-le-parts x y r root = elim (leb_tells r (x + y)) [
  | inl low ↦ low.1
  | inr high ↦ absurd (let squares : (x + y + 1) * (x + y + 1) ≤ r * r = mul-le (x + y + 1) (x + y + 1) r r (omega (arith, high.1)) (omega (arith, high.1)) in omega (arith, squares, root.0))
]

le_square : (n : ℕ) → n ≤ n * n
le_square zero = omega arith
le_square (suc n) = omega arith

pub root-positive : (x y r : ℕ) → IsRootOf (x * x + y * y) r → 0 < x + y → 0 < r
root-positive x y r root some = elim (leb_tells 1 r) [
  | inl one ↦ one.1
  | inr none ↦ absurd (
      let zero : r ≡ 0 = omega (arith, none.1) in
      let squares : (r + 1) * (r + 1) ≤ 1 * 1 = mul-le (r + 1) (r + 1) 1 1 (omega (arith, zero)) (omega (arith, zero)) in
      let x_squared : x ≤ x * x = le_square x in
      let y_squared : y ≤ y * y = le_square y in
      omega (arith, squares, root.1, x_squared, y_squared, some))
]

-- and one of the parts is over 0
pub moved_out-some : (x y r : ℕ) → r ≤ x + y → 0 < r → 0 < (x * 2 ^ 30 + r / 2) / r + (y * 2 ^ 30 + r / 2) / r
moved_out-some x y r high some = elim (leb_tells r (x * 2 ^ 30 + r / 2)) [
  | inl first ↦ omega (arith, le-div 1 (x * 2 ^ 30 + r / 2) r some (omega (arith, first.1)))
  | inr second ↦ omega (arith, le-div 1 (y * 2 ^ 30 + r / 2) r some (omega (arith, second.1)))
]
