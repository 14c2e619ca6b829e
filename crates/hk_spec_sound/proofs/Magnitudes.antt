-- Magnitudes of sums and products, and of what is scaled down.
use Rattle.std.proofs.Common.{ℕ, ◌+◌, ◌*◌, ◌≤◌, ℤ, nat_abs, ◌+ℤ◌, ◌-ℤ◌, ◌*ℤ◌, arith, subst, sym}
use Rattle.std.proofs.lemmas.Int.{ints, unsigned_abs-mul}
use Rattle.std.proofs.lemmas.Nat.{mul-le}

pub nat_abs-add : (a b : ℤ) → nat_abs (a +ℤ b) ≤ nat_abs a + nat_abs b
nat_abs-add a b = omega (arith, ints)

pub nat_abs-sub : (a b : ℤ) → nat_abs (a -ℤ b) ≤ nat_abs a + nat_abs b
nat_abs-sub a b = omega (arith, ints)

pub nat_abs-mul_within : (a b : ℤ) (n : ℕ) → nat_abs b ≤ n → nat_abs (a *ℤ b) ≤ nat_abs a * n
nat_abs-mul_within a b n within =
    let P : ℕ → Type 0 = λ k. k ≤ nat_abs a * n in
    subst P (sym (unsigned_abs-mul a b)) (mul-le (nat_abs a) (nat_abs b) (nat_abs a) n (omega arith) within)
