use Rattle.std.proofs.Common.{rules, ◌≡◌, ◌≤◌, ◌<◌, ◌+◌, ◌*◌, ◌/◌, ◌+ℤ◌, ◌*ℤ◌, pos, ℕ, ℤ, List, length, take, get_or, sum, w32, FitsSigned, to_z, arith, ap, sym, ◌∙◌}
use Rattle.std.proofs.lemmas.Int.{to_z-of_z, ints}
use Rattle.std.proofs.lemmas.List.{take_all}
use Rattle.std.proofs.lemmas.List.Sums.{sum_by-take-le, sum_by_more}
use Rattle.std.proofs.lemmas.Nat.{mul-le}
use Rattle.hk_spec_sound.specs.Numbers.{total, floor_div}
use Rattle.hk_spec_sound.specs.Samples.{weights, weighted_mean}
use Rattle.hk_decimate.proofs.Sums.{products, length-products, get_or-products, total_more}
use Rattle.hk_decimate.proofs.Weights.{length-weights, sum-weights}
use Rattle.hk_decimate.proofs.mean.weighted_mean.Goals as goal

-- the weights so far are at most 64 in all
weight_so_far : (factor k : ℕ) → factor ≤ 8 → sum (take k (weights factor)) ≤ 64
weight_so_far factor k few =
    let square : factor * factor ≤ 8 * 8 = mul-le factor factor 8 8 few few in
    omega (arith, sum_by-take-le (λ n. n) (weights factor) k, sum-weights factor few, square)

pub overflow_add-sum : goal.overflow_add-sum
overflow_add-sum c =
    let limit = weight_so_far c.args.factor c.loop-k.k c.requires.few in
    omega (arith, ints, limit, c.loop-k.invariant.from, c.loop-k.invariant.to, c.product-sum.ensures.from, c.product-sum.ensures.to)

pub loop-k-preserved : goal.loop-k-preserved
loop-k-preserved c =
    let k = c.loop-k.k in
    let ws : List ℕ = weights c.args.factor in
    let window : List ℤ = c.args.window.now in
    let s : ℤ = to_z w32 c.loop-k.sum-bits in
    let p : ℤ = c.product-sum.result in
    let limit = weight_so_far c.args.factor k c.requires.few in
    let x_fits : FitsSigned w32 (get_or window k (pos 0)) = search rules in
    let p_fits : FitsSigned w32 p = search rules in
    let fits : FitsSigned w32 (s +ℤ p) = omega (arith, ints, limit, c.loop-k.invariant.from, c.loop-k.invariant.to, c.product-sum.ensures.from, c.product-sum.ensures.to) in
    let product = simp to_z-of_z at c.product-sum.ensures.value in
    let in_weights : k < length ws = omega (arith, length-weights c.args.factor) in
    let term : get_or (products ws window) k (pos 0) ≡ p =
    get_or-products ws window k in_weights c.loop-k-test.true
    ∙ ap (λ w. pos w *ℤ get_or window k (pos 0)) (sym c.weight.ensures.value) ∙ sym product in
    let in_products : k < length (products ws window) = omega (arith, length-products ws window (omega (arith, length-weights c.args.factor))) in
    let more : sum (take (k + 1) ws) ≡ sum (take k ws) + get_or ws k 0 = sum_by_more (λ n. n) ws k 0 in_weights in
    record {
      so_far = simp to_z-of_z
          (ap (λ z. z +ℤ p) c.loop-k.invariant.so_far ∙ ap (λ z. total (take k (products ws window)) +ℤ z) (sym term)
          ∙ sym (total_more (products ws window) k (pos 0) in_products));
      from = simp to_z-of_z (omega (arith, ints, more, c.loop-k.invariant.from, c.product-sum.ensures.from, c.weight.ensures.value));
      to = simp to_z-of_z (omega (arith, ints, more, c.loop-k.invariant.to, c.product-sum.ensures.to, c.weight.ensures.value));
    }

pub rounded_mean-requires-clause-from : goal.rounded_mean-requires-clause-from
rounded_mean-requires-clause-from c =
    let all : take c.loop-k.k (weights c.args.factor) ≡ weights c.args.factor = take_all c.loop-k.k (weights c.args.factor) (omega (arith, length-weights c.args.factor)) in
    omega (arith, ints, c.loop-k.invariant.from, ap sum all, sum-weights c.args.factor c.requires.few)

pub rounded_mean-requires-clause-to : goal.rounded_mean-requires-clause-to
rounded_mean-requires-clause-to c =
    let all : take c.loop-k.k (weights c.args.factor) ≡ weights c.args.factor = take_all c.loop-k.k (weights c.args.factor) (omega (arith, length-weights c.args.factor)) in
    omega (arith, ints, c.loop-k.invariant.to, ap sum all, sum-weights c.args.factor c.requires.few)

pub returns-clause-value : goal.returns-clause-value
unfolding weighted_mean
returns-clause-value c =
    let f = c.args.factor in
    let terms : List ℤ = products (weights f) c.args.window.now in
    let fits : FitsSigned w32 c.rounded_mean.result = search rules in
    let whole : take c.loop-k.k terms ≡ terms =
    take_all c.loop-k.k terms (omega (arith, length-products (weights f) c.args.window.now (omega (arith, length-weights f)))) in
    to_z-of_z w32 c.rounded_mean.result fits ∙ c.rounded_mean.ensures.value
    ∙ ap (λ z. floor_div (z +ℤ pos (f * f / 2)) (f * f)) (c.loop-k.invariant.so_far ∙ ap total whole)
