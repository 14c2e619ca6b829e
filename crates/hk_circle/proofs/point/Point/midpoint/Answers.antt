use Rattle.std.proofs.Common.{◌≡◌, ◌+◌, ◌*◌, ◌/◌, ◌^◌, ◌<◌, ◌≤◌, ◌∙◌, ap, arith, ℕ}
use Rattle.std.proofs.lemmas.Nat.{mul-le}
use Rattle.hk_spec_sound.specs.Circle.{midpoint}
use Rattle.hk_spec_sound.specs.Numbers.{square_root}
use Rattle.hk_spec_sound.proofs.Roots.{IsRootOf, IsRootOf-same, square_root_is}
use Rattle.hk_spec_sound.proofs.Midpoints.{part-le-root, root-le-parts, root-positive, moved_out-some}
use Rattle.hk_circle.proofs.point.Point.midpoint.Goals as goal

-- the other part's part of the same root
turned_root : (x y r : ℕ) → IsRootOf (x * x + y * y) r → IsRootOf (y * y + x * x) r
turned_root x y r root = (omega (arith, root.0), omega (arith, root.1))

pub moved_out-requires-clause-within : goal.moved_out-requires-clause-within
moved_out-requires-clause-within c =
    let x : ℕ = c.args.self.x + c.args.other.x in
    let y : ℕ = c.args.self.y + c.args.other.y in
    part-le-root x y c.isqrt-root.result (c.isqrt-root.ensures.square_le, c.isqrt-root.ensures.next_square_gt)

pub moved_out-requires-2-clause-within : goal.moved_out-requires-2-clause-within
moved_out-requires-2-clause-within c =
    let x : ℕ = c.args.self.x + c.args.other.x in
    let y : ℕ = c.args.self.y + c.args.other.y in
    part-le-root y x c.isqrt-root.result (turned_root x y c.isqrt-root.result (c.isqrt-root.ensures.square_le, c.isqrt-root.ensures.next_square_gt))

pub invariant_of-result : goal.invariant_of-result
invariant_of-result c =
    let x : ℕ = c.args.self.x + c.args.other.x in
    let y : ℕ = c.args.self.y + c.args.other.y in
    let r : ℕ = c.isqrt-root.result in
    let root : IsRootOf (x * x + y * y) r = (c.isqrt-root.ensures.square_le, c.isqrt-root.ensures.next_square_gt) in
    let some : 0 < r = root-positive x y r root (omega (arith, c.args.self.off_center)) in
    record {
      x_within = c.moved_out.ensures.within;
      y_within = c.moved_out-2.ensures.within;
      off_center = omega (arith, c.moved_out.ensures.value, c.moved_out-2.ensures.value, moved_out-some x y r (root-le-parts x y r root) some);
    }

pub returns : goal.returns
unfolding midpoint
returns c =
    let x : ℕ = c.args.self.x + c.args.other.x in
    let y : ℕ = c.args.self.y + c.args.other.y in
    let r : ℕ = c.isqrt-root.result in
    let root : IsRootOf (x * x + y * y) r = (c.isqrt-root.ensures.square_le, c.isqrt-root.ensures.next_square_gt) in
    let squares : (r + 1) * (r + 1) ≤ 2 ^ 32 * 2 ^ 32 = mul-le (r + 1) (r + 1) (2 ^ 32) (2 ^ 32) (omega (arith, c.isqrt-root.ensures.bound)) (omega (arith, c.isqrt-root.ensures.bound)) in
    let small : x * x + y * y < 2 ^ 128 = omega (arith, squares, root.1) in
    let same : r ≡ square_root (x * x + y * y) = IsRootOf-same (x * x + y * y) r (square_root (x * x + y * y)) root (square_root_is (x * x + y * y) small) in
    ap (λ a. (a, c.moved_out-2.result)) c.moved_out.ensures.value
    ∙ ap (λ b. ((x * 2 ^ 30 + r / 2) / r, b)) c.moved_out-2.ensures.value
    ∙ ap (λ q. ((x * 2 ^ 30 + q / 2) / q, (y * 2 ^ 30 + q / 2) / q)) same
