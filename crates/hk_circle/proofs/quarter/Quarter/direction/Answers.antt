use Rattle.std.proofs.Common.{◌≡◌, ℕ, ℤ, ◌-◌, ◌/◌, ◌%◌, ◌<◌, List, length, get_or, ◌∙◌, ap, sym, arith, map}
use Rattle.std.proofs.lemmas.List.{length-map, get_or-map}
use Rattle.std.proofs.lemmas.Nat.{mod_below}
use Rattle.hk_circle.specs.declared.point.Point.{Point}
use Rattle.hk_circle.specs.Points.{pair, pairs}
use Rattle.hk_spec_sound.specs.Circle.{quarter, direction, turned, rounded}
use Rattle.hk_spec_sound.proofs.Quarters.{length-quarter}
use Rattle.hk_circle.proofs.quarter.Quarter.direction.Goals as goal

length_points : (points : List Point) → pairs points ≡ quarter 9 → length points ≡ 513
unfolding pairs
length_points points exact = sym (length-map points pair) ∙ ap length exact ∙ length-quarter 9

-- the direction by the point that is read
direction_of_read : (points : List Point) (k : ℕ) (p : Point) → length points ≡ 513 → p ≡ get_or points (k % 512) p
    → direction (pairs points) k ≡ turned (k / 512) (rounded p.x, rounded p.y)
unfolding direction pairs
direction_of_read points k p all read =
    let steps : length (map pair points) - 1 ≡ 512 = ap (λ n. n - 1) (length-map points pair ∙ all) in
    let inside : k % 512 < length points = omega (arith, mod_below k 512 (omega arith)) in
    let by : ℕ × ℕ → ℕ → ℤ × ℤ = λ q n. turned (k / n) (rounded q.0, rounded q.1) in
    ap (λ n. by (get_or (map pair points) (k % n) (0, 0)) n) steps
    ∙ ap (λ q. by q 512) (get_or-map pair points (k % 512) p (0, 0) inside ∙ ap pair (sym read))

pub index-requires : goal.index-requires
index-requires c =
    let points = c.args.self.now.points in
    omega (arith, points.ok.0, length_points points.items c.args.self.now.exact)

pub returns : goal.returns
returns c =
    let circle = c.args.self.now in
    let k = c.args.k in
    c.turned.ensures ∙ ap (turned (k / 512)) c.of.ensures
    ∙ sym (direction_of_read circle.points.items k c.index.result.now (length_points circle.points.items circle.exact) c.index.ensures)
    ∙ ap (λ points. direction points k) circle.exact
