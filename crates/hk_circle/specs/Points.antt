-- The code's points and directions as the definition's.
use Rattle.std.specs.Prelude.{ℕ, ℤ, List, map}
use Rattle.hk_circle.specs.declared.point.Point.{Point}
use Rattle.hk_circle.specs.declared.direction.Direction.{Direction}

abbrev pub pair : Point → ℕ × ℕ
pair p = (p.x, p.y)

unfoldable pub pairs : List Point → List (ℕ × ℕ)
pairs points = map pair points

abbrev pub parts : Direction → ℤ × ℤ
parts d = (d.cos, d.sin)
