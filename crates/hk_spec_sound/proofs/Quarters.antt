-- How many points a quarter has.
use Rattle.std.proofs.Common.{◌≡◌, ℕ, zero, suc, ◌+◌, ◌-◌, ◌*◌, ◌^◌, ◌<◌, List, [], ◌∷◌, length, drop, get_or, ap, sym, ◌∙◌, arith}
use Rattle.std.proofs.lemmas.List.{at_drop_more, drop_more, drop_all}
use Rattle.hk_spec_sound.specs.Circle.{midpoint, refined, quarter}

pub length-refined : (points : List (ℕ × ℕ)) → length (refined points) ≡ 2 * length points - 1
unfolding refined
length-refined [] = omega arith
length-refined (u ∷ []) = omega arith
length-refined (u ∷ v ∷ points) = omega (arith, length-refined (v ∷ points))

pub length-quarter : (level : ℕ) → length (quarter level) ≡ 2 ^ level + 1
unfolding quarter
length-quarter zero = omega arith
length-quarter (suc level) =
    let power : 2 ^ suc level ≡ 2 * 2 ^ level = omega arith in
    omega (arith, length-refined (quarter level), length-quarter level, power)

-- one more point that has a neighbour, with the point between
pub refined-drop_more : (points : List (ℕ × ℕ)) (i : ℕ) (d : ℕ × ℕ) → i + 1 < length points
    → refined (drop i points) ≡ get_or points i d ∷ midpoint (get_or points i d) (get_or points (i + 1) d) ∷ refined (drop (i + 1) points)
unfolding refined
refined-drop_more points i d inside =
    at_drop_more refined points i d (omega arith)
    ∙ ap (λ rest. refined (get_or points i d ∷ rest)) (drop_more points (i + 1) d inside)
    ∙ ap (λ rest. get_or points i d ∷ midpoint (get_or points i d) (get_or points (i + 1) d) ∷ refined rest) (sym (drop_more points (i + 1) d inside))

-- the last point
pub refined-drop_last : (points : List (ℕ × ℕ)) (i : ℕ) (d : ℕ × ℕ) → i + 1 ≡ length points
    → refined (drop i points) ≡ get_or points i d ∷ refined (drop (i + 1) points)
unfolding refined
refined-drop_last points i d last =
    at_drop_more refined points i d (omega arith)
    ∙ ap (λ rest. refined (get_or points i d ∷ rest)) (drop_all (i + 1) points (omega arith))
    ∙ ap (λ rest. get_or points i d ∷ refined rest) (sym (drop_all (i + 1) points (omega arith)))
