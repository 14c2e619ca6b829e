-- One turn of the loop that refines: what is there, and what is left to come.
use Rattle.std.proofs.Common.{◌≡◌, ℕ, ◌+◌, ◌<◌, List, [], ◌∷◌, ◌++◌, length, drop, get_or, ◌∙◌, ap, sym, arith}
use Rattle.std.proofs.lemmas.List.{append-nil, append_assoc, drop_all, map_push, length-map, get_or-map}
use Rattle.hk_spec_sound.specs.Circle.{midpoint, refined}
use Rattle.hk_spec_sound.proofs.Quarters.{refined-drop_more, refined-drop_last}
use Rattle.hk_circle.specs.declared.point.Point.{Point}
use Rattle.hk_circle.specs.Points.{pair, pairs}

pub length-pairs : (points : List Point) → length (pairs points) ≡ length points
unfolding pairs
length-pairs points = length-map points pair

pub pairs_push : (points : List Point) (p : Point) → pairs (points ++ p ∷ []) ≡ pairs points ++ pair p ∷ []
unfolding pairs
pairs_push points p = map_push pair points p

-- the point that is read at a place
pub pair_read : (points : List Point) (i : ℕ) (p : Point) (d : ℕ × ℕ) → i < length points → p ≡ get_or points i p → get_or (pairs points) i d ≡ pair p
unfolding pairs
pair_read points i p d inside read = get_or-map pair points i p d inside ∙ ap pair (sym read)

-- a point that has a neighbour goes in with the point between
pub refining_more : (finer points : List Point) (i : ℕ) (u v m : Point) → i + 1 < length points
    → u ≡ get_or points i u → v ≡ get_or points (i + 1) v → pair m ≡ midpoint (pair u) (pair v)
    → pairs ((finer ++ u ∷ []) ++ m ∷ []) ++ refined (drop (i + 1) (pairs points)) ≡ pairs finer ++ refined (drop i (pairs points))
refining_more finer points i u v m inside at_u at_v between =
    let rest = refined (drop (i + 1) (pairs points)) in
    let u_read : get_or (pairs points) i (0, 0) ≡ pair u = pair_read points i u (0, 0) (omega arith) at_u in
    let v_read : get_or (pairs points) (i + 1) (0, 0) ≡ pair v = pair_read points (i + 1) v (0, 0) inside at_v in
    let left : refined (drop i (pairs points)) ≡ pair u ∷ pair m ∷ rest =
    refined-drop_more (pairs points) i (0, 0) (omega (arith, length-pairs points))
    ∙ ap (λ a. a ∷ midpoint a (get_or (pairs points) (i + 1) (0, 0)) ∷ rest) u_read
    ∙ ap (λ b. pair u ∷ midpoint (pair u) b ∷ rest) v_read
    ∙ ap (λ b. pair u ∷ b ∷ rest) (sym between) in
    let there : pairs ((finer ++ u ∷ []) ++ m ∷ []) ≡ (pairs finer ++ pair u ∷ []) ++ pair m ∷ [] =
    pairs_push (finer ++ u ∷ []) m ∙ ap (λ ps. ps ++ pair m ∷ []) (pairs_push finer u) in
    ap (λ ps. ps ++ rest) there ∙ append_assoc (pairs finer ++ pair u ∷ []) (pair m ∷ []) rest
    ∙ append_assoc (pairs finer) (pair u ∷ []) (pair m ∷ rest) ∙ ap (λ ps. pairs finer ++ ps) (sym left)

-- the last point goes in alone
pub refining_last : (finer points : List Point) (i : ℕ) (u : Point) → i + 1 ≡ length points → u ≡ get_or points i u
    → pairs (finer ++ u ∷ []) ++ refined (drop (i + 1) (pairs points)) ≡ pairs finer ++ refined (drop i (pairs points))
refining_last finer points i u last at_u =
    let rest = refined (drop (i + 1) (pairs points)) in
    let u_read : get_or (pairs points) i (0, 0) ≡ pair u = pair_read points i u (0, 0) (omega arith) at_u in
    let left : refined (drop i (pairs points)) ≡ pair u ∷ rest =
    refined-drop_last (pairs points) i (0, 0) (omega (arith, length-pairs points)) ∙ ap (λ a. a ∷ rest) u_read in
    ap (λ ps. ps ++ rest) (pairs_push finer u) ∙ append_assoc (pairs finer) (pair u ∷ []) rest ∙ ap (λ ps. pairs finer ++ ps) (sym left)

-- nothing is left at the end
pub refining_done : (finer points : List Point) (i : ℕ) → length points ≡ i
    → pairs finer ++ refined (drop i (pairs points)) ≡ pairs finer
unfolding refined
refining_done finer points i all =
    ap (λ ps. pairs finer ++ refined ps) (drop_all i (pairs points) (omega (arith, length-pairs points))) ∙ append-nil (pairs finer)
