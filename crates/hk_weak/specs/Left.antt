-- What is left of the subsets of a mask.
use Rattle.std.specs.Prelude.{ℕ, ◌+◌, ◌-◌, Option, Some, None, List, [], filter}
use Rattle.std.specs.List.{range_with_len}
use Rattle.hk_spec_matching.specs.Matching.{Flips, may_flip}

-- the bits that may be flipped together, from this subset on, as rising numbers
unfoldable pub subsets_from : Flips → Option ℕ → List ℕ
subsets_from flips None = []
subsets_from flips (Some subset) = filter (may_flip flips) (range_with_len subset (flips.mask + 1 - subset))
