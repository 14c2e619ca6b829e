-- The range of samples.
use Rattle.std.specs.Prelude.{ℤ, pos, negsuc, ◌≤ℤ◌}

-- a number of 16 bits
abbrev pub IsSample : ℤ → Type 0
IsSample x = (negsuc 32767 ≤ℤ x) × (x ≤ℤ pos 32767)
