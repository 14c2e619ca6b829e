-- A count up to a limit.
use Rattle.std.specs.Prelude.{ℕ, nat_le, if◌then◌else◌, Option, Some, None}

-- the count, and nothing where it is over the limit
abbrev pub up_to : ℕ → ℕ → Option ℕ
up_to limit count = if nat_le count limit then Some count else None
