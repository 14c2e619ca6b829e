-- The calls that a door in memory has answered, each with a number of its own.
use Rattle.std.specs.Prelude.{◌≡◌, ℕ, ◌+◌, ◌*◌, ◌<◌, nat_eq, List, map}
use Rattle.std.specs.List.{All, IsDistinct}
use Rattle.hk_outside.specs.declared.door.Ask.{Ask}
use Rattle.hk_outside.specs.declared.door.Ask.TheVariants as asks
use Rattle.hk_outside.specs.declared.door.Call.{Call}

-- no two asks have the same number
abbrev pub code_of : Ask → ℕ
code_of asks.Operator = 0
code_of (asks.Station n) = 2 * n + 1
code_of (asks.Gate w) = 2 * w + 2

abbrev pub codes_of : List Call → List ℕ
codes_of calls = map (λ call. code_of call.ask) calls

-- how many asks there can be
abbrev pub MOST_ASKS : ℕ
MOST_ASKS = 513

-- nothing was asked for twice, and all that was asked for has a number
abbrev pub AreDistinct : List Call → Type 0
AreDistinct calls = IsDistinct nat_eq (codes_of calls)

abbrev pub AreNumbered : List Call → Type 0
AreNumbered calls = All (λ call. code_of call.ask < MOST_ASKS) calls

-- each gate that was asked for has a number below this
abbrev pub GatesBelow : ℕ → List Call → Type 0
GatesBelow count calls = All (λ call. (w : ℕ) → call.ask ≡ asks.Gate w → w < count) calls
