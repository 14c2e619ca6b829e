-- What standard error is told of a status.
use Rattle.std.specs.Prelude.{ℕ, ◌==◌, if◌then◌else◌, List, codes, Option, Some, None}

abbrev pub message : ℕ → Option (List ℕ)
message code = if code == 2 then Some (codes "hkreplay: bad usage") else if code == 4 then Some (codes "hkreplay: no memory") else None
