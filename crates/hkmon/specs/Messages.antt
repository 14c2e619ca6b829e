-- What standard error is told of a status.
use Rattle.std.specs.Prelude.{ℕ, ◌==◌, if◌then◌else◌, List, codes, Option, Some, None}
use Rattle.hk_monitor_top.specs.Statuses.{USAGE, NO_MEMORY, DOOR_FAULT}

abbrev pub message : ℕ → Option (List ℕ)
message code =
    if code == USAGE then Some (codes "hkmon: bad usage")
    else if code == NO_MEMORY then Some (codes "hkmon: no memory")
    else if code == DOOR_FAULT then Some (codes "hkmon: door fault")
    else None
