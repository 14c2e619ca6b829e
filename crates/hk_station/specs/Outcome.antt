-- What the hearing of a byte comes to.
use Rattle.std.specs.Prelude.{⊤, OnOk, OnErr, Option, Some, None, Result, Ok, Err}
use Rattle.hk_base.specs.declared.plain.End.{End}
use Rattle.hk_base.specs.declared.plain.End.TheVariants as ends
use Rattle.hk_station.specs.declared.station.Progress.{Progress}
use Rattle.hk_station.specs.declared.station.Progress.TheVariants.{Going, Over}

abbrev pub progress_of : Option End → Progress
progress_of None = Going
progress_of (Some end) = Over end

-- what came of the writes of the log: Err where one failed
abbrev pub log_result : Progress → Result ⊤ ⊤
log_result Going = Ok tt
log_result (Over ends.Ended) = Ok tt
log_result (Over (ends.Wire fault)) = Ok tt
log_result (Over (ends.FenceAhead asked found)) = Ok tt
log_result (Over ends.ReadFault) = Ok tt
log_result (Over ends.SinkFault) = Err tt
log_result (Over ends.GateFault) = Ok tt

-- a fact where a write of the log failed
abbrev pub OnTorn : Progress → Type 0 → Type 0
OnTorn progress P = OnErr (log_result progress) P

-- a fact where none did
abbrev pub UnlessTorn : Progress → Type 0 → Type 0
UnlessTorn progress P = OnOk (log_result progress) P
