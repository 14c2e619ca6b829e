use Rattle.std.proofs.Common.{◌∙◌, ◌<◌, ap, subst}
use Rattle.std.proofs.lemmas.List.{length-set}
use Rattle.hk_opening.proofs.Unused.{stations_outside, gates_outside}
use Rattle.hk_opening.proofs.tests.what_was_written_is_back_at_its_number.Goals as goal

pub return_gates-requires-clause-out : goal.return_gates-requires-clause-out
return_gates-requires-clause-out g c κs w less = gates_outside (λ gate. gate.faults) c.open.new.gates.items _ _ c.in_ok-calls.ensures.gates w less

pub return_stations-requires-clause-out : goal.return_stations-requires-clause-out
return_stations-requires-clause-out g c κs n less =
    ap (λ p. p.held) (c.return_gates.ensures.stations n) ∙ stations_outside _ _ c.open.new.stations.items _ _ c.in_ok-calls.ensures.stations n
    (subst (λ count. n < count) (length-set c.open.new.stations.items 1 _) less)
