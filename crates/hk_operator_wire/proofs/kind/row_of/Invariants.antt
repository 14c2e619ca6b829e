-- The row is among those that are left, if it is among all.
use Rattle.std.proofs.Common.{◌≡◌, map, drop}
use Rattle.std.specs.Prelude.{find, ◌==◌}
use Rattle.hk_spec_streams.specs.Commands.{row_of}
use Rattle.hk_operator_wire.specs.Kinds.{row_meant}
use Rattle.hk_operator_wire.proofs.kind.row_of.Given as goal

abbrev pub invariant-loop-row : goal.invariant-loop-row
invariant-loop-row l = row_of l.number ≡ find (λ row. row.number == l.number) (map row_meant (drop l.row-index l.row-items))
