use Rattle.std.proofs.Common.{ℕ, ℤ}
use Rattle.hk_circle.specs.Tables.{IsTable, HasStages}
use Rattle.hk_circle.proofs.Filling.{HasBegun}
use Rattle.hk_circle.proofs.tables.add_stage.Given as goal

abbrev pub invariant-loop-k : goal.invariant-loop-k
invariant-loop-k l =
    (f : ℕ → ℤ) → IsTable 2048 f l.table → HasStages l.before f l.fn.stages.items → HasBegun l.before l.k f l.stages.items
