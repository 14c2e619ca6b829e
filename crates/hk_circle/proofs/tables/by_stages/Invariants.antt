use Rattle.std.proofs.Common.{◌≡◌, ◌≤◌, ◌^◌, ℕ, ℤ}
use Rattle.hk_circle.specs.Tables.{IsTable, HasStages}
use Rattle.hk_circle.proofs.tables.by_stages.Given as goal

abbrev pub invariant-loop-before : goal.invariant-loop-before
invariant-loop-before l = record {
  few : l.before ≤ 11;
  half : l.half ≡ 2 ^ l.before;
  stages : (f : ℕ → ℤ) → IsTable 2048 f l.table → HasStages l.before f l.stages.items;
}
