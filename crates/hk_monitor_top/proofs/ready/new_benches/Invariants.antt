-- So many empty benches are there.
use Rattle.std.proofs.Common.{◌≡◌, ◌≤◌, length}
use Rattle.std.specs.Prelude.{vec_capacity}
use Rattle.std.specs.List.{All}
use Rattle.hk_monitor_top.specs.Ready.{IsBench}
use Rattle.hk_monitor_top.proofs.ready.new_benches.Given as goal

abbrev pub invariant-loop-worker : goal.invariant-loop-worker
invariant-loop-worker g l = record {
  count : length l.benches.items ≡ l.worker;
  room : l.fn.plan.workers ≤ vec_capacity l.benches;
  empty : All (IsBench l.fn.plan.stations l.fn.plan.positions) l.benches.items;
}
