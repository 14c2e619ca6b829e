use Rattle.std.proofs.Common.{◌≡◌, ◌<◌, ◌≤◌, ℕ, length, slice_index_or}
use Rattle.hk_monitor.specs.declared.crew.Crewman.{Crewman}
use Rattle.hk_monitor.specs.Closing.{ClosesSeats}
use Rattle.hk_monitor.proofs.closing.close_all.Given as goal

-- so have those of the workers below w
abbrev pub invariant-loop-w : goal.invariant-loop-w
invariant-loop-w g l = record {
  as_many : length l.crew.items ≡ length l.fn.crew.items;
  closed : (i : ℕ) (d : Crewman _ _ _ _) → i < l.w → ClosesSeats l.fn.desk.published (slice_index_or l.fn.crew.items i d) (slice_index_or l.crew.items i d);
  left : (i : ℕ) (d : Crewman _ _ _ _) → l.w ≤ i → slice_index_or l.crew.items i d ≡ slice_index_or l.fn.crew.items i d;
}
