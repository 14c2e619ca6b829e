use Rattle.std.proofs.Common.{◌≡◌, ◌<◌, ◌≤◌, ℕ, length, slice_index_or}
use Rattle.hk_loop.specs.declared.seat.Seat.{Seat}
use Rattle.hk_monitor.specs.Closing.{ClosesSeat}
use Rattle.hk_monitor.proofs.closing.close_seats.Given as goal

-- the readings below k have looked again, and those above are as they were
abbrev pub invariant-loop-k : goal.invariant-loop-k
invariant-loop-k g l = record {
  as_many : length l.seats.items ≡ length l.fn.seats.items;
  closed : (i : ℕ) (d : Seat _ _ _) → i < l.k → ClosesSeat l.fn.desk.published (slice_index_or l.fn.seats.items i d) (slice_index_or l.seats.items i d);
  left : (i : ℕ) (d : Seat _ _ _) → l.k ≤ i → slice_index_or l.seats.items i d ≡ slice_index_or l.fn.seats.items i d;
}
