use Rattle.std.proofs.Common.{◌≡◌, ◌<◌, ◌≤◌, ℕ, length, slice_index_or}
use Rattle.hk_loop.specs.declared.seat.Seat.{Seat}
use Rattle.hk_loop.specs.Serving.{Closes}
use Rattle.hk_loop.proofs.serving.close_all.Given as goal

-- the seats below k are closed, and those above are as they were
abbrev pub invariant-loop-k : goal.invariant-loop-k
invariant-loop-k g l = record {
  as_many : length l.seats.items ≡ length l.fn.seats.items;
  closed : (i : ℕ) (d : Seat _ _ _) → i < l.k → Closes g.K.Link g.S.Sink g.V.Looker (slice_index_or l.fn.seats.items i d) (slice_index_or l.seats.items i d);
  left : (i : ℕ) (d : Seat _ _ _) → l.k ≤ i → slice_index_or l.seats.items i d ≡ slice_index_or l.fn.seats.items i d;
}
