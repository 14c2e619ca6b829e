use Rattle.std.proofs.Common.{◌≡◌, ◌<◌, ℕ, slice_index_or, true, is_some}
use Rattle.hk_station.specs.Hearing.{kept_end}
use Rattle.hk_loop.specs.declared.seat.Seat.{Seat}
use Rattle.hk_loop.proofs.serving.are_over.Given as goal

-- the stations seen so far are over
abbrev pub invariant-loop-k : goal.invariant-loop-k
invariant-loop-k g l = (i : ℕ) (d : Seat _ _ _) → i < l.k → is_some (kept_end (slice_index_or l.fn.seats i d).station) ≡ true
