use Rattle.std.proofs.Common.{◌≡◌, drop}
use Rattle.hk_monitor.specs.Over.{first_of_seats}
use Rattle.hk_monitor.proofs.over.first_in.Given as goal

-- with the seats that are left it is the first of all
abbrev pub invariant-loop-seat : goal.invariant-loop-seat
invariant-loop-seat g l = first_of_seats l.published l.first (drop l.seat-index l.seats) ≡ first_of_seats l.fn.published l.fn.found l.fn.seats
