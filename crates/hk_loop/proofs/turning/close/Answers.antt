use Rattle.std.proofs.Common.{rules, ◌≡◌, None}
use Rattle.hk_station.specs.Hearing.{kept_end}
use Rattle.hk_loop.proofs.Turns.{closes_going}
use Rattle.hk_loop.proofs.turning.close.Goals as goal

pub returns-then-is_none : goal.returns-then-is_none
returns-then-is_none g c =
    let e = c.stop_gate.ensures in
    let going : kept_end c.args.seat.now.station ≡ None = search rules in
    closes_going c.args.seat.now c.stop_gate.new.self c.stop_gate.result going (e.going going) e.number_stays e.lines_stay e.version_stays e.kept
