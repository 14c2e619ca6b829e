use Rattle.hk_seating.proofs.Facts.{each_seat, all_stations}
use Rattle.hk_station.specs.Hearing.{IsHearing}
use Rattle.hk_spec_runs.specs.Listening.{unheard}
use Rattle.hk_monitor_top.proofs.ByNumber.{may_begin, ran_by_number, ran_in_rows, some_worker}
use Rattle.hk_monitor_top.proofs.running.run_rows.Goals as goal

pub run_monitor-mismatch-requires-clause-crew : goal.run_monitor-mismatch-requires-clause-crew
run_monitor-mismatch-requires-clause-crew g c = λ l lives k d inside.
    may_begin c.args.rows.now c.seat_all.new.crew.items c.seat_all.ensures.gates c.args.count c.args.desk.now c.requires.full c.requires.going c.requires.start
    c.seat_all.ensures.seated c.seat_all.ensures.scratches k d inside

pub unseat_all-requires-clause-seated : goal.unseat_all-requires-clause-seated
unseat_all-requires-clause-seated g c =
    let new = c.requires.new in
    let h = ran_by_number c.args.rows.now c.seat_all.new.crew.items c.seat_all.ensures.gates g.D.Link.Link g.D.Log.Sink g.D.Gate.Gate.faults g.D.Calls.Source g.D.Replies.Sink
    new.0 c.args.count c.args.desk.now.limits.positions c.run_monitor-mismatch.new.crew.items c.args.clerk.now c.run_monitor-mismatch.new.clerk c.run_monitor-mismatch.new.desk
    c.requires.full c.seat_all.ensures.seated
    (c.run_monitor-mismatch.ensures.ran new.0 (each_seat c.seat_all.new.crew.items _ (some_worker c.args.rows.now c.seat_all.new.crew.items c.seat_all.ensures.gates c.requires.full.some_gate) c.seat_all.ensures.seated (λ seat. IsHearing new.0 seat.station unheard)
    (all_stations (λ station. IsHearing new.0 station unheard) c.args.rows.now.pairs.items c.args.rows.now.stations.items c.args.rows.now.readings.items new.1)) new.2)
    c.run_monitor-mismatch.ensures.readings in
    (h.0, h.3, h.4)

pub returns-clause-ran : goal.returns-clause-ran
returns-clause-ran g c = λ rules hearing obeying.
    let h = ran_by_number c.args.rows.now c.seat_all.new.crew.items c.seat_all.ensures.gates g.D.Link.Link g.D.Log.Sink g.D.Gate.Gate.faults g.D.Calls.Source g.D.Replies.Sink
    rules c.args.count c.args.desk.now.limits.positions c.run_monitor-mismatch.new.crew.items c.args.clerk.now c.run_monitor-mismatch.new.clerk c.run_monitor-mismatch.new.desk
    c.requires.full c.seat_all.ensures.seated
    (c.run_monitor-mismatch.ensures.ran rules (each_seat c.seat_all.new.crew.items _ (some_worker c.args.rows.now c.seat_all.new.crew.items c.seat_all.ensures.gates c.requires.full.some_gate) c.seat_all.ensures.seated (λ seat. IsHearing rules seat.station unheard)
    (all_stations (λ station. IsHearing rules station unheard) c.args.rows.now.pairs.items c.args.rows.now.stations.items c.args.rows.now.readings.items hearing)) obeying)
    c.run_monitor-mismatch.ensures.readings in
    ran_in_rows c.args.rows.now c.seat_all.new.crew.items c.seat_all.ensures.gates g.D.Link.Link g.D.Log.Sink g.D.Gate.Gate.faults g.D.Calls.Source g.D.Replies.Sink
    rules _ h.0 h.1 c.run_monitor-mismatch.new.crew.items c.args.clerk.now c.run_monitor-mismatch.new.clerk c.run_monitor-mismatch.new.desk h.2.operator
    (c.unseat_all.ensures.out h.0 h.3 h.4) c.unseat_all.ensures.gates h.5 h.6
