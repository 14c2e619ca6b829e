use Rattle.std.proofs.Common.{◌≡◌, ℕ, ◌≤◌, ◌<◌, List, Some, length, get_or, ap, subst, ◌∙◌, arith}
use Rattle.std.specs.Prelude.{slice_get}
use Rattle.std.proofs.lemmas.List.{take_all}
use Rattle.std.proofs.lemmas.Option.{slice_get-get_or}
use Rattle.hk_base.specs.Writing.{HasWritten, HasFailed}
use Rattle.hk_spec_runs.specs.Replay.{Listener}
use Rattle.hk_station.specs.declared.station.Station.{Station}
use Rattle.hk_run.specs.Course.{station_lines, all_ended}
use Rattle.hk_run.proofs.Stations.{found, all_of}
use Rattle.hk_run.proofs.Ending.{still_left, still_there, wrote_more, ended_more, torn_there, numbered_at}
use Rattle.hk_run.proofs.summary.write_stations.Goals as goal

pub returns-in-Err-clause-torn : goal.returns-in-Err-clause-torn
returns-in-Err-clause-torn g c = λ rules listeners h.
    let i : ℕ = c.loop-station.station-index in
    let station : Station = get_or c.loop-station.stations i c.station-item.result in
    let inside : c.loop-station.station-index < length c.loop-station.stations = omega (arith, c.loop-station-test.true) in
    let there : slice_get c.args.stations.now c.loop-station.station-index ≡ Some (get_or c.loop-station.stations c.loop-station.station-index c.station-item.result) =
    still_there c.args.stations.now c.loop-station.stations i station c.loop-station.invariant.others (slice_get-get_or c.loop-station.stations i c.station-item.result inside) in
    let at = found rules 0 c.args.stations.now listeners i station h there in
    torn_there rules listeners i at.listener at.there (c.loop-station.invariant.lines rules listeners h)
    (numbered_at (λ line. HasFailed g.K.Sink line c.loop-station.out c.write_end.new.out) rules at.listener _ i at.number (c.in-Err.ensures.torn rules at.listener at.hears))

pub loop-station-preserved : goal.loop-station-preserved
loop-station-preserved g c =
    let i : ℕ = c.loop-station.station-index in
    let station : Station = get_or c.loop-station.stations i c.station-item.result in
    let inside : c.loop-station.station-index < length c.loop-station.stations = omega (arith, c.loop-station-test.true) in
    let there : slice_get c.args.stations.now c.loop-station.station-index ≡ Some (get_or c.loop-station.stations c.loop-station.station-index c.station-item.result) =
    still_there c.args.stations.now c.loop-station.stations i station c.loop-station.invariant.others (slice_get-get_or c.loop-station.stations i c.station-item.result inside) in
    record {
      lines = λ rules listeners h.
          let at = found rules 0 c.args.stations.now listeners i station h there in
          wrote_more rules listeners i at.listener at.there (c.loop-station.invariant.lines rules listeners h)
          (numbered_at (λ line. HasWritten g.K.Sink line c.loop-station.out c.write_end.new.out) rules at.listener _ i at.number (c.in-Ok.ensures.whole rules at.listener at.hears));
      ended = λ rules listeners h.
          let at = found rules 0 c.args.stations.now listeners i station h there in
          ended_more rules listeners i at.listener at.there c.loop-station.all_ended c.in-Ok.ended (c.loop-station.invariant.ended rules listeners h) (c.in-Ok.ensures.ended rules at.listener at.hears);
      others = still_left c.args.stations.now c.loop-station.stations i c.write_end.new.station c.loop-station.invariant.others;
      no_write_failed = c.in-Ok.ensures.counts_failures ∙ c.loop-station.invariant.no_write_failed;
    }

pub returns-clause-whole : goal.returns-clause-whole
returns-clause-whole g c = λ rules listeners h.
    let many : length c.args.stations.now ≡ length listeners = all_of rules 0 c.args.stations.now listeners h in
    let over : length listeners ≤ c.loop-station.station-index = omega (arith, many, c.loop-station-test.false) in
    subst (λ (ls : List Listener). HasWritten g.K.Sink (station_lines rules ls) c.args.out.now c.loop-station.out) (take_all c.loop-station.station-index listeners over) (c.loop-station.invariant.lines rules listeners h)

pub returns-clause-ended : goal.returns-clause-ended
returns-clause-ended g c = λ rules listeners h.
    let many : length c.args.stations.now ≡ length listeners = all_of rules 0 c.args.stations.now listeners h in
    let over : length listeners ≤ c.loop-station.station-index = omega (arith, many, c.loop-station-test.false) in
    c.loop-station.invariant.ended rules listeners h ∙ ap (all_ended rules) (take_all c.loop-station.station-index listeners over)
