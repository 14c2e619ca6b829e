use Rattle.std.proofs.Common.{ℕ, List, arith}
use Rattle.hk_spec_made.specs.Input.{station_record, gap_bytes}
use Rattle.hk_made.proofs.Ranges.{written-more}
use Rattle.hk_made.proofs.programme.put_gaps.Goals as goal

pub loop-station-preserved : goal.loop-station-preserved
loop-station-preserved c =
    let station = c.loop-station.station in
    let record_of : ℕ → List ℕ = λ s. station_record s gap_bytes in
    written-more record_of c.args.text.now.items c.loop-station.text.items c.put_station_record.new.text.items 0 station station
    c.loop-station.invariant (omega arith) c.in_ok-put_station_record.ensures
