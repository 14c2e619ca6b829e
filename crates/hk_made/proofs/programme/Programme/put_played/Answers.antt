use Rattle.std.proofs.Common.{◌≡◌, ℕ, List, ◌++◌, flat_map, ap, ◌∙◌, arith}
use Rattle.std.specs.List.{range_with_len}
use Rattle.hk_spec_made.specs.Input.{station_record, data_bytes}
use Rattle.hk_made.proofs.Ranges.{written-more}
use Rattle.hk_made.proofs.programme.Programme.put_played.Goals as goal

pub loop-station-preserved : goal.loop-station-preserved
loop-station-preserved c =
    let self = c.args.self.now in
    let record_of : ℕ → List ℕ = λ s. station_record s (data_bytes self.flips self.highs.items self.stations c.args.round s) in
    let station = c.loop-station.station in
    let text = c.loop-station.text.items in
    written-more record_of c.args.text.now.items text c.put_station_record.new.text.items 0 station station c.loop-station.invariant (omega arith)
    (c.in_ok-put_station_record.ensures ∙ ap (λ bytes. text ++ station_record station bytes) (c.as_slice.ensures.value ∙ c.in_ok-packet.ensures.bytes))

pub returns : goal.returns
returns c =
    let self = c.args.self.now in
    let record_of : ℕ → List ℕ = λ s. station_record s (data_bytes self.flips self.highs.items self.stations c.args.round s) in
    let all : c.loop-station.station ≡ self.stations = omega (arith, c.loop-station-test.false, c.loop-station.auto.station-end) in
    c.loop-station.invariant ∙ ap (λ n. c.args.text.now.items ++ flat_map record_of (range_with_len 0 n)) all
