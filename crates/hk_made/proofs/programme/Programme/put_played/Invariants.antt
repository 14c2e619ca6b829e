use Rattle.std.proofs.Common.{◌≡◌, ◌++◌, flat_map}
use Rattle.std.specs.List.{range_with_len}
use Rattle.hk_spec_made.specs.Input.{station_record, data_bytes}
use Rattle.hk_made.proofs.programme.Programme.put_played.Given as goal

abbrev pub invariant-loop-station : goal.invariant-loop-station
invariant-loop-station l = l.text.items ≡ l.fn.text.items
    ++ flat_map (λ s. station_record s (data_bytes l.self.flips l.self.highs.items l.self.stations l.round s)) (range_with_len 0 l.station)
