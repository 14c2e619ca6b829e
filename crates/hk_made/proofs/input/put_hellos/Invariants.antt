use Rattle.std.proofs.Common.{◌≡◌, ◌++◌, flat_map}
use Rattle.std.specs.List.{range_with_len}
use Rattle.hk_spec_made.specs.Input.{station_record, hello_bytes}
use Rattle.hk_made.proofs.input.put_hellos.Given as goal

abbrev pub invariant-loop-station : goal.invariant-loop-station
invariant-loop-station l = l.text.items ≡ l.fn.text.items ++ flat_map (λ s. station_record s hello_bytes) (range_with_len 0 l.station)
