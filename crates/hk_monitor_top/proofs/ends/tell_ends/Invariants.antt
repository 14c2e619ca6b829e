-- The ends of the stations so far are told.
use Rattle.std.proofs.Common.{◌≡◌, ◌≤◌, ℕ, length, Some}
use Rattle.std.specs.Prelude.{slice_get, vec_capacity}
use Rattle.hk_station.specs.declared.station.Station.{Station}
use Rattle.hk_summary.specs.declared.ends.StationEnd.{StationEnd}
use Rattle.hk_monitor_top.specs.Ends.{TellsEnd}
use Rattle.hk_monitor_top.proofs.ends.tell_ends.Given as goal

abbrev pub invariant-loop-station : goal.invariant-loop-station
invariant-loop-station l = record {
  count : length l.ends.items ≡ l.station-index;
  room : length l.fn.stations ≤ vec_capacity l.ends;
  told : (n : ℕ) (s : Station) (e : StationEnd) → slice_get l.fn.stations n ≡ Some s → slice_get l.ends.items n ≡ Some e → TellsEnd s e;
}
