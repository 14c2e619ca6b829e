-- What is told of the ends of stations.
use Rattle.std.specs.Prelude.{◌≡◌, ℕ, List, length, slice_get, Some}
use Rattle.hk_station.specs.Hearing.{station_number, lines_written, version_of, kept_end}
use Rattle.hk_station.specs.declared.station.Station.{Station}
use Rattle.hk_summary.specs.declared.ends.StationEnd.{StationEnd}

pub record TellsEnd (station : Station) (told : StationEnd) : Type 0 where
  pub number : told.number ≡ station_number station
  pub blocks : told.blocks ≡ lines_written station
  pub version : told.version ≡ version_of station
  pub end : kept_end station ≡ Some told.end

-- One end of each station, at its place.
pub record TellEnds (stations : List Station) (ends : List StationEnd) : Type 0 where
  pub one_each : length ends ≡ length stations
  pub each : (n : ℕ) (station : Station) (told : StationEnd) → slice_get stations n ≡ Some station → slice_get ends n ≡ Some told → TellsEnd station told
