-- What a plan sets a run to.
use Rattle.std.specs.Prelude.{◌≤◌}
use Rattle.hk_spec_sound.specs.Prints.{full_analysis}
use Rattle.hk_spec_matching.specs.Matching.{MOST_ERRORS}
use Rattle.hk_outside.specs.Doors.{Planned}
use Rattle.hk_outside.specs.declared.door.Plan.{Plan}
use Rattle.hk_spec_monitor.specs.Setup.{Setup}

-- the setup whose plan this is
abbrev pub setup_of_plan : Planned → Setup
setup_of_plan plan = record {
  rules = record {
    setting = record { analysis = full_analysis; flips = plan.flips; block = record { size = 256; hop = plan.hop } };
    errors = MOST_ERRORS;
    limits = record { songs = plan.songs; positions = plan.positions; versions = plan.versions };
    stations = plan.stations;
    bytes = plan.bytes;
  };
  workers = plan.workers;
  address = plan.address;
  station_port = plan.station_port;
  operator_port = plan.operator_port;
  logs = plan.logs;
}

-- The plan's numbers are such as the options allow.
pub record PlanFits (plan : Plan) : Type 0 where
  pub some_station : 1 ≤ plan.stations
  pub stations : plan.stations ≤ 64
  pub some_worker : 1 ≤ plan.workers
  pub workers : plan.workers ≤ 16
  pub flips : plan.flips ≤ 10
  pub some_hop : 1 ≤ plan.hop
  pub hop : plan.hop ≤ 256
  pub some_song : 1 ≤ plan.songs
  pub songs : plan.songs ≤ 65536
  pub some_position : 256 ≤ plan.positions
  pub positions : plan.positions ≤ 16777216
  pub some_version : 1 ≤ plan.versions
  pub versions : plan.versions ≤ 1000000000
  pub some_byte : 1 ≤ plan.bytes
  pub bytes : plan.bytes ≤ 4000000000000000000
