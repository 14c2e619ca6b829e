-- A station and what it has heard.
use Rattle.std.specs.Prelude.{◌≡◌, ℕ, length, Option, None}
use Rattle.hk_base.specs.declared.plain.End.{End}
use Rattle.hk_spec_streams.specs.Blocks.{blocks}
use Rattle.hk_spec_settings.specs.Settings.{Rules}
use Rattle.hk_spec_runs.specs.Replay.{Listener}
use Rattle.hk_receiver.specs.Received.{HasReceived}
use Rattle.hk_station.specs.declared.station.Station.{Station}

abbrev pub station_number : Station → ℕ
station_number station = station.number

-- how many lines were written whole
abbrev pub lines_written : Station → ℕ
lines_written station = station.lines

-- the version of the last look
abbrev pub version_of : Station → ℕ
version_of station = station.version

-- the end, once the station is over
abbrev pub kept_end : Station → Option End
kept_end station = station.end

-- The station is the listener of these rules: it has received the bytes that the listener used, as long as that goes on, has
-- written a line for each of their blocks, and has the listener's version and end.
pub record IsHearing (rules : Rules) (station : Station) (l : Listener) : Type 0 where
  pub receives : l.end ≡ None → HasReceived rules station.receiver l.used
  pub end_is : station.end ≡ l.end
  pub lines : station.lines ≡ length (blocks rules.setting l.used)
  pub version_is : station.version ≡ l.version

-- a fact of each listener that the station is
abbrev pub ForEach : Station → (Rules → Listener → Type 0) → Type 0
ForEach station P = (rules : Rules) (l : Listener) → IsHearing rules station l → P rules l

-- The receiver and the number stay, and the rest is this.
pub record Becomes (old new : Station) (lines version : ℕ) (end : Option End) : Type 0 where
  pub receiver : new.receiver ≡ old.receiver
  pub number : new.number ≡ old.number
  pub lines_are : new.lines ≡ lines
  pub version_is : new.version ≡ version
  pub end_is : new.end ≡ end
