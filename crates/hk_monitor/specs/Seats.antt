-- A seat before and after a run.
use Rattle.std.specs.Prelude.{◌≡◌, ℕ, ◌≤◌, List, [], ◌∷◌, ◌++◌, length, Some}
use mathlib.Core.List.{IsPrefix}
use Rattle.hk_base.specs.Devices.{Took, Wrote}
use Rattle.hk_base.specs.declared.sink.Sink as sinks
use Rattle.hk_spec_matching.specs.Catalogue.{Journal}
use Rattle.hk_spec_settings.specs.Settings.{Rules}
use Rattle.hk_outside.specs.declared.link.Link as links
use Rattle.hk_outside.specs.Doors.{Pair}
use Rattle.hk_outside.specs.declared.door.Held.TheVariants.{Outside}
use Rattle.hk_spec_monitor.specs.Looks.{last_version}
use Rattle.hk_spec_monitor.specs.Run.{Heard, HasLines, log_text, songs_seen}
use Rattle.hk_spec_monitor.specs.Fences.{HasMetFences}
use Rattle.hk_spec_monitor.specs.Causes.{CauseOf, StayedBut}
use Rattle.hk_station.specs.Hearing.{station_number, lines_written, version_of, kept_end}
use Rattle.hk_loop.specs.declared.seat.Seat.{Seat}
use Rattle.hk_served.specs.Served.{gate_of}
use Rattle.hk_publish.specs.Journals.{past_of_journal}
use Rattle.hk_publish.specs.Known.{Known}
use Rattle.hk_publish.specs.Holding.{Holding}

-- A reading after a run: it is of the desk's start, and what it saw begins with all that the desk has published.
pub record HasSeenAll (desk : Holding) (first now : Known) : Type 0 where
  pub home : now.home ≡ first.home
  pub limits : now.limits ≡ first.limits
  pub seen : IsPrefix desk.published now.seen

module _ {K S : Type 0} (link : links.Ghosts K) (sink : sinks.Ghosts S) where
  -- what a seat's link and log tell
  abbrev pub devices_of : Seat K S Known → Pair
  devices_of seat = record {
    held = Outside;
    gives = record { bytes = link.left seat.link; faults = link.faults seat.link };
    takes = record { bytes = sink.written seat.log; faults = sink.faults seat.log };
  }

  -- What a station did in its seat: the bytes that its link gave, its log, its looks and then the closing look, and its end with the
  -- cause. Its lines list the matches in the journal's versions, and over the last of them in those that its reading saw. No look is over
  -- the closing one.
  pub record DidInRun (rules : Rules) (journal : Journal) (gate gate' : ℕ) (first now : Seat K S Known) (h : Heard) : Type 0 where
    pub number : station_number now.station ≡ station_number first.station
    pub taken : Took h.taken (link.left first.link) (link.left now.link)
    pub log : Wrote (log_text rules (station_number first.station) h) (sink.written first.log) (sink.written now.log)
    pub lines : HasLines rules (songs_seen rules journal (past_of_journal rules.limits now.view.seen)) (station_number first.station) h
    pub fences : HasMetFences rules h
    pub end : kept_end now.station ≡ Some h.end
    pub cause : CauseOf rules (devices_of first) (devices_of now) (gate_of gate) (gate_of gate') h h.end
    pub stayed : StayedBut (devices_of first) (devices_of now) h.end
    pub count : lines_written now.station ≡ length h.reported
    pub version : version_of now.station ≡ last_version h.looks
    pub within : last_version h.looks ≤ length now.view.seen
    pub shown : now.view.shown ≡ h.looks ++ length now.view.seen ∷ []
