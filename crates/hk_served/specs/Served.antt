-- What a station did in its seat while it was served, since it was new.
use Rattle.std.specs.Prelude.{◌≡◌, ℕ, ◌<◌, false, List, length, slice_index_or, Some}
use Rattle.std.specs.List.{All}
use Rattle.hk_base.specs.Devices.{Took, Wrote}
use Rattle.hk_base.specs.declared.sink.Sink as sinks
use Rattle.hk_outside.specs.Doors.{Pair, HeldGate}
use Rattle.hk_outside.specs.declared.door.Held.TheVariants.{Outside}
use Rattle.hk_outside.specs.declared.link.Link as links
use Rattle.hk_spec_matching.specs.Catalogue.{Songs}
use Rattle.hk_spec_settings.specs.Settings.{Rules}
use Rattle.hk_spec_runs.specs.Listening.{unheard, songs_in}
use Rattle.hk_spec_monitor.specs.Looks.{last_version}
use Rattle.hk_spec_monitor.specs.Run.{Heard, HasLines, log_text}
use Rattle.hk_spec_monitor.specs.Fences.{HasMetFences}
use Rattle.hk_spec_monitor.specs.Causes.{CauseOf, StayedBut, is_gate_fault}
use Rattle.hk_block.specs.Looker.{LookerView, Past, Looks}
use Rattle.hk_block.specs.declared.looker.Looker as lookers
use Rattle.hk_station.specs.Hearing.{IsHearing, station_number, lines_written, version_of, kept_end}
use Rattle.hk_loop.specs.declared.seat.Seat.{Seat}
use Rattle.hk_loop.specs.Serving.{HasServed}
use Rattle.hk_loop.specs.Rows.{Each, GateCounts}

-- what is told of a gate that is handed out, with this count of faults
abbrev pub gate_of : ℕ → HeldGate
gate_of faults = record { held = Outside; faults = faults }

module _ {K S V : Type 0} (link : links.Ghosts K) (sink : sinks.Ghosts S) (looker : lookers.Ghosts V) where
  -- what is told of a seat's link and log, which are handed out
  abbrev pub pair_of : Seat K S V → Pair
  pair_of seat = record {
    held = Outside;
    gives = record { bytes = link.left seat.link; faults = link.faults seat.link };
    takes = record { bytes = sink.written seat.log; faults = sink.faults seat.log };
  }

  -- what the seat's view is, and the songs of each version that it knows
  abbrev pub view_of : Seat K S V → LookerView
  view_of seat = looker.looker seat.view

  abbrev pub past_of : Seat K S V → Past
  past_of seat = (view_of seat).past

  -- What a seat's station did, while its gate's count of faults went from the one number to the other. The bytes were taken from its
  -- link; its log is their log, over the songs that its view knows; all looks of the view were its own; its end has its cause, and no
  -- failure of the link or the log was passed over.
  pub record DidInSeat (rules : Rules) (gate gate' : ℕ) (first now : Seat K S V) (h : Heard) : Type 0 where
    pub number : station_number now.station ≡ station_number first.station
    pub taken : Took h.taken (link.left first.link) (link.left now.link)
    pub log : Wrote (log_text rules (station_number first.station) h) (sink.written first.log) (sink.written now.log)
    pub lines : HasLines rules (songs_in (past_of now)) (station_number first.station) h
    pub fences : HasMetFences rules h
    pub end : kept_end now.station ≡ Some h.end
    pub cause : CauseOf rules (pair_of first) (pair_of now) (gate_of gate) (gate_of gate') h h.end
    pub stayed : StayedBut (pair_of first) (pair_of now) h.end
    pub count : lines_written now.station ≡ length h.reported
    pub version : version_of now.station ≡ last_version h.looks
    pub looks : Looks h.looks (view_of first) (view_of now)
    pub known : All (λ v. (songs : Songs) × (past_of now v ≡ Some songs)) h.looks

  -- The stations of a worker's seats did these, each in its own seat. The gate's count stayed, but where its failure ended one of them.
  pub record DidInSeats (rules : Rules) (gate gate' : ℕ) (firsts nows : List (Seat K S V)) (heard : List Heard) : Type 0 where
    pub as_many : length nows ≡ length firsts
    pub one_each : length heard ≡ length firsts
    pub seats : (i : ℕ) (d : Seat K S V) (e : Heard) → i < length firsts
        → DidInSeat rules gate gate' (slice_index_or firsts i d) (slice_index_or nows i d) (slice_index_or heard i e)
    pub gate_stayed : All (λ h. is_gate_fault h.end ≡ false) heard → gate' ≡ gate

  -- A seat that was served since its station was new did something that is so.
  abbrev pub ServedSinceNew : Type 0
  ServedSinceNew = (rules : Rules) (gate gate' : ℕ) (first now : Seat K S V) → IsHearing rules first.station unheard
      → HasServed link sink looker gate gate' first now → (h : Heard) × DidInSeat rules gate gate' first now h

  -- The same of all seats that a worker has served.
  abbrev pub AllServedSinceNew : Type 0
  AllServedSinceNew = (rules : Rules) (gate gate' : ℕ) (firsts nows : List (Seat K S V)) → All (λ seat. IsHearing rules seat.station unheard) firsts
      → Each (HasServed link sink looker gate gate') firsts nows → GateCounts gate gate' nows → (heard : List Heard) × DidInSeats rules gate gate' firsts nows heard
