-- A seat that is served: what its station heard of the bytes that its link gave, and how it ended.
use Rattle.std.specs.Prelude.{◌≡◌, ◌⊎◌, ℕ, List, ◌∷◌, ◌++◌, Option, Some, None}
use Rattle.hk_base.specs.Devices.{Rose, Took, IsNothing}
use Rattle.hk_base.specs.declared.plain.End.{End}
use Rattle.hk_base.specs.declared.plain.End.TheVariants as ends
use Rattle.hk_base.specs.declared.sink.Sink as sinks
use Rattle.hk_outside.specs.declared.link.Link as links
use Rattle.hk_spec_runs.specs.Replay.{end_of}
use Rattle.hk_spec_runs.specs.Listening.{Instant, bytes_in}
use Rattle.hk_block.specs.declared.looker.Looker as lookers
use Rattle.hk_station.specs.declared.station.Station.{Station}
use Rattle.hk_station.specs.Hearing.{ForEach, station_number, lines_written, version_of, kept_end}
use Rattle.hk_station.specs.Feeding.{HasHeard, WasTorn}
use Rattle.hk_loop.specs.declared.seat.Seat.{Seat}

module _ {K S V : Type 0} (link : links.Ghosts K) (sink : sinks.Ghosts S) (looker : lookers.Ghosts V) where
  -- The seat's station has heard all bytes that its link gave, and no read failed. The steps are not told.
  pub record Listens (first now : Seat K S V) : Type 0 where
    pub instants : List Instant
    pub takes : Took (bytes_in instants) (link.left first.link) (link.left now.link)
    pub reads : link.faults now.link ≡ link.faults first.link
    pub hears : HasHeard looker sink instants first.station now.station first.view now.view first.log now.log 0 0

  -- Why a station that heard this far has ended: by what it heard; at the end of its link; since a read of its link failed; or
  -- since its gate failed, whose count of faults was the one number and is the other.
  pub data Stops (first now : Seat K S V) (heard : Station) (gate gate' : ℕ) (end : End) : Type 0 where
    ByItself : kept_end heard ≡ Some end → link.faults now.link ≡ link.faults first.link → Stops first now heard gate gate' end
    AtItsEnd : kept_end heard ≡ None → IsNothing (link.left now.link) → ForEach heard (λ rules l. end ≡ end_of rules l)
        → link.faults now.link ≡ link.faults first.link → Stops first now heard gate gate' end
    ByItsLink : kept_end heard ≡ None → end ≡ ends.ReadFault → Rose (link.faults first.link) (link.faults now.link) → Stops first now heard gate gate' end
    ByItsGate : kept_end heard ≡ None → end ≡ ends.GateFault → Rose gate gate' → link.faults now.link ≡ link.faults first.link → Stops first now heard gate gate' end

  -- The station heard all bytes that its link gave, and then ended.
  pub record EndsWhole (first now : Seat K S V) (gate gate' : ℕ) (end : End) : Type 0 where
    pub instants : List Instant
    pub heard : Station
    pub takes : Took (bytes_in instants) (link.left first.link) (link.left now.link)
    pub hears : HasHeard looker sink instants first.station heard first.view now.view first.log now.log 0 0
    pub number : station_number now.station ≡ station_number heard
    pub lines : lines_written now.station ≡ lines_written heard
    pub version : version_of now.station ≡ version_of heard
    pub stops : Stops first now heard gate gate' end

  -- A write of the log failed. What was taken behind the byte of that line wasn't heard.
  pub record EndsTorn (first now : Seat K S V) (end : End) : Type 0 where
    pub instants : List Instant
    pub torn : Instant
    pub unheard_bytes : List ℕ
    pub takes : Took (bytes_in instants ++ torn.byte ∷ unheard_bytes) (link.left first.link) (link.left now.link)
    pub reads : link.faults now.link ≡ link.faults first.link
    pub hears : WasTorn looker sink instants torn first.station now.station first.view now.view first.log now.log 0 0
    pub end_is : end ≡ ends.SinkFault

  -- It goes on, or it is over.
  abbrev pub IsServed : Option End → Seat K S V → Seat K S V → ℕ → ℕ → Type 0
  IsServed None first now gate gate' = Listens first now
  IsServed (Some end) first now gate gate' = EndsWhole first now gate gate' end ⊎ EndsTorn first now end

  -- What is promised of a seat while it is served, since it was this one.
  abbrev pub Serves : Seat K S V → Seat K S V → ℕ → ℕ → Type 0
  Serves first now gate gate' = IsServed (kept_end now.station) first now gate gate'

  -- What is promised of a seat that was served: its station is over, and has heard what its link gave, and has ended by a cause.
  pub record HasServed (gate gate' : ℕ) (first now : Seat K S V) : Type 0 where
    pub end : End
    pub over : kept_end now.station ≡ Some end
    pub ends : EndsWhole first now gate gate' end ⊎ EndsTorn first now end

  -- What was promised of a seat since it was any one is promised still, and its looks need as much room.
  pub record Keeps (old new : Seat K S V) : Type 0 where
    pub room : (looker.looker new.view).room ≡ (looker.looker old.view).room
    pub serves : (first : Seat K S V) (gate gate' : ℕ) → Serves first old gate gate' → Serves first new gate gate'

  -- The same where the gate's count of faults rose. The station is over, and if it wasn't it ended by that.
  pub record Closes (old new : Seat K S V) : Type 0 where
    pub end : End
    pub over : kept_end new.station ≡ Some end
    pub by_gate : kept_end old.station ≡ None → end ≡ ends.GateFault
    pub serves : (first : Seat K S V) (gate gate' : ℕ) → Rose gate gate' → Serves first old gate gate' → Serves first new gate gate'
