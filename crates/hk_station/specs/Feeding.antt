-- What a station does with the bytes that it is given, with the view that it looks through, and with its log.
use Rattle.std.specs.Prelude.{◌≡◌, ◌≤◌, ℕ, ◌+◌, List, [], ◌∷◌}
use Rattle.hk_base.specs.Writing.{HasWritten, HasFailed}
use Rattle.hk_base.specs.declared.sink.Sink as sinks
use Rattle.hk_spec_runs.specs.Listening.{Instant, after, Gives, GivesOne}
use Rattle.hk_block.specs.Looker.{LookerView, Looks}
use Rattle.hk_block.specs.declared.looker.Looker as lookers
use Rattle.hk_station.specs.declared.station.Station.{Station}
use Rattle.hk_station.specs.Hearing.{IsHearing, ForEach, station_number, lines_written, version_of}

-- a byte as it is heard with this view
abbrev pub instant : LookerView → ℕ → Instant
instant view byte = record { byte = byte; version = view.at; songs = view.songs }

module _ {V K : Type 0} (looker : lookers.Ghosts V) (sink : sinks.Ghosts K) where
  -- A station has heard these instants: the lines of their blocks were written, and their looks were made, within their steps.
  -- Without a look the view stays.
  pub record HasHeard (instants : List Instant) (old new : Station) (view view' : V) (log log' : K) (ticks ticks' : ℕ) : Type 0 where
    pub text : List ℕ
    pub answers : List ℕ
    pub steps : ℕ
    pub writes : HasWritten sink text log log'
    pub looks : Looks answers (looker.looker view) (looker.looker view')
    pub idle : answers ≡ [] → view' ≡ view
    pub bound : ticks' ≤ ticks + steps
    pub number : station_number new ≡ station_number old
    pub hears : ForEach old (λ rules l. IsHearing rules new (after rules l instants)
        × Gives rules (station_number old) (looker.looker view).room l instants text answers steps (looker.looker view').past)

  -- At this instant the write of a block's line failed. The line isn't counted, but its look was made.
  pub record IsTorn (i : Instant) (old new : Station) (view view' : V) (log log' : K) (ticks ticks' : ℕ) : Type 0 where
    pub line : List ℕ
    pub steps : ℕ
    pub fails : HasFailed sink line log log'
    pub looks : Looks (i.version ∷ []) (looker.looker view) (looker.looker view')
    pub at : i ≡ instant (looker.looker view') i.byte
    pub bound : ticks' ≤ ticks + steps
    pub number : station_number new ≡ station_number old
    pub lines : lines_written new ≡ lines_written old
    pub version_is : version_of new ≡ i.version
    pub hears : ForEach old (λ rules l. GivesOne rules (station_number old) (looker.looker view).room l i line steps)

  -- These instants were heard, and at the next one a write failed.
  pub record WasTorn (instants : List Instant) (torn : Instant) (old new : Station) (view view' : V) (log log' : K) (ticks ticks' : ℕ) : Type 0 where
    pub station : Station
    pub seen : V
    pub whole : K
    pub made : ℕ
    pub heard : HasHeard instants old station view seen log whole ticks made
    pub tears : IsTorn torn station new seen view' whole log' made ticks'
