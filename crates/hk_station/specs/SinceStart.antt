-- Laws of a station: pieces heard one after another, and what was written and used since it was new.
use Rattle.std.specs.Prelude.{◌≡◌, ℕ, ◌<◌, List, [], ◌∷◌, ◌++◌}
use Rattle.hk_base.specs.declared.sink.Sink as sinks
use Rattle.hk_spec_settings.specs.Settings.{Rules}
use Rattle.hk_spec_runs.specs.Listening.{Instant, bytes_in, unheard, after, versions_over, IsLogOf, UsesOf}
use Rattle.hk_block.specs.Looker.{Past}
use Rattle.hk_block.specs.declared.looker.Looker as lookers
use Rattle.hk_station.specs.declared.station.Station.{Station}
use Rattle.hk_station.specs.Hearing.{IsHearing, station_number}
use Rattle.hk_station.specs.Feeding.{HasHeard, WasTorn}

-- The text is the log of the blocks of the bytes that a station used of these, with a version for each, over the songs of the past.
pub record IsLogSince (rules : Rules) (station : Station) (instants : List Instant) (past : Past) (text : List ℕ) : Type 0 where
  pub log : IsLogOf rules (station_number station) (after rules unheard instants) (versions_over rules unheard instants) past text
  pub uses : UsesOf rules (after rules unheard instants) (bytes_in instants)

module _ {V K : Type 0} (looker : lookers.Ghosts V) (sink : sinks.Ghosts K) where
  -- Pieces that were heard one after another are one piece that was heard.
  abbrev pub PiecesJoin : Type 0
  PiecesJoin = (first second : List Instant) (old mid new : Station) (view seen view' : V) (log whole log' : K) (ticks made ticks' : ℕ)
      → HasHeard looker sink first old mid view seen log whole ticks made
      → HasHeard looker sink second mid new seen view' whole log' made ticks'
      → HasHeard looker sink (first ++ second) old new view view' log log' ticks ticks'

  -- Pieces that were heard, and a piece at which a write failed, are one piece at which it failed.
  abbrev pub TornJoins : Type 0
  TornJoins = (first second : List Instant) (torn : Instant) (old mid new : Station) (view seen view' : V) (log whole log' : K) (ticks made ticks' : ℕ)
      → HasHeard looker sink first old mid view seen log whole ticks made
      → WasTorn looker sink second torn mid new seen view' whole log' made ticks'
      → WasTorn looker sink (first ++ second) torn old new view view' log log' ticks ticks'

  -- What a station has written since it was new is the log of the blocks of the bytes that it used.
  abbrev pub LogSinceStart : Type 0
  LogSinceStart = (rules : Rules) (instants : List Instant) (old new : Station) (view view' : V) (log log' : K) (ticks ticks' : ℕ)
      → 0 < rules.setting.block.size → IsHearing rules old unheard
      → (heard : HasHeard looker sink instants old new view view' log log' ticks ticks')
      → IsLogSince rules old instants (looker.looker view').past heard.text

  -- Where a write failed, its line would have made the log of one block more: a proper front of that line was written.
  abbrev pub TornSinceStart : Type 0
  TornSinceStart = (rules : Rules) (instants : List Instant) (torn : Instant) (old new : Station) (view view' : V) (log log' : K) (ticks ticks' : ℕ)
      → 0 < rules.setting.block.size → IsHearing rules old unheard
      → (was : WasTorn looker sink instants torn old new view view' log log' ticks ticks')
      → IsLogSince rules old instants (looker.looker view').past was.heard.text
      × IsLogSince rules old (instants ++ torn ∷ []) (looker.looker view').past (was.heard.text ++ was.tears.line)
