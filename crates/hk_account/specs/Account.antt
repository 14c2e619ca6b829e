-- What a station that was served adds up to since it was new.
use Rattle.std.specs.Prelude.{◌≡◌, ◌⊎◌, ℕ, ◌<◌, List, [], ◌∷◌, length, Option, Some, None}
use Rattle.hk_base.specs.declared.plain.End.{End}
use Rattle.hk_base.specs.declared.plain.End.TheVariants as ends
use Rattle.hk_spec_streams.specs.Blocks.{Block, blocks}
use Rattle.hk_spec_matching.specs.Catalogue.{Songs, Rise}
use Rattle.hk_spec_matching.specs.Matching.{matches}
use Rattle.hk_spec_settings.specs.Settings.{Rules}
use Rattle.hk_spec_runs.specs.History.{Reported}
use Rattle.hk_spec_runs.specs.Replay.{Listener, end_of}
use Rattle.hk_spec_runs.specs.Listening.{Instant, bytes_in, unheard, after, looks_over, versions_over, songs_in, Gives, UsesOf}
use Rattle.hk_spec_monitor.specs.Looks.{last_version}
use Rattle.hk_spec_monitor.specs.Run.{Heard, HasLines, log_text}
use Rattle.hk_spec_monitor.specs.Fences.{HasMetFences, IsAhead}

-- what is reported of blocks at versions whose songs are known
abbrev pub reported_of : (ℕ → Option Songs) → List Block → List ℕ → List Reported
reported_of past [] vs = []
reported_of past (block ∷ blocks) [] = []
reported_of past (block ∷ blocks) (v ∷ vs) = record { version = v; list = matches block.query (songs_in past v) } ∷ reported_of past blocks vs

module _ (rules : Rules) where
  -- the station that took these bytes, each with its version, and whose log never failed
  abbrev pub heard_of : List Instant → (ℕ → Option Songs) → End → Heard
  heard_of instants past end = record {
    taken = bytes_in instants;
    looks = looks_over rules unheard instants;
    reported = reported_of past (blocks rules.setting (after rules unheard instants).used) (versions_over rules unheard instants);
    torn = [];
    end = end;
  }

  -- How a listener's station came to its end: by what it heard, where its bytes ended, or because reading them or waiting for them
  -- failed.
  abbrev pub ComesTo : Listener → End → Type 0
  ComesTo l end = (l.end ≡ Some end) ⊎ ((l.end ≡ None) × (end ≡ end_of rules l)) ⊎ ((l.end ≡ None) × ((end ≡ ends.ReadFault) ⊎ (end ≡ ends.GateFault)))

  -- What was written is the log of one line for each block, at the versions of its looks; fences were met, but for the one that
  -- ended the station.
  pub record IsAccount (station : ℕ) (past : ℕ → Option Songs) (text : List ℕ) (l : Listener) (h : Heard) : Type 0 where
    pub lines : HasLines rules (songs_in past) station h
    pub log : text ≡ log_text rules station h
    pub fences : HasMetFences rules h
    pub ahead : (asked found : ℕ) → h.end ≡ ends.FenceAhead asked found → IsAhead rules asked found h
    pub version : l.version ≡ last_version h.looks
    pub count : length h.reported ≡ length (blocks rules.setting l.used)

  -- That is so since a station was new, over any bytes, where the versions of its looks don't fall.
  abbrev pub AccountSinceStart : Type 0
  AccountSinceStart = (station positions to : ℕ) (instants : List Instant) (text answers : List ℕ) (steps : ℕ) (past : ℕ → Option Songs) (end : End)
      → 0 < rules.setting.block.size → Gives rules station positions unheard instants text answers steps past → Rise 0 answers to
      → UsesOf rules (after rules unheard instants) (bytes_in instants) → ComesTo (after rules unheard instants) end
      → IsAccount station past text (after rules unheard instants) (heard_of instants past end)
