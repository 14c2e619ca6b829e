-- What follows of a run whose logs, looks and replies are as its definitions say.
use Rattle.std.specs.Prelude.{◌≡◌, ℕ, ◌≤◌, ◌<◌, List, slice_get, Option, Some}
use Rattle.std.specs.List.{enumerate_from}
use Rattle.hk_spec_streams.specs.Blocks.{Moment, Asks}
use Rattle.hk_spec_matching.specs.Catalogue.{Songs, Rise}
use Rattle.hk_spec_settings.specs.Settings.{Rules}
use Rattle.hk_spec_runs.specs.History.{history, IsLegal}
use Rattle.hk_spec_runs.specs.Replay.{lines_at}
use Rattle.hk_spec_monitor.specs.Looks.{AreMet, last_version}
use Rattle.hk_spec_monitor.specs.Run.{Heard, Run, EachStation, HasLines, songs_seen, stations_of, blocks_heard, lines_text, versions_of}

-- Where each station's lines list the matches of the journal's versions, and over its last version those of a past of the
-- station's own, all these lines and the publishes are one legal history.
abbrev pub LinesAreLegal : Rules → Type 0
LinesAreLegal rules = (run : Run) (past : ℕ → ℕ → Option Songs)
    → EachStation run (λ n h. HasLines rules (songs_seen rules run.journal (past n)) n h)
    → IsLegal rules.limits (history run.journal (stations_of rules run))

-- The whole lines are one for each of the first blocks, each at its version: a function of the blocks, the versions and the songs.
abbrev pub LinesAreLog : Rules → Type 0
LinesAreLog rules = (songs : ℕ → Songs) (station : ℕ) (h : Heard) → HasLines rules songs station h
    → lines_text rules station h ≡ lines_at station songs (enumerate_from 0 (blocks_heard rules h)) (versions_of h.reported)

-- A look of a moment behind a fence that was met has at least the version that the fence asks for.
abbrev pub LaterLooksHave : Type 0
LaterLooksHave = (moments : List Moment) (looks : List ℕ) (from to : ℕ) → AreMet moments looks → Rise from looks to
    → (i j asked v : ℕ) → i < j → slice_get moments i ≡ Some (Asks asked) → slice_get looks j ≡ Some v → asked ≤ v

-- No look's version is over that of the last.
abbrev pub NoLookIsOver : Type 0
NoLookIsOver = (looks : List ℕ) (n v : ℕ) → Rise 0 looks (last_version looks) → slice_get looks n ≡ Some v → v ≤ last_version looks
