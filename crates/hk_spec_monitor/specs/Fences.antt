-- What the fences of a station came to.
use Rattle.std.specs.Prelude.{◌≡◌, ℕ, ◌<◌, Bool, true, false, List, [], ◌∷◌, ◌++◌, length}
use Rattle.hk_base.specs.declared.plain.End.{End}
use Rattle.hk_base.specs.declared.plain.End.TheVariants as ends
use Rattle.hk_spec_streams.specs.Blocks.{Moment, Asks}
use Rattle.hk_spec_settings.specs.Settings.{Rules}
use Rattle.hk_spec_monitor.specs.Looks.{AreMet}
use Rattle.hk_spec_monitor.specs.Run.{Heard, moments_heard}

-- a station ended by a fence
abbrev pub is_ahead : End → Bool
is_ahead (ends.FenceAhead asked found) = true
is_ahead ends.SinkFault = false
is_ahead ends.Ended = false
is_ahead (ends.Wire fault) = false
is_ahead ends.ReadFault = false
is_ahead ends.GateFault = false

-- Each fence that didn't end the station was met: its look, and so each later one, found at least the version that it asks for.
abbrev pub HasMetFences : Rules → Heard → Type 0
HasMetFences rules h = is_ahead h.end ≡ false → AreMet (moments_heard rules h) h.looks

-- The last look was that of a fence that asks for more than it found. Every fence before was met.
pub record IsAhead (rules : Rules) (asked found : ℕ) (h : Heard) : Type 0 where
  pub less : found < asked
  pub front : List Moment
  pub before : List ℕ
  pub moments_are : moments_heard rules h ≡ front ++ Asks asked ∷ []
  pub looks_are : h.looks ≡ before ++ found ∷ []
  pub one_each : length before ≡ length front
  pub met : AreMet front before
