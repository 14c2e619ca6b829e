-- What a station adds up to whose log failed since it was new.
use Rattle.std.specs.Prelude.{◌≡◌, ℕ, ◌<◌, List, [], ◌∷◌, ◌++◌, length, Option, Some}
use Rattle.hk_base.specs.declared.plain.End.TheVariants as ends
use Rattle.hk_spec_sound.specs.Prints.{full_analysis}
use Rattle.hk_spec_streams.specs.Blocks.{blocks}
use Rattle.hk_spec_matching.specs.Catalogue.{Songs, Rise}
use Rattle.hk_spec_settings.specs.Settings.{Rules}
use Rattle.hk_spec_runs.specs.Listening.{Instant, bytes_in, unheard, after, looks_over, versions_over, GivesOne, IsLogOf}
use Rattle.hk_spec_monitor.specs.Run.{Heard}
use Rattle.hk_account.specs.Account.{reported_of, IsAccount}

module _ (rules : Rules) where
  -- The station that took these bytes, each with its version, and then one that completed a block. Only this front of the block's line
  -- was written, and the bytes behind that byte were taken and not heard.
  abbrev pub torn_of : List Instant → Instant → List ℕ → (ℕ → Option Songs) → List ℕ → Heard
  torn_of instants torn behind past front = record {
    taken = bytes_in instants ++ torn.byte ∷ behind;
    looks = looks_over rules unheard instants ++ torn.version ∷ [];
    reported = reported_of past (blocks rules.setting (after rules unheard instants).used) (versions_over rules unheard instants);
    torn = front;
    end = ends.SinkFault;
  }

  -- Where it had written the log of its blocks, it has the account of a station that wrote this front behind its whole lines, and whose
  -- last look was that of the torn line; that line isn't counted. So it is over any bytes, where the versions of its looks don't fall.
  abbrev pub TornAccountSinceStart : Type 0
  TornAccountSinceStart = (station room to : ℕ) (instants : List Instant) (text : List ℕ) (past : ℕ → Option Songs) (torn : Instant) (line : List ℕ) (steps : ℕ) (behind front missing : List ℕ)
      → 0 < rules.setting.block.size → rules.setting.analysis ≡ full_analysis → Rise 0 (looks_over rules unheard instants ++ torn.version ∷ []) to
      → IsLogOf rules station (after rules unheard instants) (versions_over rules unheard instants) past text
      → GivesOne rules station room (after rules unheard instants) torn line steps → past torn.version ≡ Some torn.songs
      → line ≡ front ++ missing → 0 < length missing
      → IsAccount rules station past (text ++ front) (record (after rules unheard instants) { version = torn.version }) (torn_of instants torn behind past front)
