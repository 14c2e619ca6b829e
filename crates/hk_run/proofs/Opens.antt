-- A run before its first byte.
use Rattle.std.proofs.Common.{◌≡◌, ℕ, ◌+◌, [], ◌∷◌, ◌++◌, refl, sym, subst, arith}
use Rattle.std.specs.Prelude.{replicate}
use Rattle.std.proofs.lemmas.List.{replicate-append-replicate}
use Rattle.hk_spec_runs.specs.OperatorState.{new_state}
use Rattle.hk_spec_settings.specs.Settings.{Rules}
use Rattle.hk_spec_streams.specs.Records.{arrivals}
use Rattle.hk_spec_streams.specs.Pieces.{pieces_within}
use Rattle.hk_spec_matching.specs.Catalogue.{version}
use Rattle.hk_records.specs.Reader.{HasRead, input_limit, stations_of}
use Rattle.hk_records.proofs.Reading.{no_text}
use Rattle.hk_probe.specs.Single.{Single, new_single, shelf_of}
use Rattle.hk_spec_runs.specs.Listening.{unheard}
use Rattle.hk_operator.specs.OnShelf.{IsOnShelf}
use Rattle.hk_operator.specs.Sound.{IsFixed}
use Rattle.hk_operator.specs.Obeying.{IsObeying, new_stream}
use Rattle.hk_words.specs.Rules.{rules_meant, RulesFit}
use Rattle.hk_words.specs.declared.rules.RunRules.{RunRules}
use Rattle.hk_run.specs.Holding.{AreHearing}
use Rattle.hk_run.specs.Playing.{HasPlayed}
use Rattle.hk_run.specs.declared.run.Run.{Run}
use Rattle.hk_run.proofs.Settling.{none_settled}

pub one_more : {A : Type 0} (n : ℕ) (x : A) → replicate n x ++ x ∷ [] ≡ replicate (n + 1) x
one_more n x = replicate-append-replicate n 1 x

-- an empty catalogue is at the state before the first command
pub new_on_shelf : (rules : Rules) (alone : Single) → alone ≡ new_single rules.limits → IsOnShelf rules (shelf_of alone) new_state
unfolding version
new_on_shelf rules alone is = subst (λ (s : Single). IsOnShelf rules (shelf_of s) new_state) (sym is) (record { present = refl; staged = refl; base = refl; limits = refl })

pub is_fixed : (r : RunRules) → IsFixed (rules_meant r)
is_fixed r = record { block_size = refl; errors = refl; analysis = refl }

pub opens : (r : RunRules) (run : Run) → RulesFit r → HasRead run.reader [] → input_limit run.reader ≡ r.bytes → stations_of run.reader ≡ r.stations
    → AreHearing (rules_meant r) 0 run.stations.items (replicate r.stations unheard) → IsObeying (rules_meant r) run.operator (shelf_of run.catalogue) new_stream new_state
    → HasPlayed (rules_meant r) run [] []
unfolding arrivals pieces_within
opens r run fits read limit stations hears obeys = record {
  read = read;
  limit = limit;
  stations = stations;
  in_form = record { reads = refl; no_fault = no_text r.stations r.bytes; few = omega arith };
  most = omega (arith, fits.bytes.1);
  holds = record { hears = hears; obeys = obeys };
  settled = none_settled (rules_meant r);
}
