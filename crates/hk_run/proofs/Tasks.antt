-- What a run prints, by what the command to replay asks for.
use Rattle.std.proofs.Common.{◌≡◌, [], ℕ, List, ◌++◌, refl, ◌∙◌, ap, None}
use Rattle.hk_spec_streams.specs.Pieces.{pieces_within, seen_of}
use Rattle.hk_spec_streams.specs.Records.{arrivals, input_met}
use Rattle.hk_spec_streams.proofs.NextFault.{seen_of-all}
use Rattle.hk_spec_settings.specs.Settings.{Rules}
use Rattle.hk_spec_runs.specs.Outcome.{task_of, has_ended}
use Rattle.hk_spec_runs.specs.Replay.{scene_of, replay, summary}
use Rattle.hk_spec_runs.specs.Words.{Replay}
use Rattle.hk_run.specs.Course.{scene_after, printed_for}
use Rattle.hk_records.proofs.Reading.{no_text}

module _ (rules : Rules) (refused text : List ℕ) (fine : (task_of (Replay rules)).met text ≡ None) where
  seen_is : {A : Type 0} (f : List ℕ → A) → f (seen_of (input_met rules.stations rules.bytes) text) ≡ f text
  seen_is f = ap f (seen_of-all (input_met rules.stations rules.bytes) text fine)

  -- bytes without a fault are all seen
  pub text_is : (task_of (Replay rules)).text text refused ≡ printed_for rules refused text
  unfolding scene_of
  text_is = seen_is (printed_for rules refused)

  pub whole_is : (task_of (Replay rules)).whole text refused ≡ (task_of (Replay rules)).text text refused ++ summary rules (scene_after rules refused text)
  unfolding scene_of replay
  whole_is = seen_is (λ t. (task_of (Replay rules)).text text refused ++ summary rules (scene_after rules refused t))

  pub ended_is : (task_of (Replay rules)).ended text refused ≡ has_ended rules (scene_after rules refused text)
  unfolding scene_of
  ended_is = seen_is (λ t. has_ended rules (scene_after rules refused t))

-- nothing is printed for no byte
nothing_after : (rules : Rules) → printed_for rules [] [] ≡ []
unfolding arrivals pieces_within
nothing_after rules = refl

pub nothing_printed : (rules : Rules) → (task_of (Replay rules)).text [] [] ≡ []
nothing_printed rules = text_is rules [] [] (no_text rules.stations rules.bytes) ∙ nothing_after rules
