-- What is printed for a text begins what is printed for a longer one.
use Rattle.std.proofs.Common.{◌≡◌, ℕ, ◌+◌, List, [], ◌∷◌, ◌++◌, length, sym, ◌∙◌, ap, append_assoc, append-nil, refl, true, false, Some, None, cond, fold}
use Rattle.std.specs.Prelude.{slice_get, flat_map, if◌then◌else◌}
use Rattle.std.specs.Option.{option_map_or, is_some}
use Rattle.std.specs.List.{enumerate_from}
use Rattle.std.proofs.lemmas.List.Concat.{flat_map-append}
use Rattle.hk_base.specs.declared.plain.What.{What}
use Rattle.hk_base.specs.declared.plain.WireFault.{WireFault}
use Rattle.hk_base.specs.declared.plain.OpEnd.TheVariants as op_ends
use Rattle.hk_spec_sound.proofs.Growing.{Grows, by_one}
use Rattle.hk_spec_streams.specs.Pieces.{completed, fault_of}
use Rattle.hk_spec_streams.specs.Records.{Arrival, ForStation, ForOperator, arrival_after, open_bytes, input_met}
use Rattle.hk_spec_streams.specs.Operator.{Command, commands, operator_met}
use Rattle.hk_spec_lines.specs.Lines.{Printed, Replied, printed_text}
use Rattle.hk_spec_settings.specs.Settings.{Rules}
use Rattle.hk_spec_runs.specs.Outcome.{task_of}
use Rattle.hk_spec_runs.specs.Words.{Replay}
use Rattle.hk_spec_runs.specs.Replay.{Scene, arrived, for_station, obeyed, reply_to, heard, reports, scene_of}
use Rattle.hk_run.specs.Course.{scene_after, printed_for}
use Rattle.hk_run.proofs.Seen.{seen-more}
use Rattle.hk_run.proofs.Arriving.{scene_after-append}

module _ (rules : Rules) (refused : List ℕ) where
  Prints : Scene → Scene → Type 0
  Prints before now = (more : List Printed) × (now.printed ≡ before.printed ++ more)

  obeyed_prints : (scene : Scene) (cs : List (ℕ × Command)) → Prints scene (fold (obeyed rules refused) scene cs)
  unfolding Prints
  obeyed_prints scene [] = ([], sym (append-nil scene.printed))
  obeyed_prints scene (c ∷ cs) =
      let reply : What = reply_to rules refused c.0 scene.state c.1 in
      let later = obeyed_prints (obeyed rules refused scene c) cs in
      (Replied c.0 reply ∷ later.0, later.1 ∙ append_assoc scene.printed (Replied c.0 reply ∷ []) later.0)

  arrived_prints : (scene : Scene) (a : Arrival) → Prints scene (arrived rules refused scene a)
  unfolding Prints
  arrived_prints scene (ForStation n b) = elim (slice_get scene.listeners n) as (λ o. Prints scene (for_station rules scene n b o)) [
    | None ↦ ([], sym (append-nil scene.printed))
    | Some l ↦ (reports rules n scene.state.journal l (if is_some l.end then l else heard rules (length scene.state.journal) l b), refl)
  ]
  arrived_prints scene (ForOperator b) =
      let used : List ℕ = scene.operator_stream.used ++ b ∷ [] in
      let quiet : Scene = record scene { operator_stream = record { used = used; end = None } } in
      let going : Scene = fold (obeyed rules refused) quiet (enumerate_from (length (commands scene.operator_stream.used) + 1) (completed commands used)) in
      let over : WireFault → Scene = λ fault. record scene { operator_stream = record { used = scene.operator_stream.used; end = Some (op_ends.Wire fault) } } in
      elim (is_some scene.operator_stream.end) as (λ t. Prints scene (cond t scene (option_map_or over (operator_met rules.bytes used) going))) [
        | true ↦ ([], sym (append-nil scene.printed))
        | false ↦ elim (operator_met rules.bytes used) as (λ o. Prints scene (option_map_or over o going)) [
          | None ↦ obeyed_prints quiet (enumerate_from (length (commands scene.operator_stream.used) + 1) (completed commands used))
          | Some fault ↦ ([], sym (append-nil scene.printed))
        ]
      ]

  all_prints : (scene : Scene) (came : List Arrival) → Prints scene (fold (arrived rules refused) scene came)
  unfolding Prints
  all_prints scene [] = ([], sym (append-nil scene.printed))
  all_prints scene (a ∷ came) =
      let one = arrived_prints scene a in
      let later = all_prints (arrived rules refused scene a) came in
      (one.0 ++ later.0, later.1 ∙ ap (λ ps. ps ++ later.0) one.1 ∙ append_assoc scene.printed one.0 later.0)

  printed_grows : Grows (λ text. (scene_after rules refused text).printed)
  unfolding Prints
  printed_grows = by_one (λ text. (scene_after rules refused text).printed) (λ text b.
      let more = all_prints (scene_after rules refused text) (arrival_after (open_bytes text) b) in
      (more.0, ap (λ (s : Scene). s.printed) (scene_after-append rules refused text b) ∙ more.1))

  -- whatever bytes follow those without a fault
  pub goes : (text : List ℕ) → fault_of (input_met rules.stations rules.bytes) text ≡ None → (more : List ℕ)
      → (rest : List ℕ) × ((task_of (Replay rules)).text (text ++ more) refused ≡ printed_for rules refused text ++ rest)
  unfolding Grows scene_of
  goes text fine more =
      let seen = seen-more (input_met rules.stations rules.bytes) text more fine in
      let grown = printed_grows text seen.0 in (
        flat_map printed_text grown.0,
        ap (printed_for rules refused) seen.1 ∙ ap (flat_map printed_text) grown.1 ∙ flat_map-append printed_text (scene_after rules refused text).printed grown.0,
      )
