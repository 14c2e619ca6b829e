-- An operator in a run: what a byte leaves of the scene, and what a publish leaves of the state.
use Rattle.std.proofs.Common.{◌≡◌, ℕ, ◌+◌, List, [], ◌∷◌, ◌++◌, length, refl, sym, ◌∙◌, ap, arith, length-append, Bool, true, false, Option, Some, None, cond}
use Rattle.std.specs.Prelude.{is_some, nat_le, fold}
use Rattle.std.specs.Option.{option_map_or}
use Rattle.std.specs.List.{enumerate_from}
use Rattle.std.proofs.lemmas.List.{take_all}
use Rattle.std.proofs.lemmas.List.Sums.{fold-append}
use Rattle.hk_base.specs.declared.plain.OpEnd.{OpEnd}
use Rattle.hk_base.specs.declared.plain.OpEnd.TheVariants as op_ends
use Rattle.hk_base.specs.declared.plain.Reason.TheVariants.{VersionsFull}
use Rattle.hk_base.specs.declared.plain.What.TheVariants.{Published}
use Rattle.hk_base.specs.declared.plain.WireFault.{WireFault}
use Rattle.hk_spec_streams.specs.Pieces.{completed, first_that_holds}
use Rattle.hk_spec_streams.specs.Operator.{Command, Publish, commands, operator_met}
use Rattle.hk_spec_matching.specs.Catalogue.{Limits, Journal, edited_by, version}
use Rattle.hk_spec_runs.specs.OperatorState.{OperatorState, present, refusals, after}
use Rattle.hk_spec_settings.specs.Settings.{Rules}
use Rattle.hk_spec_runs.specs.Replay.{Scene, OperatorStream, obeyed, for_operator}
use Rattle.hk_block.specs.Looker.{ShelfView}
use Rattle.hk_operator.specs.OnShelf.{IsOnShelf}
use Rattle.hk_operator.specs.Obeying.{IsObeying, stream_after, new_commands}
use Rattle.hk_operator.specs.declared.operator.Operator.{Operator}

module _ (rules : Rules) (refused : List ℕ) (scene : Scene) (used : List ℕ) where
  -- the scene after a byte, by whether the stream is over and by the fault that the byte meets
  scene_by : Option OpEnd → Option WireFault → Scene
  scene_by end met =
      cond (is_some end) scene
      (option_map_or (λ fault. record scene { operator_stream = record { used = scene.operator_stream.used; end = Some (op_ends.Wire fault) } }) met
      (fold (obeyed rules refused) (record scene { operator_stream = record { used = used; end = None } }) (enumerate_from (length (commands scene.operator_stream.used) + 1) (completed commands used))))

  stream_by : Option OpEnd → Option WireFault → OperatorStream
  stream_by end met = cond (is_some end) scene.operator_stream
      (option_map_or (λ fault. record { used = scene.operator_stream.used; end = Some (op_ends.Wire fault) }) met (record { used = used; end = None }))

  folded : OperatorStream → List Command → Scene
  folded operator_stream cs = fold (obeyed rules refused) (record scene { operator_stream = operator_stream }) (enumerate_from (length (commands scene.operator_stream.used) + 1) cs)

  alike : (end : Option OpEnd) (met : Option WireFault) → scene.operator_stream.end ≡ end
      → scene_by end met ≡ folded (stream_by end met) (cond (is_some (stream_by end met).end) [] (completed commands used))
  unfolding scene_by stream_by folded
  alike (Some e) met is = sym (ap (λ o. fold (obeyed rules refused) scene (enumerate_from (length (commands scene.operator_stream.used) + 1) (cond (is_some o) [] (completed commands used)))) is)
  alike None (Some f) is = refl
  alike None None is = refl

-- a byte's commands are obeyed with the stream that it leaves
pub for_operator_is : (rules : Rules) (refused : List ℕ) (scene : Scene) (b : ℕ)
    → for_operator rules refused scene b
    ≡ fold (obeyed rules refused) (record scene { operator_stream = stream_after rules scene.operator_stream b }) (enumerate_from (length (commands scene.operator_stream.used) + 1) (new_commands rules scene.operator_stream b))
unfolding scene_by stream_by folded
for_operator_is rules refused scene b =
    alike rules refused scene (scene.operator_stream.used ++ b ∷ []) scene.operator_stream.end (operator_met rules.bytes (scene.operator_stream.used ++ b ∷ [])) refl

pub full_row : (t : Bool) → is_some (first_that_holds ((t, VersionsFull) ∷ [])) ≡ t
full_row true = refl
full_row false = refl

module _ (rules : Rules) (view : ShelfView) (state : OperatorState) (at : IsOnShelf rules view state) where
  -- a publish is refused exactly where the shelf's versions are all published
  pub publish_refused : is_some (first_that_holds (refusals rules state Publish)) ≡ nat_le view.limits.versions view.base.0
  publish_refused =
      full_row (nat_le rules.limits.versions (length state.journal))
      ∙ ap (λ (l : Limits). nat_le l.versions (length state.journal)) (sym at.limits)
      ∙ ap (nat_le view.limits.versions) (sym (ap (λ p. p.0) at.base))

  published_is : version rules.limits (state.journal ++ state.staged ∷ []) (length (state.journal ++ state.staged ∷ [])) ≡ present rules state
  unfolding version
  published_is =
      let now : Journal = state.journal ++ state.staged ∷ [] in
      ap (fold (edited_by rules.limits) []) (take_all (length now) now (omega arith))
      ∙ fold-append (edited_by rules.limits) [] state.journal (state.staged ∷ [])
      ∙ ap (λ j. edited_by rules.limits (fold (edited_by rules.limits) [] j) state.staged) (sym (take_all (length state.journal) state.journal (omega arith)))

  -- a shelf that has published all that was staged stands for the state after a publish
  module _ (view' : ShelfView) (present' : view'.present ≡ view.present) (staged' : view'.staged ≡ []) (base' : view'.base ≡ (view.base.0 + 1, view.present)) (limits' : view'.limits ≡ view.limits) where
    pub published_on_shelf : IsOnShelf rules view' (after rules state Publish (Published (length state.journal + 1)))
    unfolding after
    published_on_shelf = record {
      present = present' ∙ at.present ∙ sym published_is;
      staged = staged';
      base = base' ∙ ap (λ n. (n + 1, view.present)) (ap (λ p. p.0) at.base)
          ∙ ap (λ n. (n, view.present)) (sym (length-append state.journal (state.staged ∷ [])))
          ∙ ap (λ s. (length (state.journal ++ state.staged ∷ []), s)) (at.present ∙ sym published_is);
      limits = limits' ∙ at.limits;
    }

    pub publish_obeyed : (operator : Operator) (operator_stream : OperatorStream) → IsObeying rules operator view operator_stream state
        → IsObeying rules operator view' operator_stream (after rules state Publish (Published (length state.journal + 1)))
    unfolding after
    publish_obeyed operator operator_stream h = record {
      fixed = h.fixed;
      stream = h.stream;
      shelf = published_on_shelf;
      number = h.number;
      limit = h.limit;
      short = h.short;
      room = h.room;
      song_room = h.song_room;
    }
