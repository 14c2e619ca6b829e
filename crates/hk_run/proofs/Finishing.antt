-- The end of an input: the summary.
use Rattle.std.proofs.Common.{◌≡◌, ℕ, List, refl, sym, ◌∙◌, ap, Bool, true, false, Option, Some, None, Ok, Err, Result}
use Rattle.std.specs.Prelude.{◌&&◌, is_none, unwrap_or}
use Rattle.std.specs.Option.{option_map_or}
use Rattle.std.specs.List.{list_all}
use Rattle.hk_base.specs.declared.plain.OpEnd.{OpEnd}
use Rattle.hk_base.specs.declared.plain.OpEnd.TheVariants as op_ends
use Rattle.hk_base.specs.declared.plain.WireFault.{WireFault}
use Rattle.hk_base.specs.declared.plain.Trouble.{Trouble}
use Rattle.hk_spec_streams.specs.Station.{station_wrong}
use Rattle.hk_spec_streams.specs.Operator.{operator_wrong}
use Rattle.hk_spec_streams.specs.Records.{input_wrong}
use Rattle.hk_spec_lines.specs.Lines.{operator_line}
use Rattle.hk_spec_runs.specs.OperatorState.{OperatorState}
use Rattle.hk_spec_settings.specs.Settings.{Rules}
use Rattle.hk_spec_runs.specs.Outcome.{task_of, has_ended}
use Rattle.hk_spec_runs.specs.Words.{Replay}
use Rattle.hk_spec_runs.specs.Replay.{Scene, Listener, OperatorStream, operator_end_of}
use Rattle.hk_records.specs.Reader.{EndsWith, input_limit, stations_of}
use Rattle.hk_block.specs.Looker.{ShelfView}
use Rattle.hk_probe.specs.Single.{shelf_of}
use Rattle.hk_operator.specs.Obeying.{IsObeying, IsAtEnd}
use Rattle.hk_operator.specs.declared.operator.Operator.{Operator}
use Rattle.hk_run.specs.Course.{all_ended, operator_ended}
use Rattle.hk_run.specs.Holding.{Holds}
use Rattle.hk_run.specs.Playing.{HasPlayed}
use Rattle.hk_run.specs.declared.run.Run.{Run}

module _ (rules : Rules) (run : Run) (refused text : List ℕ) (h : HasPlayed rules run refused text) where
  -- an end that is no fault of the reader's
  pub between : (T : Type 0) (result : Result T Trouble) → EndsWith (stations_of run.reader) (input_limit run.reader) text result → ((trouble : Trouble) → result ≡ Err trouble → ⊥)
      → (task_of (Replay rules)).wrong text ≡ None
  between T (Ok x) ends fine = ap (λ s. input_wrong s rules.bytes text) (sym h.stations) ∙ ap (λ l. input_wrong (stations_of run.reader) l text) (sym h.limit) ∙ ends
  between T (Err trouble) ends fine = absurd (fine trouble refl)

-- the operator's line, by its parts
pub operator_line_is : (n v : ℕ) (e : OpEnd) (n' v' : ℕ) (e' : OpEnd) → n ≡ n' → v ≡ v' → e ≡ e' → operator_line n v e ≡ operator_line n' v' e'
operator_line_is n v e n' v' e' counts versions ends =
    ap (λ m. operator_line m v e) counts ∙ ap (λ w. operator_line n' w e) versions ∙ ap (λ x. operator_line n' v' x) ends

-- whether the operator ends in order, by how it is over and what is wrong with its bytes
module _ (rules : Rules) (operator : Operator) (view : ShelfView) (operator_stream : OperatorStream) (state : OperatorState) where
  by_wrong : (o : Option WireFault) → operator_ended (option_map_or (λ fault. op_ends.Wire fault) o op_ends.Ended) ≡ is_none o
  by_wrong None = refl
  by_wrong (Some fault) = refl

  by_end : (kept : Option OpEnd) → IsAtEnd rules operator operator_stream.used state.song kept
      → operator_ended (unwrap_or kept (option_map_or (λ fault. op_ends.Wire fault) (operator_wrong rules.bytes operator_stream.used) op_ends.Ended)) ≡ (is_none kept && is_none (operator_wrong rules.bytes operator_stream.used))
  by_end None h = by_wrong (operator_wrong rules.bytes operator_stream.used)
  by_end (Some end) h = ap operator_ended h.is

  operator_in_order : IsObeying rules operator view operator_stream state → operator_ended (operator_end_of rules operator_stream) ≡ (is_none operator_stream.end && is_none (operator_wrong rules.bytes operator_stream.used))
  operator_in_order h = by_end operator_stream.end h.stream

four_tests : (a b c d : Bool) → (a && b && c && d) ≡ ((a && b) && (c && d))
four_tests true true c d = refl
four_tests true false c d = refl
four_tests false b c d = refl

-- all streams end in order, where all stations and the operator do
pub in_order_is : (rules : Rules) (run : Run) (scene : Scene) → Holds rules run scene → (stations : Bool) (end : OpEnd) → stations ≡ all_ended rules scene.listeners → end ≡ operator_end_of rules scene.operator_stream
    → has_ended rules scene ≡ (stations && operator_ended end)
in_order_is rules run scene h stations end all last =
    four_tests (list_all (λ (l : Listener). is_none l.end) scene.listeners) (list_all (λ (l : Listener). is_none (station_wrong rules.bytes l.used)) scene.listeners) (is_none scene.operator_stream.end) (is_none (operator_wrong rules.bytes scene.operator_stream.used))
    ∙ ap (λ t. all_ended rules scene.listeners && t) (sym (operator_in_order rules run.operator (shelf_of run.catalogue) scene.operator_stream scene.state h.obeys) ∙ ap operator_ended (sym last))
    ∙ ap (λ t. t && operator_ended end) (sym all)
