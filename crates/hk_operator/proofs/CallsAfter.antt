-- The stream after a byte, and the commands that it ends.
use Rattle.std.proofs.Common.{◌≡◌, ℕ, List, [], ◌∷◌, ◌++◌, refl, ◌∙◌, ap, Option, Some, None, cond}
use Rattle.std.specs.Prelude.{is_some}
use Rattle.std.specs.Option.{option_map_or}
use Rattle.std.specs.List.{cons_option}
use Rattle.hk_base.specs.declared.plain.OpEnd.{OpEnd}
use Rattle.hk_base.specs.declared.plain.OpEnd.TheVariants as op_ends
use Rattle.hk_base.specs.declared.plain.WireFault.{WireFault}
use Rattle.hk_spec_streams.specs.Pieces.{completed}
use Rattle.hk_spec_streams.specs.Operator.{Command, operator_met, commands}
use Rattle.hk_spec_streams.proofs.Completed.{completed-more}
use Rattle.hk_spec_streams.proofs.GrowingCommands.{whole_command, commands-append}
use Rattle.hk_spec_runs.specs.OperatorState.{OperatorState}
use Rattle.hk_spec_settings.specs.Settings.{Rules}
use Rattle.hk_spec_runs.specs.Replay.{OperatorStream}
use Rattle.hk_operator_wire.specs.declared.item.OpItem.TheVariants as items
use Rattle.hk_operator_wire.specs.Items.{last_command}
use Rattle.hk_operator.specs.Obeying.{stream_after, new_commands, end_in, IsAnswered}
use Rattle.hk_operator.specs.declared.done.Done.{Done}
use Rattle.hk_operator.specs.declared.done.Done.TheVariants.{More, Reply, Publish as Published, Over}

pub same_fault_in : (f g : WireFault) → items.Fault f ≡ items.Fault g → f ≡ g
same_fault_in f g is = cc

-- an answer by other words
pub answered_as : (rules : Rules) (state : OperatorState) (n m : ℕ) (c : Command) (done : Done) (Leaves Leaves' : OperatorState → Type 0) → n ≡ m → ((now : OperatorState) → Leaves now → Leaves' now)
    → IsAnswered rules state n (c ∷ []) done Leaves → IsAnswered rules state m (c ∷ []) done Leaves'
answered_as rules state n m c More Leaves Leaves' same on is = is
answered_as rules state n m c (Over e) Leaves Leaves' same on is = is
answered_as rules state n m c (Reply r) Leaves Leaves' same on is = (is.0, is.1, is.2 ∙ same, is.3, on _ is.4)
answered_as rules state n m c (Published k) Leaves Leaves' same on is = (is.0, is.1, is.2 ∙ same, on _ is.3)

pub no_end : (rules : Rules) (state : OperatorState) (n : ℕ) (c : Command) (done : Done) (Leaves : OperatorState → Type 0) → IsAnswered rules state n (c ∷ []) done Leaves → end_in done ≡ None
no_end rules state n c More Leaves is = absurd is
no_end rules state n c (Over e) Leaves is = absurd is
no_end rules state n c (Reply r) Leaves is = refl
no_end rules state n c (Published k) Leaves is = refl

module _ (rules : Rules) (operator_stream : OperatorStream) (b : ℕ) where
  abbrev used_more : List ℕ
  used_more = operator_stream.used ++ b ∷ []

  after_by : (end : Option OpEnd) (met : Option WireFault) → OperatorStream
  after_by end met = cond (is_some end) operator_stream
      (option_map_or (λ fault. record { used = operator_stream.used; end = Some (op_ends.Wire fault) }) met (record { used = used_more; end = None }))

  after_is : (end : Option OpEnd) (met : Option WireFault) → operator_stream.end ≡ end → operator_met rules.bytes used_more ≡ met → stream_after rules operator_stream b ≡ after_by end met
  unfolding after_by
  after_is end met e m = ap (λ x. after_by x (operator_met rules.bytes used_more)) e ∙ ap (after_by end) m

  pub over_stays : (end : OpEnd) → operator_stream.end ≡ Some end → stream_after rules operator_stream b ≡ operator_stream
  unfolding after_by
  over_stays end is = after_is (Some end) (operator_met rules.bytes used_more) is refl

  pub fault_ends : (fault : WireFault) → operator_stream.end ≡ None → operator_met rules.bytes used_more ≡ Some fault → stream_after rules operator_stream b ≡ record { used = operator_stream.used; end = Some (op_ends.Wire fault) }
  unfolding after_by
  fault_ends fault going met = after_is None (Some fault) going met

  pub byte_used : operator_stream.end ≡ None → operator_met rules.bytes used_more ≡ None → stream_after rules operator_stream b ≡ record { used = used_more; end = None }
  unfolding after_by
  byte_used going met = after_is None None going met

  pub commands_by : (after : OperatorStream) → stream_after rules operator_stream b ≡ after → new_commands rules operator_stream b ≡ cond (is_some after.end) [] (completed commands used_more)
  commands_by after is = ap (λ (c : OperatorStream). cond (is_some c.end) [] (completed commands used_more)) is

  pub commands_now : operator_stream.end ≡ None → operator_met rules.bytes used_more ≡ None → new_commands rules operator_stream b ≡ cons_option (whole_command (last_command used_more)) []
  commands_now going met =
      commands_by (record { used = used_more; end = None }) (byte_used going met)
      ∙ completed-more commands operator_stream.used b (cons_option (whole_command (last_command used_more)) []) (commands-append operator_stream.used b)
