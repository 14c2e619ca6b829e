-- How far a clerk has come with its operator's bytes.
use Rattle.std.specs.Prelude.{◌≡◌, ℕ, ◌+◌, List, [], ◌∷◌, ◌++◌, length, Option, Some, None}
use Rattle.hk_base.specs.Devices.{Wrote}
use Rattle.hk_base.specs.declared.plain.OpEnd.{OpEnd}
use Rattle.hk_base.specs.declared.plain.OpEnd.TheVariants as ends
use Rattle.hk_base.specs.declared.plain.What.{What}
use Rattle.hk_base.specs.declared.plain.What.TheVariants as whats
use Rattle.hk_base.specs.declared.plain.WireFault.{WireFault}
use Rattle.hk_spec_streams.specs.Operator.{commands, operator_fault}
use Rattle.hk_spec_matching.specs.Catalogue.{Edit, Journal}
use Rattle.hk_spec_settings.specs.Settings.{Rules}
use Rattle.hk_spec_runs.specs.OperatorState.{OperatorState, new_state, state_after}
use Rattle.hk_spec_runs.specs.Replay.{OperatorStream}
use Rattle.hk_spec_monitor.specs.Run.{Obeyed, HasReplies, commands_heard, replies_text, answers_text}
use Rattle.hk_operator.specs.Answering.{HasReplied, stream_of}
use Rattle.hk_operator.specs.Obeying.{IsObeying}
use Rattle.hk_operator.specs.declared.operator.Operator.{Operator}
use Rattle.hk_publish.specs.Holding.{Holding, shelf_of}
use Rattle.hk_clerk.specs.declared.step.Step.{Step}
use Rattle.hk_clerk.specs.declared.step.Step.TheVariants as steps
use Rattle.hk_clerk.specs.declared.piece.Progress.{Progress}
use Rattle.hk_clerk.specs.declared.piece.Progress.TheVariants as progresses

-- the journal after a publish with this answer, of what was staged
abbrev pub journal_after : Journal → List Edit → What → Journal
journal_after journal staged (whats.Published v) = journal ++ staged ∷ []
journal_after journal staged whats.Done = journal
journal_after journal staged (whats.Refused reason) = journal

-- the edits that these commands and replies leave staged
abbrev pub staged_by : Rules → Obeyed → List Edit
staged_by rules o = (state_after rules new_state (commands_heard rules o) o.replies).staged

-- The operator counts so many commands.
abbrev pub HasCounted : Rules → Operator → Holding → ℕ → Type 0
HasCounted rules operator desk n = (operator_stream : OperatorStream) × (state : OperatorState)
    × IsObeying rules operator (shelf_of desk) operator_stream state × (length (commands operator_stream.used) ≡ n)

module _ (rules : Rules) where
  -- The whole commands of these bytes were done, with these replies, and the desk has published what they publish.
  pub record HasDone (taken : List ℕ) (replies : List What) (operator : Operator) (desk : Holding) : Type 0 where
    pub state : OperatorState
    pub obeys : IsObeying rules operator (shelf_of desk) (stream_of rules taken) state
    pub replied : HasReplied rules (stream_of rules taken) replies state
    pub published : desk.published ≡ state.journal

  -- the stream isn't over by these bytes
  abbrev pub Goes : List ℕ → Type 0
  Goes taken = (stream_of rules taken).end ≡ None

  -- What stands after a byte: these are the bytes with it, and the replies before it.
  abbrev pub StepLeaves : List ℕ → List What → Operator → Holding → Step → Type 0
  StepLeaves taken replies operator desk steps.Quiet = Goes taken × HasDone taken replies operator desk
  StepLeaves taken replies operator desk (steps.Reply reply) =
      Goes taken × (reply.number ≡ length replies + 1) × HasDone taken (replies ++ reply.what ∷ []) operator desk
  StepLeaves taken replies operator desk (steps.Over end) = ((stream_of rules taken).end ≡ Some end) × HasDone taken replies operator desk

  -- The whole commands of these bytes were done, the replies were written behind what stood there, and the stream goes on.
  pub record HasAnswered (start : Option (List ℕ)) (taken : List ℕ) (replies : List What) (operator : Operator) (desk : Holding) (written : Option (List ℕ)) : Type 0 where
    pub done : HasDone taken replies operator desk
    pub going : Goes taken
    pub text : Wrote (replies_text rules replies) start written

  -- The operator's stream is over with these bytes, and this is what was done and written.
  pub record Concludes (start : Option (List ℕ)) (taken : List ℕ) (operator : Operator) (desk : Holding) (written : Option (List ℕ)) (o : Obeyed) : Type 0 where
    pub taken_is : o.taken ≡ taken
    pub text : Wrote (answers_text rules o) start written
    pub replies : HasReplies rules desk.published o
    pub staged : desk.staged ≡ staged_by rules o
    pub counted : HasCounted rules operator desk (length o.replies)

  -- the end is the fault of these bytes
  abbrev pub IsFaultOf : List ℕ → OpEnd → Type 0
  IsFaultOf taken end = (fault : WireFault) × (end ≡ ends.Wire fault) × (operator_fault rules.bytes taken ≡ Some fault)

  -- What stands after a piece: these are the bytes with it.
  abbrev pub PieceLeaves : Option (List ℕ) → List ℕ → Operator → Holding → Option (List ℕ) → Progress → Type 0
  PieceLeaves start taken operator desk written progresses.Going = (replies : List What) × HasAnswered start taken replies operator desk written
  PieceLeaves start taken operator desk written (progresses.Over end) =
      (o : Obeyed) × Concludes start taken operator desk written o × (o.end ≡ end) × IsFaultOf taken end
  PieceLeaves start taken operator desk written progresses.Torn =
      (o : Obeyed) × Concludes start taken operator desk written o × (o.end ≡ ends.SinkFault)
