-- Laws of an operator: a publish by what the shelf did, and the replies one after another.
use Rattle.std.specs.Prelude.{◌≡◌, ℕ, ◌+◌, Bool, true, false, nat_le, List, [], ◌∷◌, ◌++◌, fold, option_map}
use Rattle.hk_base.specs.declared.plain.OpEnd.TheVariants.{Wire}
use Rattle.hk_base.specs.declared.plain.Reason.TheVariants.{VersionsFull, NoMemory}
use Rattle.hk_base.specs.declared.plain.What.{What}
use Rattle.hk_base.specs.declared.plain.What.TheVariants.{Published, Refused}
use Rattle.hk_spec_streams.specs.Operator.{Command, Publish, operator_fault, operator_seen, commands}
use Rattle.hk_spec_settings.specs.Settings.{Rules}
use Rattle.hk_spec_runs.specs.OperatorState.{OperatorState, new_state, IsReply, Replies, state_after, after}
use Rattle.hk_spec_runs.specs.Replay.{OperatorStream}
use Rattle.hk_block.specs.Looker.{ShelfView}
use Rattle.hk_operator.specs.Obeying.{IsObeying, new_stream, stream_after, new_commands}
use Rattle.hk_operator.specs.declared.operator.Operator.{Operator}

-- whether all versions of a shelf are published
abbrev pub is_full : ShelfView → Bool
is_full view = nat_le view.limits.versions view.base.0

-- the shelf has published what was staged
pub record IsPublished (old new : ShelfView) : Type 0 where
  pub base : new.base ≡ (old.base.0 + 1, old.present)
  pub present : new.present ≡ old.present
  pub staged : new.staged ≡ []
  pub limits : new.limits ≡ old.limits

-- What a shelf did for a publish, and what is told of it: it published, or no version was left, or memory was refused.
pub data HasPublished (old new : ShelfView) (told : What) : Type 0 where
  Publishes : is_full old ≡ false → IsPublished old new → told ≡ Published (old.base.0 + 1) → HasPublished old new told
  HasNoVersion : is_full old ≡ true → new ≡ old → told ≡ Refused VersionsFull → HasPublished old new told
  HasNoMemory : is_full old ≡ false → new ≡ old → told ≡ Refused NoMemory → HasPublished old new told

-- What is told of a publish is the reply to it, and the operator goes on with the shelf.
abbrev pub PublishesAreRepliedTo : Type 0
PublishesAreRepliedTo = (rules : Rules) (operator : Operator) (operator_stream : OperatorStream) (state : OperatorState) (view view' : ShelfView) (told : What)
    → IsObeying rules operator view operator_stream state → HasPublished view view' told
    → IsReply rules state Publish told × IsObeying rules operator view' operator_stream (after rules state Publish told)

-- these were replied to all commands so far, and this stands after them
pub record HasReplied (rules : Rules) (operator_stream : OperatorStream) (replies : List What) (state : OperatorState) : Type 0 where
  pub fit : Replies rules new_state (commands operator_stream.used) replies
  pub stands : state_after rules new_state (commands operator_stream.used) replies ≡ state

-- Nothing was replied to no bytes.
abbrev pub RepliesBegin : Type 0
RepliesBegin = (rules : Rules) → HasReplied rules new_stream [] new_state

-- A byte that ends no command leaves the replies, and the reply to a command that it ends goes behind them.
abbrev pub RepliesGoOn : Type 0
RepliesGoOn = (rules : Rules) (operator_stream : OperatorStream) (byte : ℕ) (replies : List What) (state : OperatorState) → HasReplied rules operator_stream replies state
    → (new_commands rules operator_stream byte ≡ [] → HasReplied rules (stream_after rules operator_stream byte) replies state)
    × ((command : Command) (what : What) → new_commands rules operator_stream byte ≡ command ∷ [] → IsReply rules state command what
    → HasReplied rules (stream_after rules operator_stream byte) (replies ++ what ∷ []) (after rules state command what))

-- the stream after these bytes
abbrev pub stream_of : Rules → List ℕ → OperatorStream
stream_of rules bytes = fold (stream_after rules) new_stream bytes

-- Of the bytes of a stream those before its fault are used, and it is over by that fault alone.
abbrev pub UsesWhatIsSeen : Type 0
UsesWhatIsSeen = (rules : Rules) (bytes : List ℕ) → ((stream_of rules bytes).used ≡ operator_seen rules.bytes bytes)
    × ((stream_of rules bytes).end ≡ option_map (λ fault. Wire fault) (operator_fault rules.bytes bytes))
