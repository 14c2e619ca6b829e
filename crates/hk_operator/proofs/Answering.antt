-- A publish by what the shelf did, and the replies one after another.
use Rattle.std.proofs.Common.{◌≡◌, ◌⊎◌, ℕ, ◌+◌, List, [], ◌∷◌, ◌++◌, refl, sym, ◌∙◌, ap, subst, append-nil, length, Bool, true, false, Some, None, option_map, inl, inr, cond, fold}
use Rattle.std.specs.Prelude.{is_some, nat_le}
use Rattle.std.specs.Option.{option_map_or}
use Rattle.std.proofs.lemmas.List.Sums.{fold-append}
use Rattle.hk_base.specs.declared.plain.OpEnd.{OpEnd}
use Rattle.hk_base.specs.declared.plain.OpEnd.TheVariants as op_ends
use Rattle.hk_base.specs.declared.plain.Reason.{Reason}
use Rattle.hk_base.specs.declared.plain.Reason.TheVariants.{VersionsFull, NoMemory}
use Rattle.hk_base.specs.declared.plain.What.{What}
use Rattle.hk_base.specs.declared.plain.What.TheVariants.{Published, Refused}
use Rattle.hk_base.specs.declared.plain.WireFault.{WireFault}
use Rattle.hk_spec_streams.specs.Pieces.{completed, first_that_holds, pieces_within, first_met}
use Rattle.hk_spec_streams.specs.Grammar.{packets}
use Rattle.hk_spec_streams.specs.Operator.{Command, Publish, operator_met, operator_fault, operator_seen, commands}
use Rattle.hk_spec_streams.proofs.Completed.{completed-more}
use Rattle.hk_spec_streams.proofs.GrowingCommands.{commands-append}
use Rattle.hk_spec_streams.proofs.NextFault.{by_bytes, seen_of-all, fault_of-none, fault_of-some, fault_of-stays}
use Rattle.hk_spec_streams.proofs.Optional.{none_or_some, none_of}
use Rattle.hk_spec_settings.specs.Settings.{Rules}
use Rattle.hk_spec_runs.specs.OperatorState.{OperatorState, new_state, refusals, answer, IsReply, Replies, state_after, after}
use Rattle.hk_spec_runs.specs.Replay.{OperatorStream}
use Rattle.hk_block.specs.Looker.{ShelfView}
use Rattle.hk_operator.specs.OnShelf.{IsOnShelf}
use Rattle.hk_operator.specs.Obeying.{IsObeying, new_stream, stream_after, new_commands}
use Rattle.hk_operator.specs.Answering.{is_full, HasPublished, Publishes, HasNoVersion, HasNoMemory, PublishesAreRepliedTo, HasReplied, RepliesBegin, RepliesGoOn, stream_of, UsesWhatIsSeen}
use Rattle.hk_operator.specs.declared.operator.Operator.{Operator}
use Rattle.hk_operator.proofs.CallsAfter.{over_stays, fault_ends, byte_used, commands_now, commands_by}
use Rattle.hk_operator.proofs.Joining.{full_row, publish_refused, publish_obeyed}

answer_by : ℕ → Bool → What
answer_by n full = option_map_or (λ reason. Refused reason) (first_that_holds ((full, VersionsFull) ∷ [])) (Published n)

module _ (rules : Rules) (view : ShelfView) (state : OperatorState) (at : IsOnShelf rules view state) where
  answer_is : (full : Bool) → is_full view ≡ full → answer rules state Publish ≡ answer_by (length state.journal + 1) full
  unfolding answer answer_by
  answer_is full is =
      let same : nat_le rules.limits.versions (length state.journal) ≡ full =
      sym (full_row (nat_le rules.limits.versions (length state.journal))) ∙ publish_refused rules view state at ∙ is in
      ap (λ t. option_map_or (λ reason. Refused reason) (first_that_holds ((t, VersionsFull) ∷ [])) (Published (length state.journal + 1))) same

  answered : is_full view ≡ false → answer rules state Publish ≡ Published (length state.journal + 1)
  unfolding answer_by
  answered left = answer_is false left

  refused : is_full view ≡ true → answer rules state Publish ≡ Refused VersionsFull
  unfolding answer_by
  refused full = answer_is true full

pub publishes_are_replied_to : PublishesAreRepliedTo
unfolding after
publishes_are_replied_to rules operator operator_stream state view view' told h (Publishes left published is) =
    let number : told ≡ Published (length state.journal + 1) = is ∙ ap (λ p. Published (p.0 + 1)) h.shelf.base in
    subst (λ w. IsReply rules state Publish w × IsObeying rules operator view' operator_stream (after rules state Publish w)) (sym number) (
      inl (sym (answered rules view state h.shelf left)),
      publish_obeyed rules view state h.shelf view' published.present published.staged published.base published.limits operator operator_stream h,
    )
publishes_are_replied_to rules operator operator_stream state view view' told h (HasNoVersion full stays is) =
    subst (λ w. IsReply rules state Publish w × IsObeying rules operator view' operator_stream (after rules state Publish w)) (sym is) (
      inl (sym (refused rules view state h.shelf full)),
      subst (λ (v : ShelfView). IsObeying rules operator v operator_stream state) (sym stays) h,
    )
publishes_are_replied_to rules operator operator_stream state view view' told h (HasNoMemory left stays is) =
    subst (λ w. IsReply rules state Publish w × IsObeying rules operator view' operator_stream (after rules state Publish w)) (sym is) (
      inr (refl, none_of (first_that_holds (refusals rules state Publish)) (publish_refused rules view state h.shelf ∙ left)),
      subst (λ (v : ShelfView). IsObeying rules operator v operator_stream state) (sym stays) h,
    )

-- The commands after a byte are those before, and the one that it ends.
module _ (rules : Rules) (operator_stream : OperatorStream) (b : ℕ) where
  pub commands_grow : commands (stream_after rules operator_stream b).used ≡ commands operator_stream.used ++ new_commands rules operator_stream b
  commands_grow = elim (none_or_some operator_stream.end) [
    | inr over ↦
        let stays : stream_after rules operator_stream b ≡ operator_stream = over_stays rules operator_stream b over.0 over.1 in
        let none : new_commands rules operator_stream b ≡ [] = commands_by rules operator_stream b operator_stream stays ∙ ap (λ o. cond (is_some o) [] (completed commands (operator_stream.used ++ b ∷ []))) over.1 in
        ap (λ (c : OperatorStream). commands c.used) stays ∙ sym (append-nil (commands operator_stream.used)) ∙ sym (ap (λ cs. commands operator_stream.used ++ cs) none)
    | inl going ↦ elim (none_or_some (operator_met rules.bytes (operator_stream.used ++ b ∷ []))) [
      | inr fault ↦
          let ends : stream_after rules operator_stream b ≡ record { used = operator_stream.used; end = Some (op_ends.Wire fault.0) } = fault_ends rules operator_stream b fault.0 going fault.1 in
          let none : new_commands rules operator_stream b ≡ [] = commands_by rules operator_stream b _ ends in
          ap (λ (c : OperatorStream). commands c.used) ends ∙ sym (append-nil (commands operator_stream.used)) ∙ sym (ap (λ cs. commands operator_stream.used ++ cs) none)
      | inl fine ↦
          ap (λ (c : OperatorStream). commands c.used) (byte_used rules operator_stream b going fine) ∙ commands-append operator_stream.used b
          ∙ sym (ap (λ cs. commands operator_stream.used ++ cs) (commands_now rules operator_stream b going fine))
    ]
  ]

replies-append : (rules : Rules) (state : OperatorState) (cs : List Command) (ws : List What) (c : Command) (w : What) → Replies rules state cs ws → IsReply rules (state_after rules state cs ws) c w
    → Replies rules state (cs ++ c ∷ []) (ws ++ w ∷ []) × (state_after rules state (cs ++ c ∷ []) (ws ++ w ∷ []) ≡ after rules (state_after rules state cs ws) c w)
replies-append rules state [] [] c w fit is = ((is, tt), refl)
replies-append rules state [] (v ∷ ws) c w fit is = absurd fit
replies-append rules state (d ∷ cs) [] c w fit is = absurd fit
replies-append rules state (d ∷ cs) (v ∷ ws) c w fit is =
    let rest = replies-append rules (after rules state d v) cs ws c w fit.1 is in
    ((fit.0, rest.0), rest.1)

-- the replies to these commands, which are all so far
replied_as : (rules : Rules) (operator_stream : OperatorStream) (cs : List Command) (replies : List What) (state : OperatorState) → commands operator_stream.used ≡ cs
    → Replies rules new_state cs replies → state_after rules new_state cs replies ≡ state → HasReplied rules operator_stream replies state
replied_as rules operator_stream cs replies state is fit stands = record {
  fit = subst (λ all. Replies rules new_state all replies) (sym is) fit;
  stands = ap (λ all. state_after rules new_state all replies) is ∙ stands;
}

pub replies_begin : RepliesBegin
unfolding commands packets pieces_within
replies_begin rules = record { fit = tt; stands = refl }

pub replies_go_on : RepliesGoOn
replies_go_on rules operator_stream byte replies state h = (
  λ none. replied_as rules (stream_after rules operator_stream byte) (commands operator_stream.used) replies state
      (commands_grow rules operator_stream byte ∙ ap (λ cs. commands operator_stream.used ++ cs) none ∙ append-nil (commands operator_stream.used)) h.fit h.stands,
  λ command what one is.
      let more = replies-append rules new_state (commands operator_stream.used) replies command what h.fit (subst (λ (s : OperatorState). IsReply rules s command what) (sym h.stands) is) in
      replied_as rules (stream_after rules operator_stream byte) (commands operator_stream.used ++ command ∷ []) (replies ++ what ∷ []) (after rules state command what)
      (commands_grow rules operator_stream byte ∙ ap (λ cs. commands operator_stream.used ++ cs) one) more.0
      (more.1 ∙ ap (λ (s : OperatorState). after rules s command what) h.stands),
)

-- The bytes used, by whether their text has a fault.
module _ (rules : Rules) where
  data Stands (bytes : List ℕ) : Type 0 where
    Goes : stream_of rules bytes ≡ record { used = bytes; end = None } → operator_fault rules.bytes bytes ≡ None → Stands bytes
    Fails : (fault : WireFault) → (stream_of rules bytes).end ≡ Some (op_ends.Wire fault) → (stream_of rules bytes).used ≡ operator_seen rules.bytes bytes
        → operator_fault rules.bytes bytes ≡ Some fault → Stands bytes

  stream_more : (bytes : List ℕ) (b : ℕ) → stream_of rules (bytes ++ b ∷ []) ≡ stream_after rules (stream_of rules bytes) b
  stream_more bytes b = fold-append (stream_after rules) new_stream bytes (b ∷ [])

  step : (bytes : List ℕ) (b : ℕ) → Stands bytes → Stands (bytes ++ b ∷ [])
  step bytes b (Fails fault ended used is) =
      let now : stream_of rules (bytes ++ b ∷ []) ≡ stream_of rules bytes = stream_more bytes b ∙ over_stays rules (stream_of rules bytes) b (op_ends.Wire fault) ended in
      let stays = fault_of-stays (operator_met rules.bytes) bytes b fault is in
      Fails fault (ap (λ (c : OperatorStream). c.end) now ∙ ended) (ap (λ (c : OperatorStream). c.used) now ∙ used ∙ sym stays.1) stays.0
  step bytes b (Goes are none) =
      let next : stream_of rules (bytes ++ b ∷ []) ≡ stream_after rules (record { used = bytes; end = None }) b = stream_more bytes b ∙ ap (λ (c : OperatorStream). stream_after rules c b) are in
      elim (none_or_some (operator_met rules.bytes (bytes ++ b ∷ []))) [
        | inl fine ↦ Goes (next ∙ byte_used rules (record { used = bytes; end = None }) b refl fine) (fault_of-none (operator_met rules.bytes) bytes b none fine)
        | inr fault ↦
            let meets = fault_of-some (operator_met rules.bytes) bytes b fault.0 none fault.1 in
            let now = next ∙ fault_ends rules (record { used = bytes; end = None }) b fault.0 refl fault.1 in
            Fails fault.0 (ap (λ (c : OperatorStream). c.end) now) (ap (λ (c : OperatorStream). c.used) now ∙ sym meets.1) meets.0
      ]

  told : (bytes : List ℕ) → Stands bytes → ((stream_of rules bytes).used ≡ operator_seen rules.bytes bytes)
      × ((stream_of rules bytes).end ≡ option_map (λ fault. op_ends.Wire fault) (operator_fault rules.bytes bytes))
  told bytes (Goes are none) = (
    ap (λ (c : OperatorStream). c.used) are ∙ sym (seen_of-all (operator_met rules.bytes) bytes none),
    ap (λ (c : OperatorStream). c.end) are ∙ sym (ap (option_map (λ fault. op_ends.Wire fault)) none),
  )
  told bytes (Fails fault ended used is) = (used, ended ∙ sym (ap (option_map (λ f. op_ends.Wire f)) is))

pub uses_what_is_seen : UsesWhatIsSeen
unfolding first_met
uses_what_is_seen rules bytes = told rules bytes (by_bytes (Stands rules) (Goes refl refl) (step rules) bytes)
