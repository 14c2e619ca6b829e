-- A byte of the operator's stream: what was done by then.
use Rattle.std.proofs.Common.{◌≡◌, ℕ, ◌+◌, List, [], ◌∷◌, ◌++◌, length, refl, sym, ◌∙◌, ap, subst, arith, false, Option, Some, None}
use Rattle.std.proofs.lemmas.List.Sums.{fold-append}
use Rattle.hk_base.specs.declared.plain.OpEnd.{OpEnd}
use Rattle.hk_base.specs.declared.plain.Reason.{Reason}
use Rattle.hk_base.specs.declared.plain.Reason.TheVariants as reasons
use Rattle.hk_base.specs.declared.plain.Reply.{Reply as OpReply}
use Rattle.hk_base.specs.declared.plain.What.{What}
use Rattle.hk_base.specs.declared.plain.What.TheVariants.{Done, Published, Refused}
use Rattle.hk_spec_streams.specs.Operator.{Command, AddWords, OpenSong, Audio, Close, Withdraw, Publish, commands}
use Rattle.hk_spec_matching.specs.Catalogue.{Edit, Journal}
use Rattle.hk_spec_settings.specs.Settings.{Rules}
use Rattle.hk_spec_runs.specs.OperatorState.{OperatorState, UnfinishedSong, new_state, IsReply, Replies, closed, after}
use Rattle.hk_spec_runs.specs.Replay.{OperatorStream}
use Rattle.hk_operator.specs.OnShelf.{StaysPublished}
use Rattle.hk_operator.specs.Obeying.{IsObeying, IsAnswered, stream_after, new_stream, new_commands, end_in, is_publish}
use Rattle.hk_operator.specs.Answering.{HasPublished, HasReplied, stream_of}
use Rattle.hk_operator.specs.declared.done.Done.{Done as Answer}
use Rattle.hk_operator.specs.declared.done.Done.TheVariants as answers
use Rattle.hk_operator.specs.declared.operator.Operator.{Operator}
use Rattle.hk_operator.proofs.Answering.{publishes_are_replied_to, replies_go_on}
use Rattle.hk_publish.specs.Holding.{Holding, shelf_of}
use Rattle.hk_publish.proofs.Telling.{shelf_homes, lists_tell}
use Rattle.hk_clerk.specs.Course.{journal_after, HasDone, StepLeaves}
use Rattle.hk_clerk.specs.declared.step.Step.TheVariants as steps

-- Where a shelf's published list and home stay, its desk's journal, home and limits do.
pub record SameDesk (desk desk' : Holding) : Type 0 where
  pub published : desk'.published ≡ desk.published
  pub home : desk'.home ≡ desk.home
  pub limits : desk'.limits ≡ desk.limits

pub same_desk : (desk desk' : Holding) → StaysPublished (shelf_of desk) (shelf_of desk') → SameDesk desk desk'
same_desk desk desk' h = record {
  published = lists_tell desk'.published desk.published (cc h.journal);
  home = shelf_homes desk' desk h.home;
  limits = h.limits;
}

-- the stream after one byte more
pub stream_more : (rules : Rules) (taken : List ℕ) (byte : ℕ) → stream_of rules (taken ++ byte ∷ []) ≡ stream_after rules (stream_of rules taken) byte
stream_more rules taken byte = fold-append (stream_after rules) new_stream taken (byte ∷ [])

-- there are as many replies as commands
pub as_many : (rules : Rules) (state : OperatorState) (cs : List Command) (ws : List What) → Replies rules state cs ws → length ws ≡ length cs
as_many rules state [] [] fit = refl
as_many rules state (c ∷ cs) [] fit = absurd fit
as_many rules state [] (w ∷ ws) fit = absurd fit
as_many rules state (c ∷ cs) (w ∷ ws) fit = let rest = as_many rules (after rules state c w) cs ws fit.1 in omega (arith, rest)

-- a publish alone adds to the journal
closes : (rules : Rules) (state : OperatorState) (song : Option UnfinishedSong) → (closed rules state song).journal ≡ state.journal
closes rules state None = refl
closes rules state (Some song) = refl

given_up : (rules : Rules) (state : OperatorState) (bytes : List ℕ) (reason : Reason) → (after rules state (Audio bytes) (Refused reason)).journal ≡ state.journal
unfolding after
given_up rules state bytes reasons.NoMemory = refl
given_up rules state bytes reasons.Duplicate = refl
given_up rules state bytes reasons.Short = refl
given_up rules state bytes reasons.Unknown = refl
given_up rules state bytes reasons.SongsFull = refl
given_up rules state bytes reasons.PositionsFull = refl
given_up rules state bytes reasons.VersionsFull = refl
given_up rules state bytes reasons.SongOpen = refl
given_up rules state bytes reasons.NoSongOpen = refl

pub unpublished : (rules : Rules) (state : OperatorState) (command : Command) (what : What) → is_publish command ≡ false → (after rules state command what).journal ≡ state.journal
unfolding after
unpublished rules state (AddWords id words) Done is = refl
unpublished rules state (AddWords id words) (Published v) is = refl
unpublished rules state (AddWords id words) (Refused reason) is = refl
unpublished rules state (OpenSong id form) Done is = refl
unpublished rules state (OpenSong id form) (Published v) is = refl
unpublished rules state (OpenSong id form) (Refused reason) is = refl
unpublished rules state (Audio bytes) Done is = refl
unpublished rules state (Audio bytes) (Published v) is = refl
unpublished rules state (Audio bytes) (Refused reason) is = given_up rules state bytes reason
unpublished rules state Close Done is = closes rules state state.song
unpublished rules state Close (Published v) is = refl
unpublished rules state Close (Refused reason) is = refl
unpublished rules state (Withdraw id) Done is = refl
unpublished rules state (Withdraw id) (Published v) is = refl
unpublished rules state (Withdraw id) (Refused reason) is = refl
unpublished rules state Publish what is = absurd (cc is)

-- what a publish adds
publishes : (rules : Rules) (state : OperatorState) (what : What) → (after rules state Publish what).journal ≡ journal_after state.journal state.staged what
unfolding after
publishes rules state Done = refl
publishes rules state (Published v) = refl
publishes rules state (Refused reason) = refl

module _ (rules : Rules) (taken : List ℕ) (byte : ℕ) (told : List What) (operator operator' : Operator) (desk desk' : Holding)
    (h : HasDone rules taken told operator desk) (stays : desk'.published ≡ desk.published) where
  abbrev Leaves : OperatorState → Type 0
  Leaves now = IsObeying rules operator' (shelf_of desk') (stream_after rules (stream_of rules taken) byte) now

  abbrev number : ℕ
  number = length (commands (stream_of rules taken).used) + 1

  -- the byte ends no command
  none_ended : new_commands rules (stream_of rules taken) byte ≡ [] → Leaves h.state → HasDone rules (taken ++ byte ∷ []) told operator' desk'
  none_ended none leaves = record {
    state = h.state;
    obeys = subst (λ (s : OperatorStream). IsObeying rules operator' (shelf_of desk') s h.state) (sym (stream_more rules taken byte)) leaves;
    replied = subst (λ (s : OperatorStream). HasReplied rules s told h.state) (sym (stream_more rules taken byte)) ((replies_go_on rules (stream_of rules taken) byte told h.state h.replied).0 none);
    published = stays ∙ h.published;
  }

  -- the byte ends one, to which this is the reply, and the desk is this one then
  one_ended : (after_it : Holding) (command : Command) (what : What) → new_commands rules (stream_of rules taken) byte ≡ command ∷ [] → IsReply rules h.state command what
      → IsObeying rules operator' (shelf_of after_it) (stream_after rules (stream_of rules taken) byte) (after rules h.state command what)
      → after_it.published ≡ (after rules h.state command what).journal → HasDone rules (taken ++ byte ∷ []) (told ++ what ∷ []) operator' after_it
  one_ended after_it command what one is leaves published = record {
    state = after rules h.state command what;
    obeys = subst (λ (s : OperatorStream). IsObeying rules operator' (shelf_of after_it) s (after rules h.state command what)) (sym (stream_more rules taken byte)) leaves;
    replied = subst (λ (s : OperatorStream). HasReplied rules s (told ++ what ∷ []) (after rules h.state command what)) (sym (stream_more rules taken byte))
        ((replies_go_on rules (stream_of rules taken) byte told h.state h.replied).1 command what one is);
    published = published;
  }

  -- what the next reply is numbered
  numbered : number ≡ length told + 1
  numbered = ap (λ n. n + 1) (sym (as_many rules new_state (commands (stream_of rules taken).used) told h.replied.fit))

  ended : (end : Option OpEnd) → end ≡ (stream_after rules (stream_of rules taken) byte).end → (stream_of rules (taken ++ byte ∷ [])).end ≡ end
  ended end is = ap (λ (s : OperatorStream). s.end) (stream_more rules taken byte) ∙ sym is

  more_by : (cs : List Command) → new_commands rules (stream_of rules taken) byte ≡ cs → IsAnswered rules h.state number cs answers.More Leaves → HasDone rules (taken ++ byte ∷ []) told operator' desk'
  more_by [] are is = none_ended are is
  more_by (c ∷ cs) are is = absurd is

  over_by : (end : OpEnd) (cs : List Command) → new_commands rules (stream_of rules taken) byte ≡ cs → IsAnswered rules h.state number cs (answers.Over end) Leaves → HasDone rules (taken ++ byte ∷ []) told operator' desk'
  over_by end [] are is = none_ended are is
  over_by end (c ∷ cs) are is = absurd is

  reply_by : (reply : OpReply) (cs : List Command) → new_commands rules (stream_of rules taken) byte ≡ cs → IsAnswered rules h.state number cs (answers.Reply reply) Leaves
      → (reply.number ≡ number) × HasDone rules (taken ++ byte ∷ []) (told ++ reply.what ∷ []) operator' desk'
  reply_by reply [] are is = absurd is
  reply_by reply (c ∷ cs) are is = (
    is.2,
    one_ended desk' c reply.what (are ∙ ap (λ more. c ∷ more) is.0) is.3 is.4 (stays ∙ h.published ∙ sym (unpublished rules h.state c reply.what is.1)),
  )

  publish_by : (n : ℕ) (after_it : Holding) (what : What) → HasPublished (shelf_of desk') (shelf_of after_it) what → after_it.published ≡ journal_after desk'.published desk'.staged what
      → (cs : List Command) → new_commands rules (stream_of rules taken) byte ≡ cs → IsAnswered rules h.state number cs (answers.Publish n) Leaves
      → (n ≡ number) × HasDone rules (taken ++ byte ∷ []) (told ++ what ∷ []) operator' after_it
  publish_by n after_it what published journal [] are is = absurd is
  publish_by n after_it what published journal (c ∷ cs) are is =
      let done = publishes_are_replied_to rules operator' (stream_after rules (stream_of rules taken) byte) h.state (shelf_of desk') (shelf_of after_it) what is.3 published in (
        is.2,
        one_ended after_it Publish what (are ∙ ap (λ more. c ∷ more) is.0 ∙ ap (λ d. d ∷ []) is.1) done.0 done.1 (
            journal ∙ ap (λ (j : Journal). journal_after j desk'.staged what) (stays ∙ h.published) ∙ ap (λ (edits : List Edit). journal_after h.state.journal edits what) is.3.shelf.staged
            ∙ sym (publishes rules h.state what)
            ),
      )

  abbrev Result : Answer → Type 0
  Result done = IsAnswered rules h.state number (new_commands rules (stream_of rules taken) byte) done Leaves × (end_in done ≡ (stream_after rules (stream_of rules taken) byte).end)

  pub leaves_more : Result answers.More → StepLeaves rules (taken ++ byte ∷ []) told operator' desk' steps.Quiet
  leaves_more is = (ended None is.1, more_by _ refl is.0)

  pub leaves_over : (end : OpEnd) → Result (answers.Over end) → StepLeaves rules (taken ++ byte ∷ []) told operator' desk' (steps.Over end)
  leaves_over end is = (ended (Some end) is.1, over_by end _ refl is.0)

  pub leaves_reply : (reply : OpReply) → Result (answers.Reply reply) → StepLeaves rules (taken ++ byte ∷ []) told operator' desk' (steps.Reply reply)
  leaves_reply reply is = let done = reply_by reply _ refl is.0 in (ended None is.1, done.0 ∙ numbered, done.1)

  pub leaves_publish : (n : ℕ) (after_it : Holding) (what : What) → HasPublished (shelf_of desk') (shelf_of after_it) what → after_it.published ≡ journal_after desk'.published desk'.staged what
      → Result (answers.Publish n) → StepLeaves rules (taken ++ byte ∷ []) told operator' after_it (steps.Reply (record { number = n; what = what }))
  leaves_publish n after_it what published journal is = let done = publish_by n after_it what published journal _ refl is.0 in (ended None is.1, done.0 ∙ numbered, done.1)
