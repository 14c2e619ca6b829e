-- What a byte is for an operator that stands for a stream and a state.
use Rattle.std.proofs.Common.{◌≡◌, ℕ, ◌+◌, ◌^◌, ◌<◌, ◌≤◌, inl, inr, List, [], ◌∷◌, ◌++◌, length, drop, refl, sym, ◌∙◌, ap, subst, arith, length-append, append-nil, true, false, Option, Some, None, cond}
use Rattle.std.specs.Prelude.{◌==◌, ◌||◌, is_some, slice_index, unwrap_or}
use Rattle.std.specs.Option.{option_map_or, option_or}
use Rattle.std.specs.List.{cons_option}
use Rattle.std.proofs.lemmas.Bool.{cases_lt, eqb-true, both_ways}
use Rattle.hk_base.specs.declared.plain.OpEnd.{OpEnd}
use Rattle.hk_base.specs.declared.plain.OpEnd.TheVariants as op_ends
use Rattle.hk_base.specs.declared.plain.WireFault.{WireFault}
use Rattle.hk_base.specs.declared.plain.WireFault.TheVariants.{Cut, TooLong}
use Rattle.hk_spec_streams.specs.Pieces.{completed, pieces_within}
use Rattle.hk_spec_streams.specs.Grammar.{packets, ends_at_start}
use Rattle.hk_spec_streams.specs.Operator.{Command, command_for, operator_grammar, operator_met, operator_fault, operator_wrong, commands}
use Rattle.hk_spec_streams.proofs.GrowingCommands.{whole_command, commands-append}
use Rattle.hk_spec_streams.proofs.Optional.{none_or_some}
use Rattle.hk_spec_runs.specs.OperatorState.{OperatorState}
use Rattle.hk_spec_settings.specs.Settings.{Rules}
use Rattle.hk_spec_runs.specs.Replay.{OperatorStream, operator_end_of}
use Rattle.hk_block.specs.Looker.{ShelfView}
use Rattle.hk_operator_wire.specs.declared.wire.OpWire.{OpWire}
use Rattle.hk_operator_wire.specs.declared.item.OpItem.{OpItem}
use Rattle.hk_operator_wire.specs.declared.item.OpItem.TheVariants as items
use Rattle.hk_operator_wire.specs.declared.item.Part.{Part}
use Rattle.hk_operator_wire.specs.declared.item.Part.TheVariants as parts
use Rattle.hk_operator_wire.specs.Items.{last_command, item_of, op_item_at, brought, is_whole_command, part_of, ends}
use Rattle.hk_operator_wire.specs.Taken.{HasTaken, IsGoodSoFar, Pushes, limit_of, fault_met}
use Rattle.hk_operator_wire.proofs.Ending.{part-joined, ends-joined, joined-no_fault}
use Rattle.hk_operator_wire.proofs.Reading.{next_bytes, last_command-next, in_hello, hello_stays, too_long}
use Rattle.hk_operator_wire.proofs.Taking.{fault_is, item_at_fault, item_at_none, taken_in_order}
use Rattle.hk_operator.specs.Draft.{IsDraft, Drafts, draft_after}
use Rattle.hk_operator.specs.Sound.{IsRecording, sound_in, sound_of, sound_there, sound_ahead}
use Rattle.hk_operator.specs.Obeying.{HasObeyed, HasMet, IsAtEnd, IsObeying, IsAtCommand, stream_after, new_commands, end_in, IsAnswered, next_number, counted}
use Rattle.hk_operator.specs.declared.done.Done.{Done}
use Rattle.hk_operator.specs.declared.done.Done.TheVariants.{More, Over}
use Rattle.hk_operator.specs.declared.operator.Operator.{Operator}
use Rattle.hk_operator.specs.declared.draft.Draft.{Draft}
use Rattle.hk_operator.specs.declared.recorder.Recorder.{Recorder}
use Rattle.hk_operator.proofs.Drafting.{next_draft, no_draft, room_stays}
use Rattle.hk_operator.proofs.SoundThere.{next_sound}
use Rattle.hk_operator.proofs.WholeCommands.{IsWhole, whole_is}
use Rattle.hk_operator.proofs.CallsAfter.{same_fault_in, answered_as, no_end, over_stays, fault_ends, byte_used, commands_by, commands_now}

module _ (rules : Rules) (op : Operator) (view : ShelfView) (operator_stream : OperatorStream) (state : OperatorState) (b : ℕ) (h : IsObeying rules op view operator_stream state)
    (wire : OpWire) (item : OpItem) (pushes : Pushes op.wire b wire item) where
  abbrev used : List ℕ
  used = operator_stream.used ++ b ∷ []

  abbrev bytes : List ℕ
  bytes = last_command (operator_stream.used ++ b ∷ [])

  limit_now : limit_of wire ≡ rules.bytes
  limit_now = pushes.limit_stays ∙ h.limit

  at_end : (end : Option OpEnd) → operator_stream.end ≡ end → IsAtEnd rules op operator_stream.used state.song end
  at_end end is = subst (IsAtEnd rules op operator_stream.used state.song) is h.stream

  item_at : HasObeyed rules op operator_stream.used state.song → item ≡ op_item_at rules.bytes used
  item_at obeyed = pushes.item operator_stream.used obeyed.taken ∙ ap (λ n. op_item_at n used) h.limit

  in_order : HasObeyed rules op operator_stream.used state.song → operator_met rules.bytes used ≡ None → item ≡ item_of bytes
  in_order obeyed none = item_at obeyed ∙ item_at_none rules.bytes used (fault_is rules.bytes operator_stream.used b obeyed.no_fault ∙ none)

  faulty : HasObeyed rules op operator_stream.used state.song → (fault : WireFault) → operator_met rules.bytes used ≡ Some fault → item ≡ items.Fault fault
  faulty obeyed fault met = item_at obeyed ∙ item_at_fault rules.bytes used fault (fault_is rules.bytes operator_stream.used b obeyed.no_fault ∙ met)

  -- the byte meets a fault, or met one before
  module _ (fault : WireFault) (is : item ≡ items.Fault fault) where
    abbrev now : Operator
    now = record op { wire = wire }

    abbrev Ended : Type 0
    Ended = (stream_after rules operator_stream b).end ≡ Some (op_ends.Wire fault)

    abbrev Obeys : Type 0
    Obeys = IsObeying rules now view (stream_after rules operator_stream b) state

    obeying_as : (after : OperatorStream) → stream_after rules operator_stream b ≡ after → after.used ≡ operator_stream.used → IsAtEnd rules now operator_stream.used state.song after.end
        → (end : OpEnd) → after.end ≡ Some end → Obeys × (new_commands rules operator_stream b ≡ [])
    obeying_as after same same_used stream end over = (
      subst (λ (c : OperatorStream). IsObeying rules now view c state) (sym same) (record {
        fixed = h.fixed;
        stream = subst (λ u. IsAtEnd rules now u state.song after.end) (sym same_used) stream;
        shelf = h.shelf;
        number = h.number ∙ ap (λ u. length (commands u)) (sym same_used);
        limit = limit_now;
        short = h.short;
        room = h.room;
        song_room = h.song_room;
      }),
      commands_by rules operator_stream b after same ∙ ap (λ e. cond (is_some e) [] (completed commands used)) over,
    )

    met_now : HasObeyed rules op operator_stream.used state.song → (f : WireFault) → operator_met rules.bytes used ≡ Some f → HasMet rules now (op_ends.Wire f)
    met_now obeyed f met =
        let taken : HasTaken wire used = pushes.taken operator_stream.used obeyed.taken in
        let found : operator_fault rules.bytes used ≡ Some f = fault_is rules.bytes operator_stream.used b obeyed.no_fault ∙ met in
        record {
          fault = f;
          is = refl;
          kept = taken.keeps.fault_is ∙ ap (λ n. operator_fault n used) limit_now ∙ found;
          text = used;
          taken = taken;
          met = found;
        }

    over_by : (end : Option OpEnd) → operator_stream.end ≡ end → Ended × (Obeys × (new_commands rules operator_stream b ≡ []))
    over_by None going =
        let obeyed : HasObeyed rules op operator_stream.used state.song = at_end None going in
        elim (none_or_some (operator_met rules.bytes used)) [
          | inl none ↦ absurd (joined-no_fault (brought bytes) (is_whole_command bytes) fault (sym (in_order obeyed none) ∙ is))
          | inr some ↦
              let same : some.0 ≡ fault = same_fault_in some.0 fault (sym (faulty obeyed some.0 some.1) ∙ is) in
              let met : operator_met rules.bytes used ≡ Some fault = some.1 ∙ ap (λ f. Some f) same in
              let after = fault_ends rules operator_stream b fault going met in (
                ap (λ (c : OperatorStream). c.end) after,
                obeying_as (record { used = operator_stream.used; end = Some (op_ends.Wire fault) }) after refl (met_now obeyed fault met) (op_ends.Wire fault) refl,
              )
        ]
    over_by (Some end) over =
        let hm : HasMet rules op end = at_end (Some end) over in
        let same : hm.fault ≡ fault = same_fault_in hm.fault fault (sym (pushes.same_fault hm.fault hm.kept) ∙ is) in
        let stays : wire ≡ op.wire = pushes.fault_changes_nothing hm.fault hm.kept in
        let after = over_stays rules operator_stream b end over in
        let kept : HasMet rules now end = subst (λ (w : OpWire). HasMet rules (record op { wire = w }) end) (sym stays) hm in (
          ap (λ (c : OperatorStream). c.end) after ∙ over ∙ ap (λ e. Some e) (hm.is ∙ ap (λ g. op_ends.Wire g) same),
          obeying_as operator_stream after refl (subst (IsAtEnd rules now operator_stream.used state.song) (sym over) kept) end over,
        )

    pub fault_over : Some (op_ends.Wire fault) ≡ (stream_after rules operator_stream b).end
    fault_over = sym (over_by operator_stream.end refl).0

    pub fault_answered : (n : ℕ) → IsAnswered rules state n (new_commands rules operator_stream b) (Over (op_ends.Wire fault)) (IsObeying rules now view (stream_after rules operator_stream b))
    fault_answered n =
        let by = over_by operator_stream.end refl in
        subst (λ cs. IsAnswered rules state n cs (Over (op_ends.Wire fault)) (IsObeying rules now view (stream_after rules operator_stream b))) (sym by.1.1) by.1.0

  met_by : (end : Option OpEnd) → is_some end ≡ true → operator_stream.end ≡ end → (fault : WireFault) × (fault_met op.wire ≡ Some fault)
  met_by None some is = absurd (both_ways false refl some)
  met_by (Some end) some is = let hm : HasMet rules op end = at_end (Some end) is in (hm.fault, hm.kept)

  -- one that is over stays as it is
  pub over_same : is_some operator_stream.end ≡ true → record op { wire = wire } ≡ op
  over_same some = let met = met_by operator_stream.end some refl in ap (λ (w : OpWire). record op { wire = w }) (pushes.fault_changes_nothing met.0 met.1)

  pub never_on : ((fault : WireFault) → item ≡ items.Fault fault → ⊥) → is_some operator_stream.end ≡ true → ⊥
  never_on known some = let met = met_by operator_stream.end some refl in known met.0 (pushes.same_fault met.0 met.1)

  -- the byte meets no fault
  record IsOn : Type 0 where
    going : operator_stream.end ≡ None
    obeyed : HasObeyed rules op operator_stream.used state.song
    met : operator_met rules.bytes used ≡ None
    item_is : item ≡ item_of bytes
    draft : IsDraft (draft_after op.draft (part_of item)) bytes
    sound : sound_there bytes ≡ sound_ahead (last_command operator_stream.used) ++ sound_in (part_of item)
    below : length operator_stream.used < rules.bytes

  below_limit : operator_met rules.bytes used ≡ None → length operator_stream.used < rules.bytes
  below_limit none = elim (cases_lt (length operator_stream.used) rules.bytes) [
    | inl below ↦ below
    | inr past ↦ absurd (let no_fault : None ≡ Some (TooLong rules.bytes) = sym none ∙ too_long rules.bytes operator_stream.used b past in cc)
  ]

  hello_on : operator_stream.end ≡ None → HasObeyed rules op operator_stream.used state.song → operator_met rules.bytes used ≡ None → length operator_stream.used < 4 → IsOn
  hello_on going obeyed none short =
      let nothing : bytes ≡ [] = hello_stays operator_stream.used b short in
      let before : last_command operator_stream.used ≡ [] = in_hello operator_stream.used (omega arith) in
      let part : part_of item ≡ parts.Nothing = ap part_of (in_order obeyed none) ∙ ap (λ xs. part_of (item_of xs)) nothing in
      record {
        going = going;
        obeyed = obeyed;
        met = none;
        item_is = in_order obeyed none;
        draft = subst (IsDraft (draft_after op.draft (part_of item))) (sym nothing) (no_draft (draft_after op.draft (part_of item)));
        sound = ap sound_there nothing ∙ sym (ap (λ xs. sound_ahead xs ++ sound_in (part_of item)) before ∙ ap sound_in part);
        below = below_limit none;
      }

  command_on : operator_stream.end ≡ None → HasObeyed rules op operator_stream.used state.song → operator_met rules.bytes used ≡ None → 4 ≤ length operator_stream.used → IsOn
  command_on going obeyed none far =
      let before : List ℕ = last_command operator_stream.used in
      let next : bytes ≡ next_bytes (last_command operator_stream.used) b = last_command-next operator_stream.used b far in
      let part : part_of item ≡ brought (next_bytes before b) = ap part_of (in_order obeyed none) ∙ part-joined (brought bytes) (is_whole_command bytes) ∙ ap brought next in
      record {
        going = going;
        obeyed = obeyed;
        met = none;
        item_is = in_order obeyed none;
        draft = subst (λ i. IsDraft (draft_after op.draft i) bytes) (sym part)
            (subst (IsDraft (draft_after op.draft (brought (next_bytes before b)))) (sym next) (next_draft op.draft before b obeyed.draft));
        sound = ap sound_there next ∙ next_sound before b ∙ ap (λ i. sound_ahead before ++ sound_in i) (sym part);
        below = below_limit none;
      }

  goes_by : ((fault : WireFault) → item ≡ items.Fault fault → ⊥) → (end : Option OpEnd) → operator_stream.end ≡ end → IsOn
  goes_by known None going =
      let obeyed : HasObeyed rules op operator_stream.used state.song = at_end None going in
      elim (none_or_some (operator_met rules.bytes used)) [
        | inl none ↦ elim (cases_lt (length operator_stream.used) 4) [ inl short ↦ hello_on going obeyed none short | inr far ↦ command_on going obeyed none far ]
        | inr some ↦ absurd (known some.0 (faulty obeyed some.0 some.1))
      ]
  goes_by known (Some end) over = let hm : HasMet rules op end = at_end (Some end) over in absurd (known hm.fault (pushes.same_fault hm.fault hm.kept))

  module _ (known : (fault : WireFault) → item ≡ items.Fault fault → ⊥) (part : Part) (part_eq : part ≡ part_of item)
      (draft : Draft) (draft_eq : draft ≡ draft_after op.draft part) (recorder : Recorder)
      (hears : (sound : List ℕ) → IsRecording rules op.recorder state.song sound → IsRecording rules recorder state.song (sound ++ sound_in part))
      (song_room : recorder.words.room ≡ op.recorder.words.room) where
    abbrev mid : Operator
    mid = record op { wire = wire; draft = draft; recorder = recorder }

    on : IsOn
    on = goes_by known operator_stream.end refl

    draft_now : IsDraft draft bytes
    draft_now = subst (λ d. IsDraft d bytes) (sym (draft_eq ∙ ap (draft_after op.draft) part_eq)) on.draft

    recording : IsRecording rules recorder state.song (sound_there bytes)
    recording = subst (IsRecording rules recorder state.song) (sym (on.sound ∙ ap (λ p. sound_ahead (last_command operator_stream.used) ++ sound_in p) (sym part_eq)))
        (hears (sound_ahead (last_command operator_stream.used)) on.obeyed.recording)

    draft_room : draft.words.room ≡ rules.limits.positions
    draft_room = ap (λ (d : Draft). d.words.room) draft_eq ∙ room_stays op.draft part ∙ h.room

    whole_ends : ends item ≡ is_whole_command bytes
    whole_ends = ap ends on.item_is ∙ ends-joined (brought bytes) (is_whole_command bytes)

    order_now : IsGoodSoFar bytes
    order_now = taken_in_order wire used (pushes.taken operator_stream.used on.obeyed.taken)
        (ap (λ n. operator_fault n used) limit_now ∙ fault_is rules.bytes operator_stream.used b on.obeyed.no_fault ∙ on.met)

    used_now : stream_after rules operator_stream b ≡ record { used = used; end = None }
    used_now = byte_used rules operator_stream b on.going on.met

    obeyed_now : (operator : Operator) (now : OperatorState) → operator.wire ≡ wire → operator.draft ≡ draft
        → IsRecording rules operator.recorder now.song (sound_ahead bytes) → HasObeyed rules operator used now.song
    obeyed_now operator now same_wire same_draft heard =
        let few : length (commands operator_stream.used) ≤ length operator_stream.used = on.obeyed.few in
        record {
          taken = subst (λ (w : OpWire). HasTaken w used) (sym same_wire) (pushes.taken operator_stream.used on.obeyed.taken);
          no_fault = fault_is rules.bytes operator_stream.used b on.obeyed.no_fault ∙ on.met;
          draft = subst (λ d. IsDraft d bytes) (sym same_draft) draft_now;
          recording = heard;
          few = omega (arith, few, length-append operator_stream.used (b ∷ []), grown);
        }
      where
        by : (o : Option Command) → length (cons_option o []) ≤ 1
        by None = omega arith
        by (Some c) = omega arith

        grown : length (commands (operator_stream.used ++ b ∷ [])) ≤ length (commands operator_stream.used) + 1
        grown =
            let more : length (commands (operator_stream.used ++ b ∷ [])) ≡ length (commands operator_stream.used ++ cons_option (whole_command bytes) []) = ap length (commands-append operator_stream.used b) in
            let sum : length (commands operator_stream.used ++ cons_option (whole_command bytes) []) ≡ length (commands operator_stream.used) + length (cons_option (whole_command bytes) []) =
            length-append (commands operator_stream.used) (cons_option (whole_command bytes) []) in
            let one : length (cons_option (whole_command bytes) []) ≤ 1 = by (whole_command bytes) in
            omega (arith, more, sum, one)

    -- no command ends
    module _ (open_yet : ends item ≡ false) where
      open_command : is_whole_command bytes ≡ false
      open_command = sym whole_ends ∙ open_yet

      no_command : whole_command bytes ≡ None
      no_command = ap (λ t. cond t (command_for (slice_index bytes 0) (drop 5 bytes)) None) open_command

      ahead : sound_ahead bytes ≡ sound_there bytes
      ahead = ap (λ t. cond t [] (sound_there bytes)) open_command

      same_number : length (commands operator_stream.used) ≡ length (commands used)
      same_number = ap length (sym (commands-append operator_stream.used b ∙ ap (λ o. commands operator_stream.used ++ cons_option o []) no_command ∙ append-nil (commands operator_stream.used)))

      more_obeys : IsObeying rules mid view (record { used = used; end = None }) state
      more_obeys = record {
        fixed = h.fixed;
        stream = obeyed_now mid state refl refl (subst (IsRecording rules recorder state.song) (sym ahead) recording);
        shelf = h.shelf;
        number = h.number ∙ same_number;
        limit = limit_now;
        short = h.short;
        room = draft_room;
        song_room = song_room ∙ h.song_room;
      }

      pub more_over : None ≡ (stream_after rules operator_stream b).end
      more_over = sym (ap (λ (c : OperatorStream). c.end) used_now)

      pub more_answered : (n : ℕ) → IsAnswered rules state n (new_commands rules operator_stream b) More (IsObeying rules mid view (stream_after rules operator_stream b))
      more_answered n =
          subst (λ cs. IsAnswered rules state n cs More (IsObeying rules mid view (stream_after rules operator_stream b)))
          (sym (commands_now rules operator_stream b on.going on.met ∙ ap (λ o. cons_option o []) no_command))
          (subst (λ (c : OperatorStream). IsObeying rules mid view c state) (sym used_now) more_obeys)

    -- a command ends
    module _ (last : ends item ≡ true) where
      whole_command_is : is_whole_command bytes ≡ true
      whole_command_is = sym whole_ends ∙ last

      pub whole : IsWhole draft bytes
      whole = whole_is draft bytes order_now draft_now (eqb-true _ _ whole_command_is)

      none_ahead : sound_ahead bytes ≡ []
      none_ahead = ap (λ t. cond t [] (sound_there bytes)) whole_command_is

      one_more : length (commands used) ≡ length (commands operator_stream.used) + 1
      one_more = ap length (commands-append operator_stream.used b ∙ ap (λ o. commands operator_stream.used ++ cons_option o []) whole.is) ∙ length-append (commands operator_stream.used) (whole.command ∷ [])

      number_is : next_number mid ≡ length (commands operator_stream.used) + 1
      number_is =
          let few : length (commands operator_stream.used) ≤ length operator_stream.used = on.obeyed.few in
          let short : rules.bytes < 2 ^ 64 = h.short in
          let now : op.commands ≡ length (commands operator_stream.used) = h.number in
          let below : length operator_stream.used < rules.bytes = on.below in
          omega (arith, few, short, now, below)

      pub at_command : IsAtCommand rules mid view state (sound_of whole.command)
      at_command = record {
        fixed = h.fixed;
        recording = subst (IsRecording rules recorder state.song) (sym whole.sound) recording;
        shelf = h.shelf;
        room = draft_room;
        song_room = song_room ∙ h.song_room;
      }

      obeys : (new : Operator) (view' : ShelfView) → new ≡ counted mid new.recorder → (now : OperatorState) → IsAtCommand rules new view' now [] → IsObeying rules new view' (stream_after rules operator_stream b) now
      obeys new view' kept now at = subst (λ (c : OperatorStream). IsObeying rules new view' c now) (sym used_now) (record {
        fixed = at.fixed;
        stream = obeyed_now new now (ap (λ (o : Operator). o.wire) kept) (ap (λ (o : Operator). o.draft) kept)
            (subst (IsRecording rules new.recorder now.song) (sym none_ahead) at.recording);
        shelf = at.shelf;
        number = ap (λ (o : Operator). o.commands) kept ∙ number_is ∙ sym one_more;
        limit = ap (λ (o : Operator). limit_of o.wire) kept ∙ limit_now;
        short = h.short;
        room = at.room;
        song_room = at.song_room;
      })

      module _ (new : Operator) (view' : ShelfView) (kept : new ≡ counted mid new.recorder) (done : Done)
          (answered : (command : Command) → IsAtCommand rules mid view state (sound_of command) → Drafts draft command
          → IsAnswered rules state (next_number mid) (command ∷ []) done (λ now. IsAtCommand rules new view' now [])) where
        pub command_over : end_in done ≡ (stream_after rules operator_stream b).end
        command_over = no_end rules state (next_number mid) whole.command done (λ now. IsAtCommand rules new view' now []) (answered whole.command at_command whole.draft)
            ∙ sym (ap (λ (c : OperatorStream). c.end) used_now)

        pub command_answered : IsAnswered rules state (length (commands operator_stream.used) + 1) (new_commands rules operator_stream b) done (IsObeying rules new view' (stream_after rules operator_stream b))
        command_answered =
            subst (λ cs. IsAnswered rules state (length (commands operator_stream.used) + 1) cs done (IsObeying rules new view' (stream_after rules operator_stream b)))
            (sym (commands_now rules operator_stream b on.going on.met ∙ ap (λ o. cons_option o []) whole.is))
            (answered_as rules state (next_number mid) (length (commands operator_stream.used) + 1) whole.command done (λ now. IsAtCommand rules new view' now [])
            (IsObeying rules new view' (stream_after rules operator_stream b)) number_is (obeys new view' kept) (answered whole.command at_command whole.draft))

-- how the stream ends
module _ (rules : Rules) (op : Operator) (view : ShelfView) (operator_stream : OperatorStream) (state : OperatorState) (h : IsObeying rules op view operator_stream state)
    (wrong : Option WireFault) (tells : (text : List ℕ) → HasTaken op.wire text → wrong ≡ operator_wrong (limit_of op.wire) text) where
  ended_by : (end : Option OpEnd) → operator_stream.end ≡ end → IsAtEnd rules op operator_stream.used state.song end → option_map_or (λ fault. op_ends.Wire fault) wrong op_ends.Ended ≡ operator_end_of rules operator_stream
  ended_by None going obeyed =
      ap (λ w. option_map_or (λ fault. op_ends.Wire fault) w op_ends.Ended) (tells operator_stream.used obeyed.taken ∙ ap (λ n. operator_wrong n operator_stream.used) h.limit)
      ∙ sym (ap (λ e. unwrap_or e (option_map_or (λ fault. op_ends.Wire fault) (operator_wrong rules.bytes operator_stream.used) op_ends.Ended)) going)
  ended_by (Some end) over met =
      let border : Option WireFault = cond ((length met.text == 0) || ends_at_start operator_grammar met.text) None (Some (Cut (length met.text))) in
      ap (λ w. option_map_or (λ fault. op_ends.Wire fault) w op_ends.Ended)
      (tells met.text met.taken ∙ ap (λ n. operator_wrong n met.text) h.limit ∙ ap (λ o. option_or o border) met.met)
      ∙ sym met.is ∙ sym (ap (λ e. unwrap_or e (option_map_or (λ fault. op_ends.Wire fault) (operator_wrong rules.bytes operator_stream.used) op_ends.Ended)) over)

  pub ended_is : option_map_or (λ fault. op_ends.Wire fault) wrong op_ends.Ended ≡ operator_end_of rules operator_stream
  ended_is = ended_by operator_stream.end refl h.stream

pub no_commands : length (commands []) ≡ 0
unfolding commands packets pieces_within
no_commands = refl
