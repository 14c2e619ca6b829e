-- The end of the operator's stream: what was done and written by then.
use Rattle.std.proofs.Common.{◌≡◌, ℕ, ◌+◌, ◌-◌, ◌<◌, List, [], ◌∷◌, ◌++◌, length, take, drop, get_or, add-one, drop-cons, refl, sym, ◌∙◌, ap, subst, arith, append-nil, append_assoc, length-append, false, Option, Some, None, cond, fold}
use Rattle.std.specs.Prelude.{flat_map, option_map}
use Rattle.std.specs.List.{enumerate_from}
use Rattle.std.proofs.lemmas.Grind.{flat_map-append}
use Rattle.std.proofs.lemmas.List.{take_all, take-append-le, take-append-drop, take_more}
use Rattle.std.proofs.lemmas.List.Sums.{fold-append}
use Rattle.hk_base.specs.Devices.{Wrote, WroteFront}
use Rattle.hk_base.specs.declared.plain.OpEnd.{OpEnd}
use Rattle.hk_base.specs.declared.plain.OpEnd.TheVariants as ends
use Rattle.hk_base.specs.declared.plain.What.{What}
use Rattle.hk_base.specs.declared.plain.WireFault.{WireFault}
use Rattle.hk_base.proofs.Taking.{Wrote-append}
use Rattle.hk_spec_streams.specs.Operator.{Command, operator_fault, operator_seen, commands}
use Rattle.hk_spec_streams.proofs.GrowingBlocks.{enumerate-append}
use Rattle.hk_spec_lines.specs.Lines.{reply_line}
use Rattle.hk_spec_settings.specs.Settings.{Rules}
use Rattle.hk_spec_runs.specs.OperatorState.{OperatorState, new_state, Replies, state_after, after, at_end}
use Rattle.hk_spec_runs.specs.Replay.{OperatorStream}
use Rattle.hk_spec_monitor.specs.Run.{Obeyed, replies_text, whole_replies, is_reply_torn}
use Rattle.hk_operator.specs.Obeying.{stream_after, new_stream}
use Rattle.hk_operator.specs.Answering.{stream_of}
use Rattle.hk_operator.specs.declared.operator.Operator.{Operator}
use Rattle.hk_operator.proofs.Answering.{commands_grow, uses_what_is_seen}
use Rattle.hk_operator.proofs.CallsAfter.{over_stays}
use Rattle.hk_publish.specs.Holding.{Holding}
use Rattle.hk_clerk.specs.Course.{HasDone, Concludes, IsFaultOf, PieceLeaves}
use Rattle.hk_clerk.specs.declared.piece.Progress.TheVariants as progresses
use Rattle.hk_clerk.proofs.Doing.{as_many}

-- the text of one reply more
pub text_more : (rules : Rules) (told : List What) (what : What) → replies_text rules (told ++ what ∷ []) ≡ replies_text rules told ++ reply_line (length told + 1) what
text_more rules told what =
    let number : 1 + length told ≡ length told + 1 = omega arith in
    ap (flat_map (λ p. reply_line p.0 p.1)) (enumerate-append 1 told (what ∷ []))
    ∙ flat_map-append (λ p. reply_line p.0 p.1) (enumerate_from 1 told) (enumerate_from (1 + length told) (what ∷ []))
    ∙ ap (λ t. replies_text rules told ++ t) (append-nil (reply_line (1 + length told) what) ∙ ap (λ n. reply_line n what) number)

pub wrote_more : (rules : Rules) (told : List What) (what : What) (n : ℕ) (start old new : Option (List ℕ)) → n ≡ length told + 1 → Wrote (replies_text rules told) start old
    → Wrote (reply_line n what) old new → Wrote (replies_text rules (told ++ what ∷ [])) start new
wrote_more rules told what n start old new is so_far line =
    subst (λ t. Wrote t start new) (sym (text_more rules told what ∙ ap (λ k. replies_text rules told ++ reply_line k what) (sym is)))
    (Wrote-append (replies_text rules told) (reply_line n what) start old new so_far line)

-- The first of these commands, with as many replies.
first_fit : (cs more : List Command) (n : ℕ) → n ≡ length cs → take n (cs ++ more) ≡ cs
first_fit cs more n is = take-append-le n cs more (omega (arith, is)) ∙ take_all n cs (omega (arith, is))

first_state : (rules : Rules) (state : OperatorState) (cs more : List Command) (ws : List What) → length ws ≡ length cs → state_after rules state (cs ++ more) ws ≡ state_after rules state cs ws
first_state rules state [] [] [] same = refl
first_state rules state [] (c ∷ more) [] same = refl
first_state rules state [] more (w ∷ ws) same = absurd (omega (arith, same))
first_state rules state (c ∷ cs) more [] same = absurd (omega (arith, same))
first_state rules state (c ∷ cs) more (w ∷ ws) same = first_state rules (after rules state c w) cs more ws (omega (arith, same))

module _ (rules : Rules) where
  -- the commands of more bytes are more
  commands_more : (stream : OperatorStream) (bytes : List ℕ) → (more : List Command) × (commands (fold (stream_after rules) stream bytes).used ≡ commands stream.used ++ more)
  commands_more stream [] = ([], sym (append-nil (commands stream.used)))
  commands_more stream (b ∷ bytes) =
      let rest = commands_more (stream_after rules stream b) bytes in
      let one = commands_grow rules stream b in
      (_ ++ rest.0, rest.1 ∙ ap (λ cs. cs ++ rest.0) one ∙ append_assoc (commands stream.used) _ rest.0)

  -- a stream that is over stays so
  over_stays_all : (stream : OperatorStream) (bytes : List ℕ) (end : OpEnd) → stream.end ≡ Some end → fold (stream_after rules) stream bytes ≡ stream
  over_stays_all stream [] end is = refl
  over_stays_all stream (b ∷ bytes) end is =
      let same = over_stays rules stream b end is in
      ap (λ (s : OperatorStream). fold (stream_after rules) s bytes) same ∙ over_stays_all stream bytes end is

  stream_all : (taken rest : List ℕ) → stream_of rules (taken ++ rest) ≡ fold (stream_after rules) (stream_of rules taken) rest
  stream_all taken rest = fold-append (stream_after rules) new_stream taken rest

  pub skipped : (taken rest : List ℕ) (end : OpEnd) → (stream_of rules taken).end ≡ Some end → stream_of rules (taken ++ rest) ≡ stream_of rules taken
  skipped taken rest end is = stream_all taken rest ∙ over_stays_all (stream_of rules taken) rest end is

  -- what is done of bytes is done of those with skipped ones
  pub done_as : (taken longer : List ℕ) (told : List What) (operator : Operator) (desk : Holding) → stream_of rules longer ≡ stream_of rules taken
      → HasDone rules taken told operator desk → HasDone rules longer told operator desk
  done_as taken longer told operator desk same h = record { state = h.state; obeys = rw same h.obeys; replied = rw same h.replied; published = h.published }

  -- The commands of all bytes begin with those that were replied to.
  module _ (taken rest : List ℕ) (told : List What) (operator : Operator) (desk : Holding) (h : HasDone rules taken told operator desk) where
    all_commands : (more : List Command) × (commands (operator_seen rules.bytes (taken ++ rest)) ≡ commands (stream_of rules taken).used ++ more)
    all_commands =
        let grown = commands_more (stream_of rules taken) rest in
        (grown.0, ap commands (sym (uses_what_is_seen rules (taken ++ rest)).0) ∙ ap (λ (s : OperatorStream). commands s.used) (stream_all taken rest) ∙ grown.1)

    told_all : length told ≡ length (commands (stream_of rules taken).used)
    told_all = as_many rules new_state (commands (stream_of rules taken).used) told h.replied.fit

    pub fits : Replies rules new_state (take (length told) (commands (operator_seen rules.bytes (taken ++ rest)))) told
    fits =
        let all = all_commands in
        subst (λ cs. Replies rules new_state cs told) (sym (ap (take (length told)) all.1 ∙ first_fit (commands (stream_of rules taken).used) all.0 (length told) told_all)) h.replied.fit

    stands : state_after rules new_state (commands (operator_seen rules.bytes (taken ++ rest))) told ≡ h.state
    stands =
        let all = all_commands in
        ap (λ cs. state_after rules new_state cs told) all.1 ∙ first_state rules new_state (commands (stream_of rules taken).used) all.0 told told_all ∙ h.replied.stands

    pub journal_is : desk.published ≡ (at_end (state_after rules new_state (commands (operator_seen rules.bytes (taken ++ rest))) told)).journal
    journal_is = h.published ∙ sym (ap (λ (s : OperatorState). s.journal) stands)

    pub staged_is : desk.staged ≡ (state_after rules new_state (commands (operator_seen rules.bytes (taken ++ rest))) told).staged
    staged_is = h.obeys.shelf.staged ∙ sym (ap (λ (s : OperatorState). s.staged) stands)

  -- All replies are whole.
  pub whole : (start written : Option (List ℕ)) (taken : List ℕ) (told : List What) (operator : Operator) (desk : Holding) (end : OpEnd) → HasDone rules taken told operator desk
      → Wrote (replies_text rules told) start written → is_reply_torn end ≡ false
      → Concludes rules start taken operator desk written (record { taken = taken; replies = told; torn = []; end = end })
  whole start written taken told operator desk end h text isnt =
      let o : Obeyed = record { taken = taken; replies = told; torn = []; end = end } in
      let replies : whole_replies o ≡ told = ap (λ b. cond b (take (length told - 1) told) told) isnt in
      let all : commands (operator_seen rules.bytes taken) ≡ commands (stream_of rules taken).used = ap commands (sym (uses_what_is_seen rules taken).0) in
      let same : taken ++ [] ≡ taken = append-nil taken in
      record {
        taken_is = refl;
        text = subst (λ t. Wrote t start written) (sym (ap (λ ws. replies_text rules ws ++ []) replies ∙ append-nil (replies_text rules told))) text;
        replies = record {
          fit = subst (λ bytes. Replies rules new_state (take (length told) (commands (operator_seen rules.bytes bytes))) told) same (fits taken [] told operator desk h);
          journal_is = subst (λ bytes. desk.published ≡ (at_end (state_after rules new_state (commands (operator_seen rules.bytes bytes)) told)).journal) same (journal_is taken [] told operator desk h);
          all = λ not_torn. told_all taken [] told operator desk h ∙ ap length (sym all);
          whole = λ not_torn. refl;
          torn = λ torn. absurd (cc (torn, isnt));
        };
        staged = subst (λ bytes. desk.staged ≡ (state_after rules new_state (commands (operator_seen rules.bytes bytes)) told).staged) same (staged_is taken [] told operator desk h);
        counted = (stream_of rules taken, h.state, h.obeys, sym (told_all taken [] told operator desk h));
      }

  -- The last reply is torn. What lies behind its command's bytes was taken, and nothing of it was done.
  pub torn : (start old written : Option (List ℕ)) (taken rest : List ℕ) (told : List What) (what : What) (n : ℕ) (operator : Operator) (desk : Holding)
      → HasDone rules taken (told ++ what ∷ []) operator desk → n ≡ length told + 1 → Wrote (replies_text rules told) start old → WroteFront (reply_line n what) old written
      → (o : Obeyed) × Concludes rules start (taken ++ rest) operator desk written o × (o.end ≡ ends.SinkFault)
  torn start old written taken rest told what n operator desk h is text front =
      let o : Obeyed = record { taken = taken ++ rest; replies = told ++ what ∷ []; torn = front.0; end = ends.SinkFault } in
      let one_more : length (told ++ what ∷ []) ≡ length told + 1 = length-append told (what ∷ []) in
      let first : take (length (told ++ what ∷ []) - 1) (told ++ what ∷ []) ≡ told =
      ap (λ k. take (k - 1) (told ++ what ∷ [])) one_more ∙ front_of told what in (
        o,
        record {
          taken_is = refl;
          text = subst (λ ws. Wrote (replies_text rules ws ++ front.0) start written) (sym first) (Wrote-append (replies_text rules told) front.0 start old written text front.4);
          replies = record {
            fit = fits taken rest (told ++ what ∷ []) operator desk h;
            journal_is = journal_is taken rest (told ++ what ∷ []) operator desk h;
            all = λ not_torn. absurd (cc not_torn);
            whole = λ not_torn. absurd (cc not_torn);
            torn = λ torn. record {
              what = what;
              missing = front.1;
              last = ap (λ ws. ws ++ what ∷ []) (sym first);
              line = ap (λ k. reply_line k what) (one_more ∙ sym is) ∙ front.2;
              proper = front.3;
            };
          };
          staged = staged_is taken rest (told ++ what ∷ []) operator desk h;
          counted = (stream_of rules taken, h.state, h.obeys, sym (told_all taken [] (told ++ what ∷ []) operator desk h));
        },
        refl,
      )
    where
      front_of : (ws : List What) (w : What) → take (length ws + 1 - 1) (ws ++ w ∷ []) ≡ ws
      front_of ws w =
          let same : length ws + 1 - 1 ≡ length ws = omega arith in
          ap (λ k. take k (ws ++ w ∷ [])) same ∙ take-append-le (length ws) ws (w ∷ []) (omega arith) ∙ take_all (length ws) ws (omega arith)

  -- The end of a stream that is over is its fault.
  pub by_fault : (taken : List ℕ) (end : OpEnd) → (stream_of rules taken).end ≡ Some end → IsFaultOf rules taken end
  by_fault taken end is = by (operator_fault rules.bytes taken) refl
    where
      by : (fault : Option WireFault) → operator_fault rules.bytes taken ≡ fault → IsFaultOf rules taken end
      by None none = absurd (cc (is, (uses_what_is_seen rules taken).1, ap (option_map (λ f. ends.Wire f)) none))
      by (Some fault) some = (fault, cc (is, (uses_what_is_seen rules taken).1, ap (option_map (λ f. ends.Wire f)) some), some)

  -- a fault doesn't tear a reply
  pub fault_is_whole : (taken : List ℕ) (end : OpEnd) → IsFaultOf rules taken end → is_reply_torn end ≡ false
  fault_is_whole taken end fault = ap is_reply_torn fault.1

  -- The stream is over by a byte, and the rest of the piece is skipped.
  pub over : (start written : Option (List ℕ)) (taken rest : List ℕ) (told : List What) (operator : Operator) (desk : Holding) (end : OpEnd)
      → (stream_of rules taken).end ≡ Some end → HasDone rules taken told operator desk → Wrote (replies_text rules told) start written
      → PieceLeaves rules start (taken ++ rest) operator desk written (progresses.Over end)
  over start written taken rest told operator desk end is h text =
      let stays = skipped taken rest end is in
      let fault = by_fault (taken ++ rest) end (ap (λ (s : OperatorStream). s.end) stays ∙ is) in (
        record { taken = taken ++ rest; replies = told; torn = []; end = end },
        whole start written (taken ++ rest) told operator desk end (done_as taken (taken ++ rest) told operator desk stays h) text (fault_is_whole (taken ++ rest) end fault),
        refl,
        fault,
      )

-- a piece round one of its bytes, and the front with it
pub around_byte : (taken piece : List ℕ) (i : ℕ) → i < length piece → ((taken ++ take i piece) ++ get_or piece i 0 ∷ []) ++ drop (i + 1) piece ≡ taken ++ piece
around_byte taken piece i inside =
    append_assoc (taken ++ take i piece) (get_or piece i 0 ∷ []) (drop (i + 1) piece) ∙ append_assoc taken (take i piece) (get_or piece i 0 ∷ drop (i + 1) piece)
    ∙ ap (λ bytes. taken ++ bytes) (ap (λ rest. take i piece ++ rest) (sym (rw (add-one, drop-cons piece i 0))) ∙ take-append-drop i piece)

pub front_more : (taken piece : List ℕ) (i : ℕ) → i < length piece → (taken ++ take i piece) ++ get_or piece i 0 ∷ [] ≡ taken ++ take (i + 1) piece
front_more taken piece i inside = append_assoc taken (take i piece) (get_or piece i 0 ∷ []) ∙ ap (λ bytes. taken ++ bytes) (sym (take_more piece i 0 inside))
