-- What a clerk did, by how its operator's stream ended.
use Rattle.std.proofs.Common.{◌≡◌, ℕ, ◌-◌, min, List, [], ◌∷◌, length, take, length-take, refl, sym, ◌∙◌, ap, subst, arith, Bool, true, false, Option, Some, None, cond}
use Rattle.std.specs.Prelude.{◌==◌, ◌||◌, if◌then◌else◌, option_map, unwrap_or}
use Rattle.std.specs.Option.{option_or, option_map_or}
use Rattle.hk_base.specs.Devices.{Took, Rose, IsNothing}
use Rattle.hk_base.specs.declared.plain.OpEnd.{OpEnd}
use Rattle.hk_base.specs.declared.plain.OpEnd.TheVariants as ends
use Rattle.hk_base.specs.declared.plain.What.{What}
use Rattle.hk_base.specs.declared.plain.WireFault.{WireFault}
use Rattle.hk_base.specs.declared.plain.WireFault.TheVariants.{Cut}
use Rattle.hk_base.specs.declared.sink.Sink as sinks
use Rattle.hk_base.specs.declared.source.Source as sources
use Rattle.hk_base.proofs.Taking.{Wrote-nothing}
use Rattle.hk_spec_streams.specs.Operator.{operator_grammar, operator_met, operator_fault, operator_wrong}
use Rattle.hk_spec_streams.specs.Grammar.{ends_at_start}
use Rattle.hk_spec_streams.proofs.NextFault.{seen_of-all}
use Rattle.hk_spec_matching.specs.Catalogue.{version}
use Rattle.hk_spec_settings.specs.Settings.{Rules}
use Rattle.hk_spec_runs.specs.OperatorState.{new_state}
use Rattle.hk_spec_runs.specs.Replay.{operator_end_of}
use Rattle.hk_spec_monitor.specs.Run.{Obeyed, is_reply_torn, whole_replies}
use Rattle.hk_spec_monitor.specs.Causes.{OperatorCauseOf, OperatorStayedBut}
use Rattle.hk_outside.specs.Doors.{Pair}
use Rattle.hk_outside.specs.declared.door.Held.{Held}
use Rattle.hk_outside.specs.declared.door.Held.TheVariants as held
use Rattle.hk_operator.specs.OnShelf.{IsOnShelf}
use Rattle.hk_operator.specs.Obeying.{IsObeying, new_stream}
use Rattle.hk_operator.specs.Answering.{stream_of}
use Rattle.hk_operator.specs.declared.operator.Operator.{Operator}
use Rattle.hk_operator.proofs.Answering.{replies_begin, uses_what_is_seen}
use Rattle.hk_publish.specs.Holding.{Holding, new_holding, shelf_of}
use Rattle.hk_clerk.specs.Course.{Goes, HasAnswered, Concludes, IsFaultOf, PieceLeaves}
use Rattle.hk_clerk.specs.Clerks.{pair_of, HasObeyedAll}
use Rattle.hk_clerk.specs.declared.office.Office.{Office}
use Rattle.hk_clerk.specs.declared.piece.Progress.TheVariants as progresses
use Rattle.hk_clerk.proofs.Concluding.{whole}

no_batch : {A : Type 0} (journal : List A) → length journal ≡ 0 → [] ≡ journal
no_batch [] none = refl
no_batch (batch ∷ rest) none = absurd (omega (arith, none))

-- Before the first byte nothing was done.
pub none_answered : (rules : Rules) (operator : Operator) (desk : Holding) (written : Option (List ℕ)) → IsObeying rules operator (shelf_of desk) new_stream new_state
    → HasAnswered rules written [] [] operator desk written
none_answered rules operator desk written h = record {
  done = record {
    state = new_state;
    obeys = h;
    replied = replies_begin rules;
    published = sym (no_batch desk.published (ap (λ b. b.0) h.shelf.base));
  };
  going = refl;
  text = Wrote-nothing written;
}

-- the end of a stream that goes on, by what is wrong with the whole
abbrev end_by : Option WireFault → OpEnd
end_by wrong = option_map_or (λ fault. ends.Wire fault) wrong ends.Ended

module _ (rules : Rules) (taken : List ℕ) (going : Goes rules taken) where
  -- a stream that goes on has no fault
  no_fault : operator_fault rules.bytes taken ≡ None
  no_fault = by (operator_fault rules.bytes taken) refl
    where
      by : (fault : Option WireFault) → operator_fault rules.bytes taken ≡ fault → operator_fault rules.bytes taken ≡ None
      by None is = is
      by (Some fault) is = absurd (cc (going, (uses_what_is_seen rules taken).1, ap (option_map (λ f. ends.Wire f)) is))

  used_all : (stream_of rules taken).used ≡ taken
  used_all = (uses_what_is_seen rules taken).0 ∙ seen_of-all (operator_met rules.bytes) taken no_fault

  -- how it ends
  pub ends_by : operator_end_of rules (stream_of rules taken) ≡ end_by (operator_wrong rules.bytes taken)
  ends_by = ap (λ e. unwrap_or e (end_by (operator_wrong rules.bytes (stream_of rules taken).used))) going ∙ ap (λ bytes. end_by (operator_wrong rules.bytes bytes)) used_all

-- a fault is what is wrong with the whole
fault_is_wrong : (limit : ℕ) (text : List ℕ) (fault : WireFault) → operator_fault limit text ≡ Some fault → operator_wrong limit text ≡ Some fault
fault_is_wrong limit text fault is = ap (λ f. option_or f (if (length text == 0) || ends_at_start operator_grammar text then None else Some (Cut (length text)))) is

-- the cause of an end, and that no other count rose
pub record IsCaused (rules : Rules) (old new : Pair) (o : Obeyed) (end : OpEnd) : Type 0 where
  pub cause : OperatorCauseOf rules old new o end
  pub stayed : OperatorStayedBut old new end

module _ (rules : Rules) (old new : Pair) (o : Obeyed) where
  pub ended_caused : Goes rules o.taken → IsNothing new.gives.bytes → new.gives.faults ≡ old.gives.faults → new.takes.faults ≡ old.takes.faults
      → IsCaused rules old new o (operator_end_of rules (stream_of rules o.taken)) × (is_reply_torn (operator_end_of rules (stream_of rules o.taken)) ≡ false)
  ended_caused going nothing reads writes = subst (λ end. IsCaused rules old new o end × (is_reply_torn end ≡ false)) (sym (ends_by rules o.taken going)) (by (operator_wrong rules.bytes o.taken) refl)
    where
      by : (wrong : Option WireFault) → operator_wrong rules.bytes o.taken ≡ wrong → IsCaused rules old new o (end_by wrong) × (is_reply_torn (end_by wrong) ≡ false)
      by None is = (record { cause = (nothing, is); stayed = record { calls = λ isnt. reads; replies = λ isnt. writes } }, refl)
      by (Some fault) is = (record { cause = (is, λ none. nothing); stayed = record { calls = λ isnt. reads; replies = λ isnt. writes } }, refl)

  pub failed_caused : Goes rules o.taken → Rose old.gives.faults new.gives.faults → new.takes.faults ≡ old.takes.faults → IsCaused rules old new o ends.ReadFault
  failed_caused going rose writes = record { cause = (rose, no_fault rules o.taken going); stayed = record { calls = λ isnt. absurd (cc isnt); replies = λ isnt. writes } }

  pub torn_caused : new.gives.faults ≡ old.gives.faults → Rose old.takes.faults new.takes.faults → IsCaused rules old new o ends.SinkFault
  torn_caused reads rose = record { cause = rose; stayed = record { calls = λ isnt. reads; replies = λ isnt. absurd (cc isnt) } }

  pub fault_caused : (end : OpEnd) → IsFaultOf rules o.taken end → new.gives.faults ≡ old.gives.faults → new.takes.faults ≡ old.takes.faults → IsCaused rules old new o end
  fault_caused end fault reads writes = subst (IsCaused rules old new o) (sym fault.1) (record {
    cause = (fault_is_wrong rules.bytes o.taken fault.0 fault.2, λ none. absurd (cc (fault.2, none)));
    stayed = record { calls = λ isnt. reads; replies = λ isnt. writes };
  })

-- All of it, for an office.
module _ {C P : Type 0} (source : sources.Ghosts C) (sink : sinks.Ghosts P) (rules : Rules) (old new : Office C P) (desk : Holding) where
  pub obeyed_all : (o : Obeyed) (taken : List ℕ) → Took taken (source.left old.calls) (source.left new.calls)
      → Concludes rules (sink.written old.replies) taken new.operator desk (sink.written new.replies) o → new.end ≡ Some o.end
      → ((held held' : Held) → IsCaused rules (pair_of source sink held old) (pair_of source sink held' new) o o.end)
      → HasObeyedAll source sink rules old new desk o
  obeyed_all o taken took concludes end caused = record {
    taken = subst (λ bytes. Took bytes (source.left old.calls) (source.left new.calls)) (sym concludes.taken_is) took;
    written = concludes.text;
    replies = concludes.replies;
    staged = concludes.staged;
    counted = concludes.counted;
    end = end;
    cause = λ held held'. (caused held held').cause;
    stayed = λ held held'. (caused held held').stayed;
  }

  -- nothing was left of a stream that goes on
  pub at_its_end : (taken : List ℕ) (told : List What) (end : OpEnd) → Took taken (source.left old.calls) (source.left new.calls)
      → HasAnswered rules (sink.written old.replies) taken told new.operator desk (sink.written new.replies) → end ≡ operator_end_of rules (stream_of rules taken) → new.end ≡ Some end
      → IsNothing (source.left new.calls) → source.faults new.calls ≡ source.faults old.calls → sink.faults new.replies ≡ sink.faults old.replies
      → (o : Obeyed) × HasObeyedAll source sink rules old new desk o
  at_its_end taken told end took h is ended nothing reads writes =
      let o : Obeyed = record { taken = taken; replies = told; torn = []; end = operator_end_of rules (stream_of rules taken) } in (
        o,
        obeyed_all o taken took
            (whole rules (sink.written old.replies) (sink.written new.replies) taken told new.operator desk o.end h.done h.text
            (ended_caused rules (pair_of source sink held.Inside old) (pair_of source sink held.Inside new) o h.going nothing reads writes).1)
            (ended ∙ ap (λ e. Some e) is)
            (λ at at'. (ended_caused rules (pair_of source sink at old) (pair_of source sink at' new) o h.going nothing reads writes).0),
      )

  -- a read failed
  pub at_a_failure : (taken : List ℕ) (told : List What) → Took taken (source.left old.calls) (source.left new.calls)
      → HasAnswered rules (sink.written old.replies) taken told new.operator desk (sink.written new.replies) → new.end ≡ Some ends.ReadFault
      → Rose (source.faults old.calls) (source.faults new.calls) → sink.faults new.replies ≡ sink.faults old.replies
      → (o : Obeyed) × HasObeyedAll source sink rules old new desk o
  at_a_failure taken told took h ended rose writes =
      let o : Obeyed = record { taken = taken; replies = told; torn = []; end = ends.ReadFault } in (
        o,
        obeyed_all o taken took (whole rules (sink.written old.replies) (sink.written new.replies) taken told new.operator desk ends.ReadFault h.done h.text refl) ended
            (λ at at'. failed_caused rules (pair_of source sink at old) (pair_of source sink at' new) o h.going rose writes),
      )

  -- the bytes met a fault
  pub at_a_fault : (taken : List ℕ) (end : OpEnd) → Took taken (source.left old.calls) (source.left new.calls)
      → PieceLeaves rules (sink.written old.replies) taken new.operator desk (sink.written new.replies) (progresses.Over end) → new.end ≡ Some end
      → source.faults new.calls ≡ source.faults old.calls → sink.faults new.replies ≡ sink.faults old.replies
      → (o : Obeyed) × HasObeyedAll source sink rules old new desk o
  at_a_fault taken end took h ended reads writes = (
    h.0,
    obeyed_all h.0 taken took h.1 (ended ∙ ap (λ e. Some e) (sym h.2))
        (λ at at'. subst (IsCaused rules (pair_of source sink at old) (pair_of source sink at' new) h.0) (sym h.2)
        (fault_caused rules (pair_of source sink at old) (pair_of source sink at' new) h.0 end (subst (λ bytes. IsFaultOf rules bytes end) (sym h.1.taken_is) h.3) reads writes)),
  )

  -- a reply was torn
  pub at_a_tear : (taken : List ℕ) → Took taken (source.left old.calls) (source.left new.calls)
      → PieceLeaves rules (sink.written old.replies) taken new.operator desk (sink.written new.replies) progresses.Torn → new.end ≡ Some ends.SinkFault
      → source.faults new.calls ≡ source.faults old.calls → Rose (sink.faults old.replies) (sink.faults new.replies)
      → (o : Obeyed) × HasObeyedAll source sink rules old new desk o
  at_a_tear taken took h ended reads rose = (
    h.0,
    obeyed_all h.0 taken took h.1 (ended ∙ ap (λ e. Some e) (sym h.2))
        (λ at at'. subst (IsCaused rules (pair_of source sink at old) (pair_of source sink at' new) h.0) (sym h.2)
        (torn_caused rules (pair_of source sink at old) (pair_of source sink at' new) h.0 reads rose)),
  )

-- A desk of which nothing is published or staged is new.
pub new_desk_fits : (rules : Rules) (desk : Holding) → desk ≡ new_holding desk.home rules.limits → IsOnShelf rules (shelf_of desk) new_state
unfolding version
new_desk_fits rules desk is =
    subst (λ (d : Holding). IsOnShelf rules (shelf_of d) new_state) (sym is) (record { present = refl; staged = refl; base = refl; limits = refl })

-- So many replies are whole, by whether the last one is torn.
pub whole_by : (o : Obeyed) (torn : Bool) → is_reply_torn o.end ≡ torn → length (whole_replies o) ≡ cond torn (length o.replies - 1) (length o.replies)
whole_by o true is = ap (λ b. length (cond b (take (length o.replies - 1) o.replies) o.replies)) is ∙ length-take (length o.replies - 1) o.replies ∙ min_of (length o.replies)
  where
    min_of : (n : ℕ) → min (n - 1) n ≡ n - 1
    min_of n = omega arith
whole_by o false is = ap (λ b. length (cond b (take (length o.replies - 1) o.replies) o.replies)) is

pub torn_is : (o : Obeyed) (end : Option OpEnd) (torn : Bool) → end ≡ Some o.end → torn ≡ option_map_or is_reply_torn end false → is_reply_torn o.end ≡ torn
torn_is o end torn ends is = sym (is ∙ ap (λ e. option_map_or is_reply_torn e false) ends)
