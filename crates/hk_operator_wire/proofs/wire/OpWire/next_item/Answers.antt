use Rattle.std.proofs.Common.{◌≡◌, ◌++◌, ◌∷◌, [], length, None, ◌∙◌, ap, sym, subst, arith}
use Rattle.hk_spec_streams.specs.Operator.{operator_met}
use Rattle.hk_wire.specs.Kept.{EndsAtLimit, fault_kept}
use Rattle.hk_wire.proofs.StillKept.{no_such, fault_at}
use Rattle.hk_operator_wire.specs.Items.{last_command, IsPossible}
use Rattle.hk_operator_wire.proofs.Ending.{possible}
use Rattle.hk_operator_wire.proofs.Reading.{too_long}
use Rattle.hk_operator_wire.proofs.Taking.{item_at_fault, item_at_none}
use Rattle.hk_operator_wire.proofs.wire.OpWire.next_item.Goals as goal

at_limit : EndsAtLimit operator_met
at_limit text byte = too_long (length text) text byte (omega arith)

pub returns-in-Err-clause-item : goal.returns-in-Err-clause-item
returns-in-Err-clause-item c = λ text has.
    sym (item_at_fault c.args.self.now.passage.limit (text ++ c.args.byte ∷ []) c.in-Err.fault
    (fault_at operator_met c.next_place.new.self _ _ _ (c.in-Err.ensures.keeps operator_met text c.args.byte at_limit has.keeps)
    c.next_place.ensures.limit_stays (sym c.in-Err.ensures.fault)))

pub returns-in-Err-clause-taken : goal.returns-in-Err-clause-taken
returns-in-Err-clause-taken c = λ text has. record {
  keeps = c.in-Err.ensures.keeps operator_met text c.args.byte at_limit has.keeps;
  stands = λ none. absurd (no_such c.in-Err.fault (sym c.in-Err.ensures.fault) none);
}

pub returns-in-Ok-take-clause-item : goal.returns-in-Ok-take-clause-item
returns-in-Ok-take-clause-item c = λ text has.
    let none : fault_kept c.next_place.new.self ≡ None = sym c.in-Ok.ensures.fault in
    let place = c.in-Ok.ensures.at_end operator_met text has.keeps in
    let stands = has.stands (sym (ap fault_kept c.in-Ok.ensures.same_place) ∙ none) in
    c.in-Ok-take.ensures.item text place stands ∙ sym (item_at_none c.args.self.now.passage.limit (text ++ c.args.byte ∷ [])
    (fault_at operator_met c.advance.new.self _ _ _
    (c.advance.ensures.keeps operator_met text c.args.byte none (c.in-Ok.ensures.still_keeps operator_met text has.keeps)
    (sym (c.in-Ok-take.ensures.fault c.next_place.new.self.limit text place c.in-Ok.ensures.room stands)))
    (c.advance.ensures.limit_stays ∙ c.next_place.ensures.limit_stays) (c.advance.ensures.same_fault ∙ none)))

pub returns-in-Ok-take-clause-taken : goal.returns-in-Ok-take-clause-taken
returns-in-Ok-take-clause-taken c = λ text has.
    let none : fault_kept c.next_place.new.self ≡ None = sym c.in-Ok.ensures.fault in
    let place = c.in-Ok.ensures.at_end operator_met text has.keeps in
    let stands = has.stands (sym (ap fault_kept c.in-Ok.ensures.same_place) ∙ none) in
    record {
      keeps = c.advance.ensures.keeps operator_met text c.args.byte none (c.in-Ok.ensures.still_keeps operator_met text has.keeps)
          (sym (c.in-Ok-take.ensures.fault c.next_place.new.self.limit text place c.in-Ok.ensures.room stands));
      stands = λ still. c.in-Ok-take.ensures.stands text place stands;
    }

pub returns-in-Err-take-clause-item : goal.returns-in-Err-take-clause-item
returns-in-Err-take-clause-item c = λ text has.
    let none : fault_kept c.next_place.new.self ≡ None = sym c.in-Ok.ensures.fault in
    let stands = has.stands (sym (ap fault_kept c.in-Ok.ensures.same_place) ∙ none) in
    sym (item_at_fault c.args.self.now.passage.limit (text ++ c.args.byte ∷ []) c.in-Err-take.fault
    (fault_at operator_met c.fail.new.self _ _ _
    (c.fail.ensures.keeps operator_met text c.args.byte none (c.in-Ok.ensures.still_keeps operator_met text has.keeps)
    (sym (c.in-Err-take.ensures.fault c.next_place.new.self.limit text (c.in-Ok.ensures.at_end operator_met text has.keeps) c.in-Ok.ensures.room stands)))
    (c.fail.ensures.limit_stays ∙ c.next_place.ensures.limit_stays) c.fail.ensures.fault))

pub returns-in-Ok-take-clause-possible : goal.returns-in-Ok-take-clause-possible
returns-in-Ok-take-clause-possible c = λ text has.
    let none : fault_kept c.next_place.new.self ≡ None = sym c.in-Ok.ensures.fault in
    let place = c.in-Ok.ensures.at_end operator_met text has.keeps in
    let stands = has.stands (sym (ap fault_kept c.in-Ok.ensures.same_place) ∙ none) in
    subst IsPossible (sym (c.in-Ok-take.ensures.item text place stands))
    (possible (last_command (text ++ c.args.byte ∷ [])) (c.in-Ok-take.ensures.stands text place stands).order)
