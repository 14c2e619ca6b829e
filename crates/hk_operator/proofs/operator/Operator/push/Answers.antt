use Rattle.std.proofs.Common.{refl, sym, ◌∙◌}
use Rattle.hk_operator.proofs.Deciding.{stays}
use Rattle.hk_operator.proofs.Following.{fault_over, fault_answered, more_over, more_answered, command_over, command_answered, over_same, never_on}
use Rattle.hk_operator.proofs.operator.Operator.push.Goals as goal

pub returns-in-Fault-clause-over : goal.returns-in-Fault-clause-over
returns-in-Fault-clause-over g c = λ rules operator_stream state h.
    fault_over rules c.args.self.now (g.S.Shelf.shelf c.args.shelf.now) operator_stream state c.args.byte h c.push-item.new.self c.push-item.result c.push-item.ensures c.in-Fault.fault c.in-Fault.is

pub returns-in-Fault-clause-answered : goal.returns-in-Fault-clause-answered
returns-in-Fault-clause-answered g c = λ rules operator_stream state h.
    fault_answered rules c.args.self.now (g.S.Shelf.shelf c.args.shelf.now) operator_stream state c.args.byte h c.push-item.new.self c.push-item.result c.push-item.ensures c.in-Fault.fault c.in-Fault.is _

pub returns-else-ends : goal.returns-else-ends
returns-else-ends g c = record {
  over = λ rules operator_stream state h.
      more_over rules c.args.self.now (g.S.Shelf.shelf c.args.shelf.now) operator_stream state c.args.byte h c.push-item.new.self c.push-item.result c.push-item.ensures c.in_default.not-Fault
      c.part-part.result c.part-part.ensures c.take.new.self c.take.ensures c.take-2.new.self (λ sound is. c.take-2.ensures.hears rules state.song sound h.fixed is) c.take-2.ensures.room
      (sym c.ends.ensures ∙ c.if-ends.false);
  answered = λ rules operator_stream state h.
      more_answered rules c.args.self.now (g.S.Shelf.shelf c.args.shelf.now) operator_stream state c.args.byte h c.push-item.new.self c.push-item.result c.push-item.ensures c.in_default.not-Fault
      c.part-part.result c.part-part.ensures c.take.new.self c.take.ensures c.take-2.new.self (λ sound is. c.take-2.ensures.hears rules state.song sound h.fixed is) c.take-2.ensures.room
      (sym c.ends.ensures ∙ c.if-ends.false) _;
  over_stays = λ rules operator_stream state h over.
      absurd (never_on rules c.args.self.now (g.S.Shelf.shelf c.args.shelf.now) operator_stream state c.args.byte h c.push-item.new.self c.push-item.result c.push-item.ensures c.in_default.not-Fault over);
  published = stays (g.S.Shelf.shelf c.args.shelf.now);
}

pub returns-then-ends : goal.returns-then-ends
returns-then-ends g c = record {
  over = λ rules operator_stream state h.
      command_over rules c.args.self.now (g.S.Shelf.shelf c.args.shelf.now) operator_stream state c.args.byte h c.push-item.new.self c.push-item.result c.push-item.ensures c.in_default.not-Fault
      c.part-part.result c.part-part.ensures c.take.new.self c.take.ensures c.take-2.new.self (λ sound is. c.take-2.ensures.hears rules state.song sound h.fixed is) c.take-2.ensures.room
      (sym c.ends.ensures ∙ c.if-ends.true) c.complete.new.self (g.S.Shelf.shelf c.complete.new.shelf) c.complete.ensures.kept c.complete.result (c.complete.ensures.answered rules state);
  answered = λ rules operator_stream state h.
      command_answered rules c.args.self.now (g.S.Shelf.shelf c.args.shelf.now) operator_stream state c.args.byte h c.push-item.new.self c.push-item.result c.push-item.ensures c.in_default.not-Fault
      c.part-part.result c.part-part.ensures c.take.new.self c.take.ensures c.take-2.new.self (λ sound is. c.take-2.ensures.hears rules state.song sound h.fixed is) c.take-2.ensures.room
      (sym c.ends.ensures ∙ c.if-ends.true) c.complete.new.self (g.S.Shelf.shelf c.complete.new.shelf) c.complete.ensures.kept c.complete.result (c.complete.ensures.answered rules state);
  over_stays = λ rules operator_stream state h over.
      absurd (never_on rules c.args.self.now (g.S.Shelf.shelf c.args.shelf.now) operator_stream state c.args.byte h c.push-item.new.self c.push-item.result c.push-item.ensures c.in_default.not-Fault over);
  published = c.complete.ensures.published;
}

pub returns-in-Fault-clause-over_stays : goal.returns-in-Fault-clause-over_stays
returns-in-Fault-clause-over_stays g c = λ rules operator_stream state h over.
    (over_same rules c.args.self.now (g.S.Shelf.shelf c.args.shelf.now) operator_stream state c.args.byte h c.push-item.new.self c.push-item.result c.push-item.ensures over, refl)
