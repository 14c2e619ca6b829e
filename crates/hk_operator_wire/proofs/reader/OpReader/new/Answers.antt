use Rattle.std.proofs.Common.{[], sym, subst, arith}
use Rattle.hk_wire.specs.Held.{IsLast}
use Rattle.hk_operator_wire.specs.Heads.{HasLastFour}
use Rattle.hk_operator_wire.specs.Taken.{IsGoodSoFar}
use Rattle.hk_operator_wire.proofs.Reading.{in_hello}
use Rattle.hk_operator_wire.proofs.Coming.{nothing_in_order}
use Rattle.hk_operator_wire.proofs.reader.OpReader.new.Goals as goal

pub returns-clause-stands : goal.returns-clause-stands
returns-clause-stands c = record {
  packet = subst (IsLast c.new.result) (sym (in_hello [] (omega arith))) c.new.ensures.no_bytes;
  recent = subst (HasLastFour c.new-2.result) (sym (in_hello [] (omega arith))) c.new-2.ensures;
  order = subst IsGoodSoFar (sym (in_hello [] (omega arith))) nothing_in_order;
}
