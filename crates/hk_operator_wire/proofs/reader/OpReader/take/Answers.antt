use Rattle.std.proofs.Common.{◌≡◌, ◌++◌, ◌∷◌, [], ap, ◌∙◌, sym, subst, arith}
use Rattle.std.specs.Prelude.{IfOk}
use Rattle.std.specs.Result.{result_err}
use Rattle.hk_spec_streams.proofs.Optional.{on_ok}
use Rattle.hk_wire.specs.Held.{IsLast}
use Rattle.hk_operator_wire.specs.Items.{last_command, head_of, item_of}
use Rattle.hk_operator_wire.specs.Heads.{HasLastFour, head_fault, hello_outcome}
use Rattle.hk_operator_wire.proofs.Reading.{next_bytes, last_command-next, in_hello, hello_stays, hello_met, hello_item, packet_met, either, last_is, some_next, next_last}
use Rattle.hk_operator_wire.specs.Taken.{IsGoodSoFar}
use Rattle.hk_operator_wire.proofs.Coming.{next_in_order}
use Rattle.hk_operator_wire.proofs.reader.OpReader.take.Goals as goal

pub returns-then-place-lt-HELLO_SIZE-clause-fault : goal.returns-then-place-lt-HELLO_SIZE-clause-fault
returns-then-place-lt-HELLO_SIZE-clause-fault c = λ limit text place below h.
    ap result_err (c.take_hello.ensures ∙ ap (λ p. hello_outcome p c.args.byte) place)
    ∙ sym (hello_met limit text c.args.byte (omega arith) (omega arith))

pub returns-then-place-lt-HELLO_SIZE-clause-item : goal.returns-then-place-lt-HELLO_SIZE-clause-item
returns-then-place-lt-HELLO_SIZE-clause-item c = λ text place h.
    subst (λ r. IfOk r (λ item. item ≡ item_of (last_command (text ++ c.args.byte ∷ [])))) (sym c.take_hello.ensures)
    (hello_item c.args.place c.args.byte (last_command (text ++ c.args.byte ∷ [])) (hello_stays text c.args.byte (omega arith)))

pub returns-then-place-lt-HELLO_SIZE-clause-stands : goal.returns-then-place-lt-HELLO_SIZE-clause-stands
returns-then-place-lt-HELLO_SIZE-clause-stands c = λ text place h.
    let same : last_command text ≡ last_command (text ++ c.args.byte ∷ []) = in_hello text (omega arith) ∙ sym (hello_stays text c.args.byte (omega arith)) in
    on_ok c.take_hello.result (record {
      packet = subst (IsLast c.args.self.now.packet) same h.packet;
      recent = subst (HasLastFour c.args.self.now.recent) same h.recent;
      order = subst IsGoodSoFar same h.order;
    })

pub returns-in-Some-clause-fault : goal.returns-in-Some-clause-fault
returns-in-Some-clause-fault c = λ limit text place below h.
    let bytes = next_bytes (last_command text) c.args.byte in
    let is : last_command (text ++ c.args.byte ∷ []) ≡ next_bytes (last_command text) c.args.byte = last_command-next text c.args.byte (omega arith) in
    let last : IsLast c.push.new.self (next_bytes (last_command text) c.args.byte) =
    next_last _ c.push.new.self (last_command text) c.args.byte c.args.self.now.long_lengths (c.push.ensures.next (last_command text) h.packet) in
    let head : c.head-head.result ≡ head_of (next_bytes (last_command text) c.args.byte) = c.head-head.ensures bytes last in
    sym c.in-Some.is ∙ c.head_fault.ensures ∙ ap (λ x. head_fault c.args.place x) head ∙ ap (λ p. head_fault p (head_of bytes)) place
    ∙ sym (packet_met limit text c.args.byte bytes (omega arith) (omega arith) is)

pub returns-in-None-clause-fault : goal.returns-in-None-clause-fault
returns-in-None-clause-fault c = λ limit text place below h.
    let bytes = next_bytes (last_command text) c.args.byte in
    let is : last_command (text ++ c.args.byte ∷ []) ≡ next_bytes (last_command text) c.args.byte = last_command-next text c.args.byte (omega arith) in
    let last : IsLast c.push.new.self (next_bytes (last_command text) c.args.byte) =
    next_last _ c.push.new.self (last_command text) c.args.byte c.args.self.now.long_lengths (c.push.ensures.next (last_command text) h.packet) in
    let head : c.head-head.result ≡ head_of (next_bytes (last_command text) c.args.byte) = c.head-head.ensures bytes last in
    sym c.in-None.is ∙ c.head_fault.ensures ∙ ap (λ x. head_fault c.args.place x) head ∙ ap (λ p. head_fault p (head_of bytes)) place
    ∙ sym (packet_met limit text c.args.byte bytes (omega arith) (omega arith) is)

pub returns-in-None-clause-item : goal.returns-in-None-clause-item
returns-in-None-clause-item c = λ text place h.
    let bytes = next_bytes (last_command text) c.args.byte in
    let is : last_command (text ++ c.args.byte ∷ []) ≡ next_bytes (last_command text) c.args.byte = last_command-next text c.args.byte (omega arith) in
    let last : IsLast c.push.new.self (next_bytes (last_command text) c.args.byte) =
    next_last _ c.push.new.self (last_command text) c.args.byte c.args.self.now.long_lengths (c.push.ensures.next (last_command text) h.packet) in
    let head : c.head-head.result ≡ head_of (next_bytes (last_command text) c.args.byte) = c.head-head.ensures bytes last in
    let recent : HasLastFour c.push-2.new.self (next_bytes (last_command text) c.args.byte) = either (HasLastFour c.push-2.new.self) (last_command text) c.args.byte
    (c.push-2.ensures.begins (last_command text) h.recent) (c.push-2.ensures.goes_on (last_command text) h.recent) in
    c.item.ensures bytes last recent (some_next (last_command text) c.args.byte) head (last_is (last_command text) c.args.byte)
    ∙ sym (ap item_of is)

pub returns-in-None-clause-stands : goal.returns-in-None-clause-stands
returns-in-None-clause-stands c = λ text place h.
    let bytes = next_bytes (last_command text) c.args.byte in
    let is : last_command (text ++ c.args.byte ∷ []) ≡ next_bytes (last_command text) c.args.byte = last_command-next text c.args.byte (omega arith) in
    let last : IsLast c.push.new.self (next_bytes (last_command text) c.args.byte) =
    next_last _ c.push.new.self (last_command text) c.args.byte c.args.self.now.long_lengths (c.push.ensures.next (last_command text) h.packet) in
    let recent : HasLastFour c.push-2.new.self (next_bytes (last_command text) c.args.byte) = either (HasLastFour c.push-2.new.self) (last_command text) c.args.byte
    (c.push-2.ensures.begins (last_command text) h.recent) (c.push-2.ensures.goes_on (last_command text) h.recent) in
    record {
      packet = subst (IsLast c.push.new.self) (sym is) last;
      recent = subst (HasLastFour c.push-2.new.self) (sym is) recent;
      order = subst IsGoodSoFar (sym is) (next_in_order c.args.place (last_command text) c.args.byte h.order
          (sym (ap (head_fault c.args.place) (c.head-head.ensures bytes last)) ∙ sym c.head_fault.ensures ∙ c.in-None.is));
    }
