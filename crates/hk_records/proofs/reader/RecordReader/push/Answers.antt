use Rattle.std.proofs.Common.{◌≡◌, ◌+◌, ◌-◌, ◌∷◌, ◌++◌, [], length, ap, ◌∙◌, sym, arith, subst, true, false, length-append}
use Rattle.hk_base.specs.declared.plain.Trouble.TheVariants.{BadRecord}
use Rattle.hk_records.specs.declared.reader.Came.TheVariants.{Bad}
use Rattle.hk_spec_streams.specs.Records.{open_bytes}
use Rattle.hk_spec_streams.proofs.GrowingRecords.{open_bytes-append}
use Rattle.hk_records.specs.Part.{IsPart, has_bad_head}
use Rattle.hk_records.proofs.Reading.{too_long, faulty, good, stays_good, begins_there}
use Rattle.hk_records.proofs.reader.RecordReader.push.Goals as goal

pub returns-then-self-clause-came : goal.returns-then-self-clause-came
returns-then-self-clause-came c = λ text h. c.fail.ensures.told ∙ sym (too_long c.args.self.now.stations c.args.self.now.limit text c.args.byte (omega (arith, h.taken, c.if-self.true)))

pub returns-then-is_faulty-clause-came : goal.returns-then-is_faulty-clause-came
returns-then-is_faulty-clause-came c = λ text h.
    let begins : c.record_begin-begun.result + length (open_bytes text) ≡ c.args.self.now.taken =
    c.record_begin-begun.ensures (open_bytes text) h.part (λ some. h.begun some ∙ sym h.taken) in
    let bad : has_bad_head c.args.self.now.stations (open_bytes text ++ c.args.byte ∷ []) ≡ true =
    sym (c.is_faulty.ensures (open_bytes text) h.part) ∙ c.if-is_faulty.true in
    let place : c.record_begin-begun.result ≡ length text - length (open_bytes text) = omega (arith, begins, h.taken) in
    c.fail-then-is_faulty.ensures.told ∙ ap (λ p. Bad (BadRecord p)) place
    ∙ sym (faulty c.args.self.now.stations c.args.self.now.limit text c.args.byte (omega (arith, h.taken, c.if-self.false)) bad)

pub returns-clause-came : goal.returns-clause-came
returns-clause-came c = λ text h.
    let fine : has_bad_head c.args.self.now.stations (open_bytes text ++ c.args.byte ∷ []) ≡ false =
    sym (c.is_faulty.ensures (open_bytes text) h.part) ∙ c.if-is_faulty.false in
    c.arrival.ensures.arrived (open_bytes text) h.part
    ∙ sym (good c.args.self.now.stations c.args.self.now.limit text c.args.byte (omega (arith, h.taken, c.if-self.false)) fine)

pub returns-clause-reads : goal.returns-clause-reads
returns-clause-reads c = λ text h is_good.
    let begins : c.record_begin-begun.result + length (open_bytes text) ≡ c.args.self.now.taken =
    c.record_begin-begun.ensures (open_bytes text) h.part (λ some. h.begun some ∙ sym h.taken) in
    let fine : has_bad_head c.args.self.now.stations (open_bytes text ++ c.args.byte ∷ []) ≡ false =
    sym (c.is_faulty.ensures (open_bytes text) h.part) ∙ c.if-is_faulty.false in
    let long : length (text ++ c.args.byte ∷ []) ≡ length text + 1 = length-append text (c.args.byte ∷ []) in
    let longer : length (open_bytes text ++ c.args.byte ∷ []) ≡ length (open_bytes text) + 1 = length-append (open_bytes text) (c.args.byte ∷ []) in
    record {
      taken = omega (arith, h.taken, long);
      none_met = h.none_met;
      within = omega (arith, c.if-self.false);
      known = c.after-self.ensures.known (open_bytes text) h.part fine h.known;
      no_fault = stays_good c.args.self.now.stations c.args.self.now.limit text c.args.byte h.no_fault (omega (arith, h.taken, c.if-self.false)) fine;
      begun = λ some. begins_there _ _ (open_bytes text ++ c.args.byte ∷ []) c.record_begin-begun.result (length (text ++ c.args.byte ∷ [])) (open_bytes-append text c.args.byte) some
          (omega (arith, begins, long, longer, h.taken));
      part = subst (IsPart c.after-self.result) (sym (open_bytes-append text c.args.byte)) (c.after-self.ensures.rest (open_bytes text) h.part fine);
    }

pub returns-clause-known : goal.returns-clause-known
returns-clause-known c = λ text h. c.arrival.ensures.known c.args.self.now.stations h.known

pub returns-clause-fault : goal.returns-clause-fault
returns-clause-fault c = λ trouble is. absurd (c.arrival.ensures.good trouble is)
