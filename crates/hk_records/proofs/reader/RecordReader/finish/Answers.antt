use Rattle.std.proofs.Common.{◌≡◌, ◌+◌, ◌-◌, length, Some, ap, ◌∙◌, arith, subst}
use Rattle.hk_base.specs.declared.plain.Trouble.TheVariants.{BadRecord}
use Rattle.hk_spec_streams.specs.Records.{open_bytes}
use Rattle.hk_records.specs.Part.{IsPart}
use Rattle.hk_records.proofs.Reading.{some_open, ends_inside, ends_between}
use Rattle.hk_records.proofs.reader.RecordReader.finish.Goals as goal

pub returns-in-Letter-clause-ends : goal.returns-in-Letter-clause-ends
returns-in-Letter-clause-ends c = λ text h. ends_between _ _ text h.no_fault (subst (λ part. IsPart part (open_bytes text)) c.in-Letter.is h.part)

pub returns-in_default-part : goal.returns-in_default-part
returns-in_default-part c = record {
  ends = λ text h.
      let some = some_open c.args.self.now.part (open_bytes text) h.part c.in_default-part.not-Letter in
      let begins : c.args.self.now.begun + length (open_bytes text) ≡ length text = h.begun some in
      let place : length text - length (open_bytes text) ≡ c.args.self.now.begun = omega (arith, begins) in
      ends_inside _ _ text h.no_fault some ∙ ap (λ p. Some (BadRecord p)) place;
  fault = λ trouble is. absurd (c.in_default.not-Some trouble is);
}
