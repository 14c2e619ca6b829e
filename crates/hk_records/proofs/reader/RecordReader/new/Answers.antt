use Rattle.std.proofs.Common.{refl, arith}
use Rattle.hk_records.proofs.Reading.{no_text, nothing_open}
use Rattle.hk_records.proofs.reader.RecordReader.new.Goals as goal

pub returns-clause-reads : goal.returns-clause-reads
returns-clause-reads c = record {
  taken = refl;
  none_met = refl;
  no_fault = no_text c.args.stations c.args.limit;
  begun = λ some. absurd (some nothing_open);
  part = nothing_open;
  within = omega arith;
  known = tt;
}
