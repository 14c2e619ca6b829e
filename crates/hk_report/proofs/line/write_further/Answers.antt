use Rattle.std.proofs.Common.{◌++◌, codes}
use Rattle.hk_spec_lines.specs.Lines.{match_text}
use Rattle.hk_base.proofs.Writing.{torn_at}
use Rattle.hk_report.proofs.line.write_further.Goals as goal

-- the items so far, and a front of this one
pub returns-in-Err : goal.returns-in-Err
returns-in-Err g c = record {
  whole = tt;
  torn = torn_at (λ m. codes " " ++ match_text m) _ _ _ c.loop-item-test.true c.loop-item.invariant.written c.in-Err.ensures.torn;
}
