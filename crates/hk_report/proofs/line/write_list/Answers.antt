use Rattle.std.proofs.Common.{sym, ap}
use Rattle.hk_spec_lines.specs.Lines.{list_text}
use Rattle.hk_base.proofs.Writing.{same_text, torn_then, whole_then}
use Rattle.hk_report.proofs.line.write_list.Goals as goal

-- a front of the first item
pub returns-in-Err : goal.returns-in-Err
returns-in-Err g c = same_text (ap list_text (sym c.in-Some.ensures.cases.0)) (torn_then _ c.in-Err.ensures)

-- the first item, and the others behind it
pub returns-in-Ok : goal.returns-in-Ok
returns-in-Ok g c = same_text (ap list_text (sym c.in-Some.ensures.cases.0)) (whole_then c.in-Ok.ensures c.write_further.ensures)
