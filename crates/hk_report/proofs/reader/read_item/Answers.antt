use Rattle.std.proofs.Common.{arith, codes}
use Rattle.hk_report.specs.LineReading.{MOST_32}
use Rattle.hk_report.proofs.Stopping.{stopped, stops_in_field, stops_after_field}
use Rattle.hk_report.proofs.Items.{further_follows, errors_follows, start_follows}
use Rattle.hk_report.proofs.reader.read_item.Goals as goal

-- left in the id
pub returns-in_err-id-clause-misfit : goal.returns-in_err-id-clause-misfit
returns-in_err-id-clause-misfit c =
    stopped _ _ _ _ c.from_residual.ensures.1
    (stops_in_field _ c.args.word.now MOST_32 c.args.bytes.now _ (omega arith) start_follows c.in_err-id.ensures.misfit)

-- left in the start
pub returns-in_err-start-clause-misfit : goal.returns-in_err-start-clause-misfit
returns-in_err-start-clause-misfit c =
    stopped _ _ _ _ c.from_residual-in_err-start.ensures.1
    (stops_after_field _ c.args.word.now MOST_32 c.in_ok-id.id c.args.bytes.now c.in_ok-id.rest.now _ (omega arith) start_follows c.in_ok-id.ensures.number c.in_ok-id.ensures.found c.in_ok-id.ensures.cut
    (stops_in_field _ (codes "@") MOST_32 c.in_ok-id.rest.now _ (omega arith) errors_follows c.in_err-start.ensures.misfit))

-- left in the errors
pub returns-in_err-errors-clause-misfit : goal.returns-in_err-errors-clause-misfit
returns-in_err-errors-clause-misfit c =
    stopped _ _ _ _ c.from_residual-in_err-errors.ensures.1
    (stops_after_field _ c.args.word.now MOST_32 c.in_ok-id.id c.args.bytes.now c.in_ok-id.rest.now _ (omega arith) start_follows c.in_ok-id.ensures.number c.in_ok-id.ensures.found c.in_ok-id.ensures.cut
    (stops_after_field _ (codes "@") MOST_32 c.in_ok-start.start c.in_ok-id.rest.now c.in_ok-start.rest.now _ (omega arith) errors_follows c.in_ok-start.ensures.number c.in_ok-start.ensures.found c.in_ok-start.ensures.cut
    (stops_in_field _ (codes "~") MOST_32 c.in_ok-start.rest.now _ (omega arith) further_follows c.in_err-errors.ensures.misfit)))
