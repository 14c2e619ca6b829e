use Rattle.std.proofs.Common.{◌++◌, ◌∷◌, ap, ◌∙◌, sym, append_assoc}
use Rattle.hk_spec_lines.specs.Lines.{match_text, NEWLINE}
use Rattle.hk_report.specs.Pieces.{further_items}
use Rattle.hk_report.proofs.Stopping.{stopped}
use Rattle.hk_report.proofs.Items.{in_none, in_first_item, behind_first_item}
use Rattle.hk_report.proofs.reader.read_list.Goals as goal

-- left in `none`
pub returns-in_err-read_last-clause-misfit : goal.returns-in_err-read_last-clause-misfit
returns-in_err-read_last-clause-misfit c = stopped _ _ _ _ c.from_residual.ensures.1 (in_none _ _ c.if-comes_next.ensures c.in_err-read_last.ensures.misfit)

-- left in the first item
pub returns-in_err-first-clause-misfit : goal.returns-in_err-first-clause-misfit
returns-in_err-first-clause-misfit c = stopped _ _ _ _ c.from_residual-in_err-first.ensures.1 (in_first_item _ _ c.if-comes_next.ensures c.in_err-first.ensures.misfit)

-- the first item and further ones
pub returns-in-Ok-clause-found : goal.returns-in-Ok-clause-found
returns-in-Ok-clause-found c =
    let further = c.in-Ok.ensures.found in
    let first = c.in_ok-first.first in (
      first ∷ further.0,
      (c.in_ok-first.ensures.fits, further.1),
      c.in_ok-first.ensures.found ∙ ap (λ x. match_text first ++ x) further.2 ∙ sym (append_assoc (match_text first) (further_items further.0) NEWLINE),
      further.3,
    )

-- left behind the first item
pub returns-in-Err-clause-misfit : goal.returns-in-Err-clause-misfit
returns-in-Err-clause-misfit c = behind_first_item c.in_ok-first.first _ _ _ c.in_ok-first.ensures.fits c.in_ok-first.ensures.found c.in_ok-first.ensures.cut c.in-Err.ensures.misfit
