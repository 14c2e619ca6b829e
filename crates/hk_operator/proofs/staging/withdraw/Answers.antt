use Rattle.std.proofs.Common.{sym, subst}
use Rattle.hk_spec_matching.specs.Catalogue as edits
use Rattle.hk_block.specs.Looker.{ShelfView}
use Rattle.hk_spec_runs.specs.OperatorState.{with_edit}
use Rattle.hk_operator.specs.OnShelf.{IsOnShelf}
use Rattle.hk_operator.proofs.Deciding.{decided_as, withdraw_reasons, change_on_shelf}
use Rattle.hk_operator.proofs.staging.withdraw.Goals as goal

pub returns-clause-decided : goal.returns-clause-decided
returns-clause-decided g c = λ rules state fixed at.
    decided_as _ _ c.stage.result _ _ _ _ (withdraw_reasons rules (g.S.Shelf.shelf c.args.shelf.now) state c.args.id at)
    (λ same. subst (λ (v : ShelfView). IsOnShelf rules v state) (sym same) at)
    (λ none same. subst (λ (v : ShelfView). IsOnShelf rules v (with_edit rules state (edits.Withdraw c.args.id))) (sym same)
    (change_on_shelf rules (g.S.Shelf.shelf c.args.shelf.now) state (edits.Withdraw c.args.id) at))
    c.stage.ensures.decided
