use Rattle.std.proofs.Common.{◌++◌, [], ◌∷◌, List, refl}
use Rattle.hk_base.specs.declared.plain.Match.{Match}
use Rattle.hk_report.proofs.Stopping.{stopped}
use Rattle.hk_report.proofs.Items.{all_fit-append, one_further, in_item, in_line_end}
use Rattle.hk_report.proofs.reader.read_further.Goals as goal

-- the first item is kept
pub loop-rest-init : goal.loop-rest-init
loop-rest-init c = ([], tt, refl, c.requires, c.keep-kept.ensures [] c.new.ensures.items)

-- left in an item
pub returns-in_err-item-clause-misfit : goal.returns-in_err-item-clause-misfit
returns-in_err-item-clause-misfit c =
    let so_far = c.loop-rest.invariant in
    stopped _ _ _ _ c.from_residual.ensures.1 (in_item so_far.0 _ _ _ so_far.1 so_far.2 so_far.3 c.loop-rest-test.ensures c.in_err-item.ensures.misfit)

-- one more item
pub loop-rest-preserved : goal.loop-rest-preserved
loop-rest-preserved c =
    let items : List Match = c.loop-rest.invariant.0 in
    let item : Match = c.in_ok-item.item in (
      items ++ item ∷ [],
      all_fit-append items (item ∷ []) c.loop-rest.invariant.1 (c.in_ok-item.ensures.fits, tt),
      one_further items item _ _ _ c.loop-rest.invariant.2 c.in_ok-item.ensures.found,
      c.in_ok-item.ensures.cut,
      c.keep-kept-in-loop-rest.ensures (c.args.first ∷ items) c.loop-rest.invariant.4,
    )

-- left in the line's end
pub returns-in_err-read_last-clause-misfit : goal.returns-in_err-read_last-clause-misfit
returns-in_err-read_last-clause-misfit c =
    let so_far = c.loop-rest.invariant in
    stopped _ _ _ _ c.from_residual-in_err-read_last.ensures.1 (in_line_end so_far.0 _ _ _ so_far.1 so_far.2 so_far.3 c.loop-rest-test.ensures c.in_err-read_last.ensures.misfit)
