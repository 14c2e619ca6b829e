-- The edit is pending, or all stays.
use Rattle.std.proofs.Common.{rules, ◌≡◌, ◌++◌, [], ◌∷◌, drop, ◌∙◌, ap}
use Rattle.hk_catalogue.specs.declared.edit.Edit.{Edit}
use Rattle.hk_catalogue.specs.declared.edit.Edit.TheVariants as edit
use Rattle.hk_publish.specs.declared.edition.Operation.TheVariants.{Change}
use Rattle.hk_publish.proofs.desk.stage_change.Goals as goal

pub returns-in_err-append-in-Add-clause-desk : goal.returns-in_err-append-in-Add-clause-desk
returns-in_err-append-in-Add-clause-desk c =
    let d = c.append.ensures.desk in
    (d.0, d.1, d.2, d.3, d.4, search rules)

pub returns-in_err-append-in-Withdraw-clause-desk : goal.returns-in_err-append-in-Withdraw-clause-desk
returns-in_err-append-in-Withdraw-clause-desk c =
    let d = c.append-in-Withdraw.ensures.desk in
    (d.0, d.1, d.2, d.3, d.4, search rules)

pub returns-in_ok-append-in-Add-clause-desk : goal.returns-in_ok-append-in-Add-clause-desk
returns-in_ok-append-in-Add-clause-desk c =
    let d = c.append.ensures.desk in
    let raw : drop d.1.behind d.1.log.items ≡ drop d.0.behind d.0.log.items ++ Change (edit.Add c.in-Add.song) ∷ [] = search rules in
    let is : edit.Add c.in-Add.song ≡ c.args.edit = search rules in
    (d.0, d.1, d.2, d.3, d.4, raw ∙ ap (λ (e : Edit). drop d.0.behind d.0.log.items ++ Change e ∷ []) is)

pub returns-in_ok-append-in-Withdraw-clause-desk : goal.returns-in_ok-append-in-Withdraw-clause-desk
returns-in_ok-append-in-Withdraw-clause-desk c =
    let d = c.append-in-Withdraw.ensures.desk in
    let raw : drop d.1.behind d.1.log.items ≡ drop d.0.behind d.0.log.items ++ Change (edit.Withdraw c.in-Withdraw.id) ∷ [] = search rules in
    let is : edit.Withdraw c.in-Withdraw.id ≡ c.args.edit = search rules in
    (d.0, d.1, d.2, d.3, d.4, raw ∙ ap (λ (e : Edit). drop d.0.behind d.0.log.items ++ Change e ∷ []) is)
