use Rattle.std.proofs.Common.{ℕ, ◌++◌, List, inr, sym, ap, ◌∙◌, append_assoc, refl}
use Rattle.hk_report.proofs.read.read_field.Goals as goal

-- left in the number
pub returns-in-Err-read_number-clause-misfit : goal.returns-in-Err-read_number-clause-misfit
returns-in-Err-read_number-clause-misfit c =
    let word : List ℕ = c.args.word.now in
    let in_number = c.in-Err-read_number.ensures.misfit in
    (word ++ in_number.0, c.in-Ok.ensures.found ∙ ap (λ t. word ++ t) in_number.1 ∙ sym (append_assoc word in_number.0 c.in-Err-read_number.misfit.left.now), inr (in_number.0, refl, in_number.2))
