use Rattle.std.proofs.Common.{◌≡◌, ℕ, ◌∙◌, [], List, sym, append-nil}
use Rattle.hk_report.proofs.Stopping.{stops_in_word}
use Rattle.hk_report.proofs.read.read_last.Goals as goal

-- left in the word
pub returns-in-Err-clause-misfit : goal.returns-in-Err-clause-misfit
returns-in-Err-clause-misfit c =
    let word : List ℕ = c.args.word.now in
    stops_in_word (λ text. text ≡ word) word c.args.bytes.now c.in-Err.misfit.left.now [] (append-nil word) (λ t e. ([], e ∙ sym (append-nil word))) c.in-Err.ensures.misfit
