use Rattle.std.proofs.Common.{◌≡◌, ◌++◌, [], ℕ, List, append_assoc, codes, ◌∙◌, decimal}
use Rattle.hk_base.specs.declared.plain.Print.{Print}
use Rattle.hk_spec_lines.specs.Lines.{print_line, hexadecimal, NEWLINE}
use Rattle.hk_base.proofs.Writing.{same_text}
use Rattle.hk_report.proofs.print.write_print.Goals as goal

regrouped : (a b c d e f : List ℕ) → (((((([] ++ a) ++ b) ++ c) ++ d) ++ e) ++ f) ≡ a ++ b ++ c ++ d ++ e ++ f
regrouped a b c d e f = simp (append_assoc)

gathered : (n : ℕ) (print : Print) → (((((([] ++ decimal n) ++ codes " ") ++ hexadecimal print.word) ++ codes " ") ++ hexadecimal print.mask) ++ NEWLINE) ≡ print_line n print
unfolding print_line
gathered n print = regrouped (decimal n) (codes " ") (hexadecimal print.word) (codes " ") (hexadecimal print.mask) NEWLINE

pub returns : goal.returns
returns g c =
    let parts : c.text.result.now ≡ (((((([] ++ decimal c.args.n) ++ codes " ") ++ hexadecimal c.args.print.now.word) ++ codes " ") ++ hexadecimal c.args.print.now.mask) ++ NEWLINE) = cc in
    same_text (parts ∙ gathered c.args.n c.args.print.now) c.write_text.ensures
