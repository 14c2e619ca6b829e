use Rattle.std.proofs.Common.{◌≡◌, ◌++◌, [], ℕ, List, append-nil, append_assoc, codes}
use Rattle.std.specs.Fmt.{decimal}
use Rattle.hk_base.proofs.Writing.{same_text}
use Rattle.hk_report.proofs.line.write_item.Goals as goal

regrouped : (s a b c d e : List ℕ) → s ++ (a ++ (b ++ (c ++ (d ++ (e ++ []))))) ≡ s ++ (a ++ b ++ c ++ d ++ e)
regrouped s a b c d e = simp (append_assoc, append-nil)

pub returns : goal.returns
returns g c =
    let item = c.args.item.now in
    same_text (regrouped c.args.separator.now (decimal item.id) (codes "@") (decimal item.start) (codes "~") (decimal item.errors)) c.write_pieces.ensures
