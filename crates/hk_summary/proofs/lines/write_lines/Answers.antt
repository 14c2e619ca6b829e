use Rattle.std.proofs.Common.{◌∙◌, ap, Option}
use Rattle.hk_base.proofs.Writing.{same_text, whole_then}
use Rattle.hk_summary.specs.declared.ends.StationEnd.{StationEnd}
use Rattle.hk_summary.specs.Ends.{rest_text}
use Rattle.hk_summary.proofs.lines.write_lines.Goals as goal

pub returns : goal.returns
returns g c =
    whole_then c.in-Ok.ensures
    (same_text (ap (λ (o : Option StationEnd). rest_text o c.args.operator.now) (c.copied-ahead.ensures ∙ c.ahead_of.ensures)) c.write_rest.ensures)
