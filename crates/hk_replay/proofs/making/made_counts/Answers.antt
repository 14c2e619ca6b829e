use Rattle.std.proofs.Common.{ap, ◌∙◌, arith}
use Rattle.hk_spec_lines.specs.Make.{tally_of}
use Rattle.hk_spec_runs.proofs.MadeLines.{made_line_counted}
use Rattle.hk_words.specs.Rules.{rules_meant}
use Rattle.hk_replay.specs.Counts.{tally_meant}
use Rattle.hk_replay.proofs.making.made_counts.Goals as goal

pub returns : goal.returns
returns c =
    let told = c.in_ok-text.ensures in
    made_line_counted (rules_meant c.args.rules.now) c.args.seed told.0 (tally_meant c.counts_of-counts.result)
    (c.counts_of-counts.ensures ∙ ap tally_of (c.bytes.ensures ∙ told.1)) (omega (arith, c.if-counts-gt0.false))
