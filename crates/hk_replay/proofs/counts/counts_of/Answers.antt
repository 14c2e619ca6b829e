use Rattle.std.proofs.Common.{ap, ◌∙◌}
use Rattle.hk_spec_lines.proofs.Tallies.{same_tally}
use Rattle.hk_replay.specs.Counts.{tally_meant}
use Rattle.hk_replay.proofs.Counting.{marks_in, tally_is}
use Rattle.hk_replay.proofs.counts.counts_of.Goals as goal

pub returns : goal.returns
returns c =
    same_tally _ (marks_in c.before_summary-told.result.now) c.count.ensures c.count-2.ensures c.count-3.ensures c.count-4.ensures
    ∙ ap marks_in c.before_summary-told.ensures ∙ tally_is c.args.text.now
