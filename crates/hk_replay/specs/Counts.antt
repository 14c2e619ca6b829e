-- Counts as the definitions have them.
use Rattle.hk_spec_lines.specs.Make.{Tally}
use Rattle.hk_replay.specs.declared.counts.Counts.{Counts}

abbrev pub tally_meant : Counts → Tally
tally_meant counts = record { blocks = counts.blocks; matches = counts.matches; versions = counts.versions; refusals = counts.refusals }
