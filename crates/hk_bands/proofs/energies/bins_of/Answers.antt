use Rattle.std.proofs.Common.{rules}
use Rattle.hk_spec_sound.proofs.Edges.{edges_rise}
use Rattle.hk_spec_sound.specs.Prints.{full_analysis}
use Rattle.hk_bands.proofs.energies.bins_of.Goals as goal

pub returns-clause-low : goal.returns-clause-low
unfolding full_analysis
returns-clause-low c = search rules

pub returns-clause-high : goal.returns-clause-high
unfolding full_analysis
returns-clause-high c = search rules

pub returns-clause-some : goal.returns-clause-some
unfolding full_analysis
returns-clause-some c = (edges_rise c.args.m c.requires).0

pub returns-clause-inside : goal.returns-clause-inside
unfolding full_analysis
returns-clause-inside c = (edges_rise c.args.m c.requires).1
