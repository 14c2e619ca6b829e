use Rattle.std.proofs.Common.{refl}
use Rattle.clap.specs.Takes.{flags_pass, walk_passes}
use Rattle.clap.specs.Walk.{bundle_met, walked}
use Rattle.hk_spec_monitor.specs.Setup.{setup_of}
use Rattle.hk_spec_monitor.proofs.examples.setup_examples.Goals as goal

pub returns-clause-default : goal.returns-clause-default
unfolding setup_of flags_pass walk_passes bundle_met walked
returns-clause-default c = refl

pub returns-clause-ports : goal.returns-clause-ports
unfolding setup_of flags_pass walk_passes bundle_met walked
returns-clause-ports c = refl

pub returns-clause-hop : goal.returns-clause-hop
unfolding setup_of flags_pass walk_passes bundle_met walked
returns-clause-hop c = refl

pub returns-clause-unknown : goal.returns-clause-unknown
unfolding setup_of flags_pass walk_passes bundle_met walked
returns-clause-unknown c = refl

pub returns-clause-twice : goal.returns-clause-twice
unfolding setup_of flags_pass walk_passes bundle_met walked
returns-clause-twice c = refl
