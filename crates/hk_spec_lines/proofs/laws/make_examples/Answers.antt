use Rattle.std.proofs.Common.{refl}
use Rattle.std.specs.Fmt.{digits}
use Rattle.hk_spec_lines.specs.Make.{made_line, tally_of}
use Rattle.hk_spec_lines.proofs.laws.make_examples.Goals as goal

pub returns-clause-line : goal.returns-clause-line
unfolding made_line digits
returns-clause-line c = refl

pub returns-clause-counted : goal.returns-clause-counted
unfolding tally_of
returns-clause-counted c = refl

pub returns-clause-refused : goal.returns-clause-refused
unfolding tally_of
returns-clause-refused c = refl
