use Rattle.std.proofs.Common.{refl}
use Rattle.std.specs.Fmt.{digits}
use Rattle.hk_spec_lines.specs.Lines.{line, reply_line, station_line, print_line}
use Rattle.hk_spec_lines.proofs.laws.line_examples.Goals as goal

pub returns-clause-report : goal.returns-clause-report
unfolding line digits
returns-clause-report c = refl

pub returns-clause-none : goal.returns-clause-none
unfolding line digits
returns-clause-none c = refl

pub returns-clause-reply : goal.returns-clause-reply
unfolding reply_line digits
returns-clause-reply c = refl

pub returns-clause-summary : goal.returns-clause-summary
unfolding station_line digits
returns-clause-summary c = refl

pub returns-clause-print : goal.returns-clause-print
unfolding print_line digits
returns-clause-print c = refl
