use Rattle.std.proofs.Common.{refl}
use Rattle.std.specs.Fmt.{digits}
use Rattle.std.specs.Int.RustNames.{count_ones}
use Rattle.hk_spec_sound.specs.Windows.{windows}
use Rattle.hk_spec_streams.specs.Pieces.{pieces_within, first_met}
use Rattle.hk_spec_streams.specs.Grammar.{packets}
use Rattle.hk_spec_streams.specs.Station.{station_met, segments, fences}
use Rattle.hk_spec_streams.specs.Blocks.{blocks, moments}
use Rattle.hk_spec_streams.specs.Operator.{operator_met, commands}
use Rattle.hk_spec_lines.specs.Lines.{line, reply_line, station_line, operator_line, mismatch_line}
use Rattle.hk_spec_monitor.proofs.examples.reply_examples.Goals as goal

pub returns-clause-whole : goal.returns-clause-whole
unfolding line reply_line station_line operator_line mismatch_line digits count_ones windows pieces_within first_met packets station_met segments fences blocks moments operator_met commands
returns-clause-whole c = refl

pub returns-clause-torn : goal.returns-clause-torn
unfolding line reply_line station_line operator_line mismatch_line digits count_ones windows pieces_within first_met packets station_met segments fences blocks moments operator_met commands
returns-clause-torn c = refl
