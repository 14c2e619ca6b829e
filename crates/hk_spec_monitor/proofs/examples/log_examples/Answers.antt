use Rattle.std.proofs.Common.{refl}
use Rattle.std.specs.Fmt.{digits}
use Rattle.std.specs.Int.RustNames.{count_ones}
use Rattle.hk_spec_sound.specs.Windows.{windows}
use Rattle.hk_spec_streams.specs.Pieces.{pieces_within, first_met}
use Rattle.hk_spec_streams.specs.Grammar.{packets}
use Rattle.hk_spec_streams.specs.Station.{station_met, segments, fences}
use Rattle.hk_spec_streams.specs.Blocks.{blocks, moments}
use Rattle.hk_spec_streams.specs.Operator.{operator_met, commands}
use Rattle.hk_spec_lines.specs.Lines.{line, reply_line, station_line, operator_line, mismatch_line}
use Rattle.hk_spec_monitor.proofs.examples.log_examples.Goals as goal

pub returns-clause-early : goal.returns-clause-early
unfolding line reply_line station_line operator_line mismatch_line digits count_ones windows pieces_within first_met packets station_met segments fences blocks moments operator_met commands
returns-clause-early c = refl

pub returns-clause-late : goal.returns-clause-late
unfolding line reply_line station_line operator_line mismatch_line digits count_ones windows pieces_within first_met packets station_met segments fences blocks moments operator_met commands
returns-clause-late c = refl

pub returns-clause-torn : goal.returns-clause-torn
unfolding line reply_line station_line operator_line mismatch_line digits count_ones windows pieces_within first_met packets station_met segments fences blocks moments operator_met commands
returns-clause-torn c = refl

pub returns-clause-used : goal.returns-clause-used
unfolding line reply_line station_line operator_line mismatch_line digits count_ones windows pieces_within first_met packets station_met segments fences blocks moments operator_met commands
returns-clause-used c = refl

pub returns-clause-ahead : goal.returns-clause-ahead
unfolding line reply_line station_line operator_line mismatch_line digits count_ones windows pieces_within first_met packets station_met segments fences blocks moments operator_met commands
returns-clause-ahead c = refl

pub returns-clause-met : goal.returns-clause-met
unfolding line reply_line station_line operator_line mismatch_line digits count_ones windows pieces_within first_met packets station_met segments fences blocks moments operator_met commands
returns-clause-met c = refl
