use Rattle.std.proofs.Common.{refl}
use Rattle.std.specs.Fmt.{digits}
use Rattle.std.specs.Int.RustNames.{count_ones}
use Rattle.hk_spec_sound.specs.Windows.{windows}
use Rattle.hk_spec_streams.specs.Pieces.{pieces_within, first_met}
use Rattle.hk_spec_streams.specs.Grammar.{packets}
use Rattle.hk_spec_streams.specs.Station.{station_met, segments, fences}
use Rattle.hk_spec_streams.specs.Blocks.{blocks}
use Rattle.hk_spec_streams.specs.Operator.{operator_met, commands}
use Rattle.hk_spec_streams.specs.Records.{input_met, arrivals}
use Rattle.hk_spec_matching.specs.Catalogue.{version}
use Rattle.hk_spec_matching.specs.Matching.{matches, matches_of_song, match_at}
use Rattle.hk_spec_lines.specs.Lines.{line, reply_line, station_line, operator_line}
use Rattle.hk_spec_runs.specs.OperatorState.{answer, after}
use Rattle.hk_spec_runs.specs.Replay.{replay, scene_of, report}
use Rattle.hk_spec_runs.proofs.laws.replay_examples.Goals as goal

pub returns-clause-nothing : goal.returns-clause-nothing
unfolding replay scene_of report answer after line reply_line station_line operator_line digits count_ones windows pieces_within first_met packets station_met segments fences blocks operator_met commands input_met arrivals version matches matches_of_song match_at
returns-clause-nothing c = refl

pub returns-clause-empty_catalogue : goal.returns-clause-empty_catalogue
unfolding replay scene_of report answer after line reply_line station_line operator_line digits count_ones windows pieces_within first_met packets station_met segments fences blocks operator_met commands input_met arrivals version matches matches_of_song match_at
returns-clause-empty_catalogue c = refl

pub returns-clause-fence_ahead : goal.returns-clause-fence_ahead
unfolding replay scene_of report answer after line reply_line station_line operator_line digits count_ones windows pieces_within first_met packets station_met segments fences blocks operator_met commands input_met arrivals version matches matches_of_song match_at
returns-clause-fence_ahead c = refl

pub returns-clause-no_memory : goal.returns-clause-no_memory
unfolding replay scene_of report answer after line reply_line station_line operator_line digits count_ones windows pieces_within first_met packets station_met segments fences blocks operator_met commands input_met arrivals version matches matches_of_song match_at
returns-clause-no_memory c = refl

pub returns-clause-stopped : goal.returns-clause-stopped
unfolding replay scene_of report answer after line reply_line station_line operator_line digits count_ones windows pieces_within first_met packets station_met segments fences blocks operator_met commands input_met arrivals version matches matches_of_song match_at
returns-clause-stopped c = refl

pub returns-clause-found : goal.returns-clause-found
unfolding replay scene_of report answer after line reply_line station_line operator_line digits count_ones windows pieces_within first_met packets station_met segments fences blocks operator_met commands input_met arrivals version matches matches_of_song match_at
returns-clause-found c = refl
