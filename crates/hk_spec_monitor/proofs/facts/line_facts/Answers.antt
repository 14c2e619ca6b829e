use Rattle.std.proofs.Common.{List, [], ◌∷◌, length, refl, ap, cond, arith, true, false, nat_eq}
use Rattle.std.specs.List.{list_any}
use Rattle.std.specs.Fmt.{digits}
use Rattle.std.specs.Int.RustNames.{count_ones}
use Rattle.hk_spec_sound.specs.Windows.{windows}
use Rattle.hk_spec_streams.specs.Pieces.{pieces_within, first_met}
use Rattle.hk_spec_streams.specs.Grammar.{packets}
use Rattle.hk_spec_streams.specs.Station.{station_met, segments, fences}
use Rattle.hk_spec_streams.specs.Blocks.{blocks, moments}
use Rattle.hk_spec_streams.specs.Operator.{operator_met, commands}
use Rattle.hk_spec_matching.specs.Catalogue.{version}
use Rattle.hk_spec_matching.specs.Matching.{matches, matches_of_song, match_at}
use Rattle.hk_spec_lines.specs.Lines.{line, reply_line}
use Rattle.hk_spec_runs.specs.OperatorState.{answer, after}
use Rattle.hk_spec_runs.specs.Examples.{BLOCK_5, FOUND_5}
use Rattle.hk_spec_monitor.specs.Examples.{TWO, RUN}
use Rattle.hk_spec_monitor.proofs.OneLine.{lists_one, lists_none, differ}
use Rattle.hk_spec_monitor.proofs.facts.line_facts.Goals as goal

pub returns-clause-late : goal.returns-clause-late
unfolding line reply_line digits count_ones windows pieces_within first_met packets station_met segments fences blocks moments operator_met commands version matches matches_of_song match_at answer after
returns-clause-late c = record { lists = lists_one (version TWO.limits RUN.journal) BLOCK_5 (record { version = 1; list = FOUND_5 }) refl; never_fall = (omega arith, omega arith); all = λ whole. refl; whole = λ whole. refl; looks = λ whole. refl; versions = λ whole. refl; torn = λ torn. differ _ (ap (λ b. cond b false true) torn) }

pub returns-clause-early : goal.returns-clause-early
unfolding line reply_line digits count_ones windows pieces_within first_met packets station_met segments fences blocks moments operator_met commands version matches matches_of_song match_at answer after
returns-clause-early c = record { lists = lists_one (version TWO.limits RUN.journal) BLOCK_5 (record { version = 0; list = [] }) refl; never_fall = (omega arith, omega arith); all = λ whole. refl; whole = λ whole. refl; looks = λ whole. refl; versions = λ whole. refl; torn = λ torn. differ _ (ap (λ b. cond b false true) torn) }

pub returns-clause-met : goal.returns-clause-met
unfolding line reply_line digits count_ones windows pieces_within first_met packets station_met segments fences blocks moments operator_met commands version matches matches_of_song match_at answer after
returns-clause-met c = record { lists = lists_one (version TWO.limits RUN.journal) BLOCK_5 (record { version = 1; list = FOUND_5 }) refl; never_fall = (omega arith, (omega arith, omega arith)); all = λ whole. refl; whole = λ whole. refl; looks = λ whole. refl; versions = λ whole. refl; torn = λ torn. differ _ (ap (λ b. cond b false true) torn) }

pub returns-clause-ahead : goal.returns-clause-ahead
unfolding line reply_line digits count_ones windows pieces_within first_met packets station_met segments fences blocks moments operator_met commands version matches matches_of_song match_at answer after
returns-clause-ahead c = record { lists = lists_none (version TWO.limits RUN.journal) []; never_fall = (omega arith, omega arith); all = λ whole. refl; whole = λ whole. refl; looks = λ whole. refl; versions = λ whole. refl; torn = λ torn. differ _ (ap (λ b. cond b false true) torn) }

pub returns-clause-torn : goal.returns-clause-torn
unfolding line reply_line digits count_ones windows pieces_within first_met packets station_met segments fences blocks moments operator_met commands version matches matches_of_song match_at answer after
returns-clause-torn c = record {
  lists = lists_none (version TWO.limits RUN.journal) (BLOCK_5 ∷ []);
  never_fall = (omega arith, omega arith);
  all = λ whole. differ _ whole;
  whole = λ whole. differ _ whole;
  looks = λ whole. differ _ whole;
  versions = λ whole. differ _ whole;
  torn = λ torn. record { block = BLOCK_5; missing = 32 ∷ 48 ∷ 32 ∷ 71 ∷ 32 ∷ 48 ∷ 32 ∷ 87 ∷ 32 ∷ 48 ∷ 32 ∷ 86 ∷ 32 ∷ 49 ∷ 58 ∷ 32 ∷ 55 ∷ 64 ∷ 48 ∷ 126 ∷ 48 ∷ 10 ∷ []; next = refl; looks = refl; versions = refl; line = refl; proper = omega arith };
}

pub returns-clause-no_such_look : goal.returns-clause-no_such_look
unfolding line reply_line digits count_ones windows pieces_within first_met packets station_met segments fences blocks moments operator_met commands version matches matches_of_song match_at answer after
returns-clause-no_such_look c = λ lines. differ ⊥ (ap (λ vs. list_any (nat_eq 1) vs) (lines.versions refl))

pub returns-clause-other_list : goal.returns-clause-other_list
unfolding line reply_line digits count_ones windows pieces_within first_met packets station_met segments fences blocks moments operator_met commands version matches matches_of_song match_at answer after
returns-clause-other_list c = λ lines. differ ⊥ (ap (λ (list : List _). cond (nat_eq (length list) 0) true false) (lines.lists 0 BLOCK_5 (record { version = 1; list = [] }) refl refl))

pub returns-clause-left_out : goal.returns-clause-left_out
unfolding line reply_line digits count_ones windows pieces_within first_met packets station_met segments fences blocks moments operator_met commands version matches matches_of_song match_at answer after
returns-clause-left_out c = λ lines. differ ⊥ (ap (λ n. nat_eq n 0) (lines.all refl))
