use Rattle.std.proofs.Common.{[], ◌∷◌, length, refl, ap, cond, arith, true, false, inl, nat_eq}
use Rattle.std.specs.Fmt.{digits}
use Rattle.std.specs.Int.RustNames.{count_ones}
use Rattle.hk_base.specs.declared.plain.What.TheVariants.{Published}
use Rattle.hk_spec_sound.specs.Windows.{windows}
use Rattle.hk_spec_streams.specs.Pieces.{pieces_within, first_met}
use Rattle.hk_spec_streams.specs.Grammar.{packets}
use Rattle.hk_spec_streams.specs.Station.{station_met, segments, fences}
use Rattle.hk_spec_streams.specs.Blocks.{blocks, moments}
use Rattle.hk_spec_streams.specs.Operator.{operator_met, commands}
use Rattle.hk_spec_matching.specs.Catalogue.{version, Journal}
use Rattle.hk_spec_matching.specs.Matching.{matches, matches_of_song, match_at}
use Rattle.hk_spec_lines.specs.Lines.{line, reply_line}
use Rattle.hk_spec_runs.specs.OperatorState.{answer, after}
use Rattle.hk_spec_monitor.proofs.OneLine.{differ}
use Rattle.hk_spec_monitor.proofs.facts.reply_facts.Goals as goal

pub returns-clause-whole : goal.returns-clause-whole
unfolding line reply_line digits count_ones windows pieces_within first_met packets station_met segments fences blocks moments operator_met commands version matches matches_of_song match_at answer after
returns-clause-whole c = record { fit = (inl refl, (inl refl, tt)); journal_is = refl; all = λ whole. refl; whole = λ whole. refl; torn = λ torn. differ _ (ap (λ b. cond b false true) torn) }

pub returns-clause-torn : goal.returns-clause-torn
unfolding line reply_line digits count_ones windows pieces_within first_met packets station_met segments fences blocks moments operator_met commands version matches matches_of_song match_at answer after
returns-clause-torn c = record {
  fit = (inl refl, (inl refl, tt));
  journal_is = refl;
  all = λ whole. differ _ whole;
  whole = λ whole. differ _ whole;
  torn = λ torn. record { what = Published 1; missing = 108 ∷ 105 ∷ 115 ∷ 104 ∷ 101 ∷ 100 ∷ 32 ∷ 49 ∷ 10 ∷ []; last = refl; line = refl; proper = omega arith };
}

pub returns-clause-no_batch : goal.returns-clause-no_batch
unfolding line reply_line digits count_ones windows pieces_within first_met packets station_met segments fences blocks moments operator_met commands version matches matches_of_song match_at answer after
returns-clause-no_batch c = λ replies. differ ⊥ (ap (λ (j : Journal). nat_eq (length j) 0) replies.journal_is)

pub returns-clause-no_command : goal.returns-clause-no_command
unfolding line reply_line digits count_ones windows pieces_within first_met packets station_met segments fences blocks moments operator_met commands version matches matches_of_song match_at answer after
returns-clause-no_command c = λ replies. differ ⊥ (ap (λ n. nat_eq n 3) (replies.all refl))

pub returns-clause-no_reply : goal.returns-clause-no_reply
unfolding line reply_line digits count_ones windows pieces_within first_met packets station_met segments fences blocks moments operator_met commands version matches matches_of_song match_at answer after
returns-clause-no_reply c = λ replies. differ ⊥ (ap (λ n. nat_eq n 1) (replies.all refl))
