-- The rounds of the table are those of the definition.
use Rattle.std.proofs.Common.{◌≡◌, ℕ, ◌+◌, ◌*◌, List, ◌++◌, codes, flat_map, refl, ap, ◌∙◌}
use Rattle.std.specs.List.{range_with_len, enumerate_from, slice_index_or}
use Rattle.hk_spec_made.specs.Input.{make_input, high_parts, words_before, operator_record, station_record, round_records, round_commands, hello_bytes}
use Rattle.hk_made.specs.declared.edits.TheConstants.{ROUNDS}
use Rattle.hk_made.specs.declared.edits.Edit.{Edit}
use Rattle.hk_made.specs.declared.edits.Edit.TheVariants.{Add}
use Rattle.hk_made.specs.Edits.{commands_of}

abbrev pub edit_in : ℕ → Edit
edit_in round = slice_index_or ROUNDS round (Add 0 0)

abbrev pub round_text : ℕ → List ℕ → ℕ → ℕ → List ℕ
round_text flips highs stations round = round_records flips highs stations (round, commands_of highs (edit_in round))

-- the hellos, with which the input begins
abbrev pub hellos : ℕ → List ℕ
hellos stations = operator_record (codes "HKO1") ++ flat_map (λ s. station_record s hello_bytes) (range_with_len 0 stations)

rounds-all : (f : ℕ × List (List ℕ) → List ℕ) (highs : List ℕ)
    → flat_map (λ r. f (r, commands_of highs (edit_in r))) (range_with_len 0 4) ≡ flat_map f (enumerate_from 0 (round_commands highs))
rounds-all f highs = refl

pub all-made : (text highs : List ℕ) (seed stations n flips k : ℕ) → n ≡ stations → k ≡ flips → highs ≡ high_parts seed (2 * words_before 8 + 4 * stations * 600)
    → text ≡ hellos stations ++ flat_map (round_text k highs n) (range_with_len 0 4)
    → text ≡ make_input seed stations flips
unfolding make_input
all-made text highs seed stations n flips k same_n same_k drawn was =
    let start : List ℕ = hellos stations in
    was
    ∙ ap (λ bytes. start ++ bytes) (rounds-all (round_records k highs n) highs)
    ∙ ap (λ k. start ++ flat_map (round_records k highs n) (enumerate_from 0 (round_commands highs))) same_k
    ∙ ap (λ n. start ++ flat_map (round_records flips highs n) (enumerate_from 0 (round_commands highs))) same_n
    ∙ ap (λ hs. start ++ flat_map (round_records flips hs stations) (enumerate_from 0 (round_commands hs))) drawn
