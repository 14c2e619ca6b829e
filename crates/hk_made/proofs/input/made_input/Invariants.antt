-- The hellos and the rounds so far.
use Rattle.std.proofs.Common.{◌≡◌, ◌++◌, flat_map}
use Rattle.std.specs.List.{range_with_len}
use Rattle.hk_made.proofs.Rounds.{hellos, round_text}
use Rattle.hk_made.proofs.input.made_input.Given as goal

abbrev pub invariant-loop-round : goal.invariant-loop-round
invariant-loop-round l = l.text.items ≡ hellos l.stations ++ flat_map (round_text l.programme.flips l.programme.highs.items l.programme.stations) (range_with_len 0 l.round)
