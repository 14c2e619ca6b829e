-- The id and the words so far.
use Rattle.std.proofs.Common.{◌≡◌, ◌+◌, ◌++◌, take, flat_map}
use Rattle.std.specs.Int.{w32, to_be_bytes}
use Rattle.hk_made.proofs.commands.add.Given as goal

abbrev pub invariant-loop-word : goal.invariant-loop-word
invariant-loop-word l = l.payload.items ≡ to_be_bytes w32 (100 + l.i) ++ flat_map (to_be_bytes w32) (take l.word-index l.words)
