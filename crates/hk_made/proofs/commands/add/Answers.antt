use Rattle.std.proofs.Common.{ap, take, length, arith}
use Rattle.std.proofs.lemmas.List.{length-take}
use Rattle.hk_made.proofs.Lengths.{length-words}
use Rattle.hk_made.proofs.commands.add.Goals as goal

pub command-requires : goal.command-requires
command-requires c =
    let words = c.args.words.now in
    let i = c.loop-word.word-index in
    omega (arith, ap length c.as_slice.ensures.value, ap length c.loop-word.invariant, length-words (take i words), length-take i words, c.requires.few)
