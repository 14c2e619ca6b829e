use Rattle.std.proofs.Common.{◌≡◌, ap, ◌∙◌, arith}
use Rattle.hk_spec_made.specs.Input.{words_before}
use Rattle.hk_made.proofs.Before.{words_before-more, words_before-fits}
use Rattle.hk_made.proofs.songs.words_before.Goals as goal

pub loop-earlier-preserved : goal.loop-earlier-preserved
loop-earlier-preserved c = record {
  value = omega (arith, c.loop-earlier.invariant.value, c.song_length-words.ensures, words_before-more c.loop-earlier.earlier);
  most = omega (arith, c.loop-earlier.invariant.most, c.song_length-words.ensures);
}

pub returns-clause-fits : goal.returns-clause-fits
returns-clause-fits c =
    let i = c.args.i in
    let last : c.loop-earlier.earlier ≡ i = omega (arith, c.loop-earlier-test.false, c.loop-earlier.auto.earlier-end) in
    omega (arith, c.loop-earlier.invariant.value ∙ ap words_before last, words_before-fits i c.requires)
