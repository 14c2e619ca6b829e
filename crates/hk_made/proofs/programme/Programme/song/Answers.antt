use Rattle.std.proofs.Common.{take, drop, length, ap, ◌∙◌, arith}
use Rattle.hk_spec_made.specs.Input.{song_length, words_before, drawn_words}
use Rattle.hk_made.proofs.Before.{song-first}
use Rattle.hk_made.proofs.Drawing.{length-drawn_words}
use Rattle.hk_made.proofs.programme.Programme.song.Goals as goal

pub song-requires-clause-all : goal.song-requires-clause-all
song-requires-clause-all c =
    let self = c.args.self.now in
    ap length (c.deref.ensures.value ∙ self.exact) ∙ length-drawn_words self.highs.items 10800 (omega (arith, self.all_drawn))

pub returns-clause-words : goal.returns-clause-words
returns-clause-words c =
    let self = c.args.self.now in
    let i = c.args.i in
    c.song.ensures.words
    ∙ ap (λ ws. take (song_length i) (drop (words_before i) ws)) (c.deref.ensures.value ∙ self.exact)
    ∙ song-first (drawn_words self.highs.items) i c.requires
