use Rattle.std.proofs.Common.{◌^◌, sym, ap, ◌∙◌, arith}
use Rattle.hk_table.specs.Index.{Index, with_words_at}
use Rattle.hk_table.proofs.Kept.{shift_low, bits_of, seen_slot, seen_empty, kept_with, index_with}
use Rattle.hk_table.proofs.table.Table.insert.Goals as goal

pub take_song-requires-clause-shift : goal.take_song-requires-clause-shift
take_song-requires-clause-shift c = shift_low c.self.inside c.self.invariant

pub take_song-requires-clause-buckets : goal.take_song-requires-clause-buckets
take_song-requires-clause-buckets c = c.self.invariant.buckets ∙ sym (ap (λ b. 2 ^ b) (bits_of c.self.inside c.self.invariant))

pub invariant_of-self : goal.invariant_of-self
invariant_of-self c =
    kept_with c.self.inside c.take_song.new.nodes c.args.slot c.take_song.result c.words.result.now c.self.invariant
    (seen_slot c.self.inside c.args.self.now c.args.slot c.self.view_is c.requires.there)
    (seen_empty c.self.inside c.args.self.now c.args.slot c.self.view_is c.requires.there c.requires.empty)
    (omega (arith, c.words.ensures.long)) c.take_song.ensures

pub returns : goal.returns
returns c =
    index_with c.self.inside c.take_song.new.nodes c.args.slot c.take_song.result c.words.result.now c.self.invariant
    (seen_slot c.self.inside c.args.self.now c.args.slot c.self.view_is c.requires.there)
    (seen_empty c.self.inside c.args.self.now c.args.slot c.self.view_is c.requires.there c.requires.empty)
    (omega (arith, c.words.ensures.long)) c.take_song.ensures
    ∙ ap (λ (x : Index). with_words_at x c.args.slot c.words.result.now) c.self.view_is
    ∙ ap (with_words_at c.args.self.now c.args.slot) c.words.ensures.words
