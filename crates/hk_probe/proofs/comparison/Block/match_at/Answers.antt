use Rattle.std.proofs.Common.{sym, ◌∙◌, arith}
use Rattle.std.proofs.lemmas.Slice.Zip.{length-zip}
use Rattle.hk_spec_matching.specs.Matching.{Query}
use Rattle.hk_catalogue.specs.Shelves.{song_of}
use Rattle.hk_probe.specs.Comparison.{query_in}
use Rattle.hk_probe.proofs.Matches.{match-first, match-no_hit, none_hits}
use Rattle.hk_probe.proofs.comparison.Block.match_at.Goals as goal

pub returns-then-first_hit-lt-BLOCK_SIZE : goal.returns-then-first_hit-lt-BLOCK_SIZE
returns-then-first_hit-lt-BLOCK_SIZE c whole =
    let query : Query = query_in c.args.self.now in
    c.match_within.ensures
    ∙ match-first query c.args.id c.args.start c.args.words.now whole (omega arith) (omega arith) (omega (arith, c.first_hit.ensures.first))

pub returns-else-first_hit-lt-BLOCK_SIZE : goal.returns-else-first_hit-lt-BLOCK_SIZE
returns-else-first_hit-lt-BLOCK_SIZE c whole =
    let query : Query = query_in c.args.self.now in
    let words = c.args.words.now in
    sym (match-no_hit query (c.args.id, song_of whole) (c.args.start, words)
    (none_hits query words (omega (arith, length-zip query.prints words, c.first_hit.ensures.first))))
