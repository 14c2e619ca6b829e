use Rattle.std.proofs.Common.{sym, ◌∙◌, arith}
use Rattle.hk_spec_matching.specs.Matching.{Query}
use Rattle.hk_catalogue.specs.Shelves.{song_of}
use Rattle.hk_probe.specs.Comparison.{query_in}
use Rattle.hk_probe.proofs.Matches.{match-first, first_match-is, first_match-none}
use Rattle.hk_probe.proofs.comparison.Block.first_match_at.Goals as goal

pub returns-then-first_hit-j : goal.returns-then-first_hit-j
returns-then-first_hit-j c whole =
    let query : Query = query_in c.args.self.now in
    let words = c.args.words.now in
    c.match_within.ensures
    ∙ match-first query c.args.id c.args.start words whole (omega arith) (omega arith) (omega (arith, c.first_hit.ensures.first))
    ∙ sym (first_match-is query c.args.j (c.args.id, song_of whole) (c.args.start, words) (omega (arith, c.first_hit.ensures.first)))

pub returns-else-first_hit-j : goal.returns-else-first_hit-j
returns-else-first_hit-j c whole =
    sym (first_match-none (query_in c.args.self.now) c.args.j (c.args.id, song_of whole) (c.args.start, c.args.words.now)
    (λ first. c.if-first_hit-j.false (c.first_hit.ensures.first ∙ first)))
