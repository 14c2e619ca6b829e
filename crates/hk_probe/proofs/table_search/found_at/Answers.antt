use Rattle.std.proofs.Common.{◌≡◌, length, sym, ◌∙◌, arith}
use Rattle.hk_spec_matching.specs.Matching.{Query}
use Rattle.hk_probe.specs.Comparison.{query_in}
use Rattle.hk_probe.proofs.Starts.{start_words}
use Rattle.hk_probe.proofs.Visits.{nothing_there, begins_before, ends_behind, by_words}
use Rattle.hk_probe.proofs.table_search.found_at.Goals as goal

pub returns-in_err-song-clause-found : goal.returns-in_err-song-clause-found
returns-in_err-song-clause-found g c =
    let query : Query = query_in c.args.block.now in
    let some : length query.prints ≡ 256 = omega arith in
    c.from_residual.ensures
    ∙ nothing_there query c.args.catalogue.now.store c.args.j c.args.place (omega (arith, some)) (sym c.song.ensures.song ∙ c.in_err-song.was)

pub returns-in_err-start-clause-found : goal.returns-in_err-start-clause-found
returns-in_err-start-clause-found g c =
    let query : Query = query_in c.args.block.now in
    c.from_residual-in_err-start.ensures
    ∙ begins_before query c.args.catalogue.now.store c.args.j c.args.place c.in_ok-song.song (sym c.song.ensures.song ∙ c.in_ok-song.was)
    (omega (arith, c.in_err-start.ensures))

pub returns-then-start-length-clause-found : goal.returns-then-start-length-clause-found
returns-then-start-length-clause-found g c =
    let query : Query = query_in c.args.block.now in
    let many : length query.prints ≡ 256 = omega arith in
    ends_behind query c.args.catalogue.now.store c.args.j c.args.place c.in_ok-song.song (sym c.song.ensures.song ∙ c.in_ok-song.was)
    (omega (arith, many, c.in_ok-start.ensures.1, c.length.ensures.length, c.length.ensures.long, c.if-start-length.true))

pub returns-clause-found : goal.returns-clause-found
returns-clause-found g c =
    let query : Query = query_in c.args.block.now in
    let many : length query.prints ≡ 256 = omega arith in
    let words = c.in_ok-song.song.words in
    by_words query c.args.catalogue.now.store c.args.j c.args.place c.in_ok-song.song c.in_ok-start.start c.window.new.into c.first_match_at.result c.id.result
    (sym c.song.ensures.song ∙ c.in_ok-song.was)
    (omega (arith, c.in_ok-start.ensures.0, c.in_ok-start.ensures.1))
    (omega (arith, many, c.length.ensures.length, c.length.ensures.long, c.if-start-length.false))
    (c.window.ensures.words ∙ start_words query words c.in_ok-start.start many)
    c.id.ensures
    (c.first_match_at.ensures words)
