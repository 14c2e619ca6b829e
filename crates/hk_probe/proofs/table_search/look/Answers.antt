use Rattle.std.proofs.Common.{◌≡◌, ◌<◌, ◌≤◌, length, sum_by, sym, ◌∙◌, ap, arith}
use Rattle.std.proofs.lemmas.List.{take_all}
use Rattle.std.proofs.lemmas.List.Sums.{sum_by_more}
use Rattle.hk_spec_matching.specs.Catalogue.{Songs}
use Rattle.hk_spec_matching.specs.Cost.{cost}
use Rattle.hk_spec_matching.specs.Matching.{Query, matches}
use Rattle.hk_block.specs.Ring.{query_of}
use Rattle.hk_catalogue.specs.Shelves.{songs_of}
use Rattle.hk_catalogue.proofs.Shelving.{rising-songs}
use Rattle.hk_probe.specs.Comparison.{query_in}
use Rattle.hk_probe.specs.Search.{nodes_by}
use Rattle.hk_probe.proofs.Visits.{nothing_matches, put_print, print_fits, all_matches, nodes_are_cost}
use Rattle.hk_probe.proofs.table_search.look.Goals as goal

pub returns-then-count-eq0 : goal.returns-then-count-eq0
returns-then-count-eq0 g c = record {
  list = c.clear.ensures.empty ∙ nothing_matches (query_of c.args.ring.now) (songs_of c.args.catalogue.now) (sym c.count.ensures.count ∙ c.if-count-eq0.true);
  room = c.clear.ensures.room;
  ticks = omega arith;
}

pub loop-j-init : goal.loop-j-init
loop-j-init g c = record {
  listed = λ f. ap (sum_by f) c.clear.ensures.empty;
  room = c.clear.ensures.room;
  ticks = omega arith;
}

pub look_up_print-requires : goal.look_up_print-requires
look_up_print-requires g c =
    let query : Query = query_in c.of-block.result in
    let many : length query.prints ≡ 256 = omega arith in
    record {
      shelved = c.count.ensures.shelved;
      inside = c.loop-j-test.true;
      space = print_fits query (songs_of c.args.catalogue.now) c.loop-j.j c.loop-j.scratch.room c.loop-j.scratch.matches (omega (arith, many, c.loop-j-test.true))
          c.loop-j.invariant.listed (omega (arith, c.count.ensures.words_fit, c.requires.space, c.loop-j.invariant.room));
    }

pub loop-j-preserved : goal.loop-j-preserved
loop-j-preserved g c =
    let query : Query = query_in c.of-block.result in
    let songs : Songs = songs_of c.args.catalogue.now in
    let many : length query.prints ≡ 256 = omega arith in
    let low : c.loop-j.j < length query.prints = omega (arith, many, c.loop-j-test.true) in
    record {
      listed = put_print query songs c.loop-j.j c.loop-j.scratch.matches c.look_up_print.new.scratch.matches low c.loop-j.invariant.listed c.look_up_print.ensures.found;
      room = c.look_up_print.ensures.room ∙ c.loop-j.invariant.room;
      ticks = omega (
        arith,
        c.look_up_print.ensures.ticks,
        c.loop-j.invariant.ticks,
        sum_by_more (nodes_by c.args.catalogue.now.store.positions query songs) query.prints c.loop-j.j (record { word = 0; mask = 0 }) low,
      );
    }

pub returns : goal.returns
returns g c =
    let query : Query = query_in c.of-block.result in
    let songs : Songs = songs_of c.args.catalogue.now in
    let positions = c.args.catalogue.now.store.positions in
    let many : length query.prints ≡ 256 = omega arith in
    let whole : length query.prints ≤ c.loop-j.j = omega (arith, many, c.loop-j-test.false) in
    let is : query ≡ query_of c.args.ring.now = c.of-block.ensures in
    record {
      list = all_matches query songs c.loop-j.scratch.matches c.order.new.self.matches c.loop-j.j whole
          (rising-songs c.args.catalogue.now.store c.args.catalogue.now.index c.count.ensures.shelved.rising)
          c.loop-j.invariant.listed c.order.ensures.same c.order.ensures.ordered
          ∙ ap (λ q. matches q songs) is;
      room = c.order.ensures.room ∙ c.loop-j.invariant.room;
      ticks = omega (
        arith,
        c.loop-j.invariant.ticks,
        ap (sum_by (nodes_by positions query songs)) (take_all c.loop-j.j query.prints whole),
        nodes_are_cost positions query songs,
        ap (λ q. cost positions q songs) is,
      );
    }
