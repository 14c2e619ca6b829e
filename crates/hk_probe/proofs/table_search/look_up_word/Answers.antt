use Rattle.std.proofs.Common.{List, [], ◌∷◌, ◌++◌, filter_map, Some, sym, ◌∙◌, refl, arith, length-append}
use Rattle.hk_base.specs.declared.plain.Match.{Match}
use Rattle.hk_spec_matching.specs.Matching.{Query}
use Rattle.hk_catalogue.specs.Shelves.{songs_of}
use Rattle.hk_probe.specs.Comparison.{query_in}
use Rattle.hk_probe.specs.Search.{found_at, found_of}
use Rattle.hk_probe.proofs.Visits.{word_gives, few_places, first_left, put_more, as_many}
use Rattle.hk_probe.proofs.table_search.look_up_word.Goals as goal

pub loop-place-init : goal.loop-place-init
loop-place-init g c =
    let shelves = c.args.catalogue.now in
    record {
      listed = word_gives (query_in c.args.block.now) shelves c.args.j c.args.word c.walk-walk.result.places c.args.scratch.now.matches
          c.walk-walk.ensures.places c.requires.shelved;
      room = refl;
      ticks = omega (arith, c.walk-walk.ensures.nodes, few_places shelves c.args.word c.walk-walk.result.places c.walk-walk.ensures.places c.requires.shelved);
    }

pub put-requires : goal.put-requires
put-requires g c = record {
  space =
      let query : Query = query_in c.args.block.now in
      let store = c.args.catalogue.now.store in
      let j = c.args.j in
      let m = c.in-Some-found_at.found in
      let put : List Match = c.loop-place.scratch.matches in
      let left = c.advance.new.self.places in
      let all : List Match = c.args.scratch.now.matches ++ found_of query (songs_of c.args.catalogue.now) j c.args.word in
      let parts = first_left c.loop-place.walk.places left c.advance.result c.in-Some.place c.advance.ensures.place c.advance.ensures.left c.in-Some.is in
      let same = put_more query store j c.loop-place.walk.places left c.in-Some.place put (put ++ m ∷ []) all (Some m)
      parts (sym c.in-Some-found_at.is ∙ c.found_at.ensures.found) refl c.loop-place.invariant.listed in
      let rest : List Match = filter_map (found_at query store j) left in
      omega (
        arith,
        as_many ((put ++ m ∷ []) ++ rest) all same,
        length-append (put ++ m ∷ []) rest,
        length-append put (m ∷ []),
        length-append c.args.scratch.now.matches (found_of query (songs_of c.args.catalogue.now) j c.args.word),
        c.requires.space,
        c.loop-place.invariant.room,
      );
}
