use Rattle.std.proofs.Common.{◌≡◌, ℕ, ◌+◌, ◌≤◌, List, [], ◌++◌, length, flat_map, sum_by, bit_xor, subst, refl, sym, ◌∙◌, ap, arith}
use Rattle.std.proofs.lemmas.List.{append-nil}
use Rattle.std.proofs.lemmas.List.Sums.{sum_by-cons}
use Rattle.hk_base.specs.declared.plain.Match.{Match}
use Rattle.hk_base.specs.declared.plain.Print.{Print}
use Rattle.hk_spec_matching.specs.Catalogue.{Songs}
use Rattle.hk_spec_matching.specs.Matching.{Query}
use Rattle.hk_catalogue.specs.Shelves.{songs_of}
use Rattle.hk_probe.specs.Comparison.{query_in, subsets_for}
use Rattle.hk_probe.specs.Search.{found_of, found_by, nodes_of, numbered, HaveSame}
use Rattle.hk_probe.proofs.Visits.{put_piece, piece_fits, by_subsets, nodes_by_subsets}
use Rattle.hk_probe.proofs.table_search.look_up_print.Goals as goal

pub loop-subset-init : goal.loop-subset-init
loop-subset-init g c =
    let query : Query = query_in c.args.block.now in
    let songs : Songs = songs_of c.args.catalogue.now in
    let print : ℕ × Print = numbered c.args.j c.args.block.now.prints in
    let old : List Match = c.args.scratch.now.matches in
    let all : c.into_iter-subset-iterator.result ≡ subsets_for query print.1 = c.into_iter-subset-iterator.ensures.into_iter_gives ∙ c.subsets-subset-items.ensures in
    let gives : ℕ → List Match = λ s. found_of query songs c.args.j (bit_xor print.1.word s) in
    record {
      can = tt;
      finite = tt;
      listed = λ f. ap (λ ss. sum_by f (old ++ flat_map gives ss)) all ∙ ap (λ ms. sum_by f (old ++ ms)) (by_subsets query songs print);
      room = refl;
      ticks = omega (
        arith,
        nodes_by_subsets c.args.catalogue.now.store.positions query songs print.1,
        ap (sum_by (λ s. nodes_of c.args.catalogue.now.store.positions songs (bit_xor print.1.word s))) all,
      );
    }

pub look_up_word-requires-clause-space : goal.look_up_word-requires-clause-space
look_up_word-requires-clause-space g c =
    let query : Query = query_in c.args.block.now in
    let songs : Songs = songs_of c.args.catalogue.now in
    let print : ℕ × Print = numbered c.args.j c.args.block.now.prints in
    let gives : ℕ → List Match = λ s. found_of query songs c.args.j (bit_xor print.1.word s) in
    let rest : List Match = flat_map gives c.next.new.self in
    let put : List Match = c.loop-subset.scratch.matches in
    let old : List Match = c.args.scratch.now.matches in
    let all : List Match = found_by query songs print in
    let P : List ℕ → Type 0 = λ ss. HaveSame (put ++ flat_map gives ss) (old ++ all) in
    let same : HaveSame (put ++ (gives c.in-Some.subset ++ rest)) (old ++ all) = subst P c.in-Some.ensures.steps c.loop-subset.invariant.listed in
    let fits : length old + length all ≤ c.loop-subset.scratch.room = omega (arith, c.requires.space, c.loop-subset.invariant.room) in
    piece_fits put (gives c.in-Some.subset) rest old all c.loop-subset.scratch.room same fits

pub loop-subset-preserved : goal.loop-subset-preserved
loop-subset-preserved g c =
    let query : Query = query_in c.args.block.now in
    let songs : Songs = songs_of c.args.catalogue.now in
    let print : ℕ × Print = numbered c.args.j c.args.block.now.prints in
    let gives : ℕ → List Match = λ s. found_of query songs c.args.j (bit_xor print.1.word s) in
    let nodes : ℕ → ℕ = λ s. nodes_of c.args.catalogue.now.store.positions songs (bit_xor print.1.word s) in
    let rest : List Match = flat_map gives c.next.new.self in
    let put : List Match = c.loop-subset.scratch.matches in
    let all : List Match = c.args.scratch.now.matches ++ found_by query songs print in
    let P : List ℕ → Type 0 = λ ss. HaveSame (put ++ flat_map gives ss) all in
    let same : HaveSame (put ++ (gives c.in-Some.subset ++ rest)) all = subst P c.in-Some.ensures.steps c.loop-subset.invariant.listed in
    record {
      can = tt;
      finite = tt;
      listed = put_piece put c.look_up_word.new.scratch.matches (gives c.in-Some.subset) rest all c.look_up_word.ensures.found same;
      room = c.look_up_word.ensures.room ∙ c.loop-subset.invariant.room;
      ticks = omega (
        arith,
        c.look_up_word.ensures.ticks,
        c.loop-subset.invariant.ticks,
        ap (sum_by nodes) c.in-Some.ensures.steps,
        sum_by-cons nodes c.in-Some.subset c.next.new.self,
      );
    }

pub returns : goal.returns
returns g c =
    let query : Query = query_in c.args.block.now in
    let songs : Songs = songs_of c.args.catalogue.now in
    let print : ℕ × Print = numbered c.args.j c.args.block.now.prints in
    let gives : ℕ → List Match = λ s. found_of query songs c.args.j (bit_xor print.1.word s) in
    let nodes : ℕ → ℕ = λ s. nodes_of c.args.catalogue.now.store.positions songs (bit_xor print.1.word s) in
    let put : List Match = c.loop-subset.scratch.matches in
    let none : c.loop-subset.subset-iterator ≡ [] = c.in-None.ensures.steps.0 in
    record {
      found = λ f. ap (sum_by f) (sym (append-nil put)) ∙ sym (ap (λ ss. sum_by f (put ++ flat_map gives ss)) none) ∙ c.loop-subset.invariant.listed f;
      room = c.loop-subset.invariant.room;
      ticks = omega (arith, c.loop-subset.invariant.ticks, ap (sum_by nodes) none);
    }
