-- What was put and what the words give that are left are together what was there and what the print gives; so are the steps.
use Rattle.std.proofs.Common.{◌≡◌, ℕ, ◌≤◌, ◌+◌, ◌*◌, ◌++◌, flat_map, sum_by, bit_xor}
use Rattle.hk_base.specs.declared.plain.Print.{Print}
use Rattle.hk_spec_matching.specs.Matching.{Query}
use Rattle.hk_catalogue.specs.Shelves.{songs_of}
use Rattle.hk_probe.specs.Comparison.{query_in}
use Rattle.hk_probe.specs.Search.{found_of, found_by, nodes_of, nodes_by, numbered, HaveSame}
use Rattle.hk_probe.proofs.table_search.look_up_print.Given as goal

abbrev pub invariant-loop-subset : goal.invariant-loop-subset
invariant-loop-subset g l =
    let query : Query = query_in l.block in
    let songs = songs_of l.catalogue in
    let positions = l.catalogue.store.positions in
    let print : ℕ × Print = numbered l.j l.block.prints in
    record {
      can : (goal.iterator-loop-subset g).can_next l.subset-iterator;
      finite : (goal.iterator-loop-subset g).is_finite l.subset-iterator;
      listed : HaveSame (l.scratch.matches ++ flat_map (λ s. found_of query songs l.j (bit_xor print.1.word s)) l.subset-iterator)
          (l.fn.scratch.matches ++ found_by query songs print);
      room : l.scratch.room ≡ l.fn.scratch.room;
      ticks : l.steps + 257 * sum_by (λ s. nodes_of positions songs (bit_xor print.1.word s)) l.subset-iterator
          ≤ l.fn.steps + 257 * nodes_by positions query songs print.1;
    }
