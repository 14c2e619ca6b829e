-- What the prints before j gave was put, in whatever order.
use Rattle.std.proofs.Common.{◌≡◌, ◌≤◌, ◌+◌, ◌*◌, take, flat_map, sum_by}
use Rattle.std.specs.List.{enumerate_from}
use Rattle.hk_spec_matching.specs.Matching.{Query}
use Rattle.hk_catalogue.specs.Shelves.{songs_of}
use Rattle.hk_probe.specs.Comparison.{query_in}
use Rattle.hk_probe.specs.Search.{found_by, nodes_by, HaveSame}
use Rattle.hk_probe.proofs.table_search.look.Given as goal

abbrev pub invariant-loop-j : goal.invariant-loop-j
invariant-loop-j g l =
    let query : Query = query_in l.block in
    let songs = songs_of l.catalogue in
    record {
      listed : HaveSame l.scratch.matches (flat_map (found_by query songs) (take l.j (enumerate_from 0 l.block.prints)));
      room : l.scratch.room ≡ l.fn.scratch.room;
      ticks : l.steps ≤ l.fn.steps + 257 * sum_by (nodes_by l.catalogue.store.positions query songs) (take l.j l.block.prints);
    }
