-- What was put and what is left of the walk are together what was there and what the word gives; so are the steps.
use Rattle.std.proofs.Common.{◌≡◌, ◌≤◌, ◌+◌, ◌*◌, ◌++◌, length, filter_map}
use Rattle.hk_spec_matching.specs.Matching.{Query}
use Rattle.hk_catalogue.specs.Shelves.{songs_of}
use Rattle.hk_probe.specs.Comparison.{query_in}
use Rattle.hk_probe.specs.Search.{found_at, found_of, nodes_of, HaveSame}
use Rattle.hk_probe.proofs.table_search.look_up_word.Given as goal

abbrev pub invariant-loop-place : goal.invariant-loop-place
invariant-loop-place g l =
    let query : Query = query_in l.block in
    record {
      listed : HaveSame (l.scratch.matches ++ filter_map (found_at query l.catalogue.store l.j) l.walk.places) (l.fn.scratch.matches ++ found_of query (songs_of l.catalogue) l.j l.word);
      room : l.scratch.room ≡ l.fn.scratch.room;
      ticks : l.steps + l.walk.nodes + 256 * length l.walk.places ≤ l.fn.steps + 257 * nodes_of l.catalogue.store.positions (songs_of l.catalogue) l.word;
    }

abbrev pub decreases-loop-place : goal.decreases-loop-place
decreases-loop-place g l = length l.walk.places
