-- The matches in the songs before this one are there, and there are no more than words.
use Rattle.std.proofs.Common.{◌≡◌, ◌≤◌, length, take}
use Rattle.hk_spec_matching.specs.Catalogue.{positions_of}
use Rattle.hk_spec_matching.specs.Matching.{matches}
use Rattle.hk_catalogue.specs.Shelves.{songs_of}
use Rattle.hk_probe.specs.Comparison.{query_in}
use Rattle.hk_probe.proofs.full_scan.scan.Given as goal

abbrev pub invariant-loop-n : goal.invariant-loop-n
invariant-loop-n g l = record {
  listed : l.scratch.matches ≡ matches (query_in l.block) (take l.n (songs_of l.catalogue));
  few : length l.scratch.matches ≤ positions_of (take l.n (songs_of l.catalogue));
  room : l.scratch.room ≡ l.fn.scratch.room;
}
