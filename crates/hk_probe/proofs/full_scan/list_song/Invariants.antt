-- The matches at the starts before this one follow those that stood there.
use Rattle.std.proofs.Common.{◌≡◌, ◌≤◌, ◌+◌, ◌++◌, length}
use Rattle.hk_catalogue.specs.Shelves.{entry_of}
use Rattle.hk_probe.specs.Comparison.{query_in}
use Rattle.hk_probe.proofs.Starts.{matches_before}
use Rattle.hk_probe.proofs.full_scan.list_song.Given as goal

abbrev pub invariant-loop-start : goal.invariant-loop-start
invariant-loop-start g l = record {
  listed : l.scratch.matches ≡ l.fn.scratch.matches ++ matches_before (query_in l.block) (entry_of l.song) l.start;
  few : length l.scratch.matches ≤ length l.fn.scratch.matches + l.start;
  room : l.scratch.room ≡ l.fn.scratch.room;
}
