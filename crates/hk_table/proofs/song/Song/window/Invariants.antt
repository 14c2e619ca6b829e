-- The words before j are copied, at a tick for each.
use Rattle.std.proofs.Common.{◌≡◌, ◌+◌, length, take}
use Rattle.hk_table.proofs.song.Song.window.Given as goal

abbrev pub invariant-loop-j : goal.invariant-loop-j
invariant-loop-j g l = record {
  size : length l.into ≡ 256;
  copied : take l.j l.into ≡ take l.j l.words;
  ticked : l.steps ≡ l.fn.steps + l.j;
}
