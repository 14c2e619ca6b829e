-- The words from this position on have their nodes.
use Rattle.std.proofs.Common.{drop}
use Rattle.hk_table.specs.Songs.{bucket_at, IsLonger}
use Rattle.hk_table.proofs.table.take_song.Given as goal

abbrev pub invariant-loop-pos : goal.invariant-loop-pos
invariant-loop-pos l = IsLonger (bucket_at l.shift) l.slot l.pos l.fn.nodes l.nodes (drop l.pos l.words) l.head
