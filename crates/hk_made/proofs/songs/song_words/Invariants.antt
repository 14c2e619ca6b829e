-- The words before a place are drawn.
use Rattle.std.proofs.Common.{◌≡◌, map}
use Rattle.std.specs.List.{range_with_len}
use Rattle.hk_made.proofs.Drawing.{word_at}
use Rattle.hk_made.proofs.songs.song_words.Given as goal

abbrev pub invariant-loop-place : goal.invariant-loop-place
invariant-loop-place l = l.words.items ≡ map (word_at l.highs) (range_with_len 0 l.place)
