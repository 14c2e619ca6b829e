-- The words before j are those of the prints.
use Rattle.std.proofs.Common.{◌≡◌, take, length}
use Rattle.hk_spec_matching.specs.Matching.{words_of}
use Rattle.hk_probe.proofs.comparison.Block.new.Given as goal

abbrev pub invariant-loop-j : goal.invariant-loop-j
invariant-loop-j l = record {
  written : take l.j l.words ≡ words_of (take l.j l.prints);
  size : length l.words ≡ 256;
}
