use Rattle.std.proofs.Common.{◌≡◌, ◌++◌, take}
use Rattle.hk_report.proofs.read.read_word.Given as goal

abbrev pub invariant-loop-expected : goal.invariant-loop-expected
invariant-loop-expected l = l.fn.bytes ≡ take l.expected-index l.word ++ l.rest
