use Rattle.std.proofs.Common.{ℕ, ◌+◌, List, take, drop, get_or}
use Rattle.hk_report.proofs.Fronts.{at_place}
use Rattle.hk_report.proofs.read.read_word.Goals as goal

-- the bytes so far are a front of the word, and its next byte doesn't come
pub returns-then-not-comes_next-clause-misfit : goal.returns-then-not-comes_next-clause-misfit
returns-then-not-comes_next-clause-misfit c =
    let i : ℕ = c.loop-expected.expected-index in
    let word : List ℕ = c.args.word.now in
    (take i word, c.loop-expected.invariant, (get_or word i 0, drop (i + 1) word, at_place word i c.loop-expected-test.true, c.if-not-comes_next.ensures))
