-- No print before j hits.
use Rattle.std.proofs.Common.{◌≡◌, ℕ, ◌<◌, get_or, zip, false}
use Rattle.hk_spec_matching.specs.Matching.{is_hit}
use Rattle.hk_probe.specs.Comparison.{query_in}
use Rattle.hk_probe.proofs.comparison.Block.first_hit.Given as goal

abbrev pub invariant-loop-j : goal.invariant-loop-j
invariant-loop-j l =
    (k : ℕ) → k < l.j → is_hit (query_in l.self) (get_or (zip l.self.prints l.words) k (record { word = 0; mask = 0 }, 0)) ≡ false
