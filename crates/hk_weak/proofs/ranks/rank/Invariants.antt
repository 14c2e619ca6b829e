use Rattle.std.proofs.Common.{◌≡◌, ◌≤◌, pos, take, get_or}
use Rattle.std.specs.List.{enumerate_from, count_by}
use Rattle.hk_spec_sound.specs.Prints.{comes_before}
use Rattle.hk_weak.proofs.ranks.rank.Given as goal

abbrev pub invariant-loop-other : goal.invariant-loop-other
invariant-loop-other l = record {
  counted : l.rank ≡ count_by (λ e. comes_before e (l.m, get_or l.d l.m (pos 0))) (take l.other (enumerate_from 0 l.d));
  few : l.rank ≤ l.other;
}
