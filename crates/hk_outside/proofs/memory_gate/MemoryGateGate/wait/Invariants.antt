use Rattle.std.proofs.Common.{◌≡◌, ◌||◌, ◌&&◌, ℕ, nat_lt}
use Rattle.hk_outside.specs.Gates.{is_set}
use Rattle.hk_outside.proofs.memory_gate.MemoryGateGate.wait.Given as goal

-- the watched seats below k are named
abbrev pub invariant-loop-k : goal.invariant-loop-k
invariant-loop-k g l = (j : ℕ) → is_set l.ready j ≡ (is_set l.fn.ready j || (nat_lt j l.k && is_set l.self.watched j))
