-- The prints before j are the ring's.
use Rattle.std.proofs.Common.{◌≡◌, ℕ, ◌<◌, get_or, length}
use Rattle.hk_base.specs.declared.plain.Print.{Print}
use Rattle.hk_block.proofs.ring.BlockRing.prints.Given as goal

abbrev pub invariant-loop-j : goal.invariant-loop-j
invariant-loop-j l = record { size : length l.prints ≡ 256; copied : (k : ℕ) (d : Print) → k < l.j → get_or l.prints k d ≡ get_or l.self.last k d }
