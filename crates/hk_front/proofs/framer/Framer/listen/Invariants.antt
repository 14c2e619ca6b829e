use Rattle.std.proofs.Common.{◌≡◌, ◌≤◌, ◌*◌, ◌++◌, [], ℕ, List, length, take}
use Rattle.hk_front.specs.Framing.{HasFramed, KeepsForm, frames_in}
use Rattle.hk_front.proofs.framer.Framer.listen.Given as goal

-- the groups before were taken, and completed no frame
abbrev pub invariant-loop-group : goal.invariant-loop-group
invariant-loop-group l = record {
  inside : l.at ≤ length l.piece;
  between : l.self.reading.group ≡ [];
  whole : l.size ≡ 2 * l.self.reading.channels;
  form : KeepsForm l.fn.self l.self;
  taken : (bytes : List ℕ) → HasFramed l.fn.self bytes → HasFramed l.self (bytes ++ take l.at l.piece);
  no_frame : (bytes : List ℕ) (k : ℕ) → HasFramed l.fn.self bytes → k ≤ l.at → frames_in l.fn.self (bytes ++ take k l.piece) ≡ frames_in l.fn.self bytes;
}
