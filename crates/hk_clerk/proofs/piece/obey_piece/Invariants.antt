use Rattle.std.proofs.Common.{◌≡◌, ◌++◌, ℕ, List, Option, take}
use Rattle.hk_base.specs.declared.plain.What.{What}
use Rattle.hk_spec_settings.specs.Settings.{Rules}
use Rattle.hk_clerk.specs.Course.{HasAnswered}
use Rattle.hk_clerk.proofs.piece.obey_piece.Given as goal

-- the front of the piece was obeyed, its replies were written, and the stream goes on
abbrev pub invariant-loop-byte : goal.invariant-loop-byte
invariant-loop-byte g l = record {
  answers : (rules : Rules) (start : Option (List ℕ)) (taken : List ℕ) (told : List What)
      → HasAnswered rules start taken told l.fn.operator l.fn.desk (g.P.Sink.written l.fn.replies)
      → (now : List What) × HasAnswered rules start (taken ++ take l.byte-index l.fn.piece) now l.operator l.desk (g.P.Sink.written l.replies);
  faults : g.P.Sink.faults l.replies ≡ g.P.Sink.faults l.fn.replies;
  home : l.desk.home ≡ l.fn.desk.home;
  limits : l.desk.limits ≡ l.fn.desk.limits;
}
