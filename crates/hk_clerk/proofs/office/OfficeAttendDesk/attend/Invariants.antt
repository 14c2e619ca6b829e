use Rattle.std.proofs.Common.{◌≡◌, ℕ, List}
use Rattle.hk_base.specs.Devices.{Took}
use Rattle.hk_base.specs.declared.plain.What.{What}
use Rattle.hk_spec_settings.specs.Settings.{Rules}
use Rattle.hk_spec_runs.specs.OperatorState.{new_state}
use Rattle.hk_operator.specs.Obeying.{IsObeying, new_stream}
use Rattle.hk_publish.specs.Holding.{shelf_of}
use Rattle.hk_clerk.specs.Course.{HasAnswered}
use Rattle.hk_clerk.proofs.office.OfficeAttendDesk.attend.Given as goal

-- all that was read was obeyed, its replies were written, and the stream goes on
abbrev pub invariant-loop : goal.invariant-loop
invariant-loop g l = record {
  answers : (rules : Rules) → IsObeying rules l.fn.self.operator (shelf_of l.fn.desk) new_stream new_state
      → (taken : List ℕ) × (told : List What) × Took taken (g.C.Source.left l.fn.self.calls) (g.C.Source.left l.self.calls)
      × HasAnswered rules (g.P.Sink.written l.fn.self.replies) taken told l.self.operator l.desk (g.P.Sink.written l.self.replies);
  reads : g.C.Source.faults l.self.calls ≡ g.C.Source.faults l.fn.self.calls;
  writes : g.P.Sink.faults l.self.replies ≡ g.P.Sink.faults l.fn.self.replies;
  home : l.desk.home ≡ l.fn.desk.home;
  limits : l.desk.limits ≡ l.fn.desk.limits;
}
