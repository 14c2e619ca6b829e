use Rattle.std.proofs.Common.{◌++◌, [], ℕ, List, take, refl, ◌∙◌, subst}
use Rattle.hk_base.proofs.Taking.{Took-nothing, Took-append}
use Rattle.hk_base.specs.Devices.{Rose}
use Rattle.hk_clerk.proofs.Attending.{none_answered, at_its_end, at_a_failure, at_a_fault, at_a_tear}
use Rattle.hk_clerk.proofs.office.OfficeAttendDesk.attend.Goals as goal

pub loop-init : goal.loop-init
loop-init g c = record {
  answers = λ rules h. ([], [], Took-nothing (g.C.Source.left c.args.self.now.calls), none_answered rules c.args.self.now.operator c.args.desk.now (g.P.Sink.written c.args.self.now.replies) h);
  reads = refl;
  writes = refl;
  home = refl;
  limits = refl;
}

pub returns-in-End : goal.returns-in-End
returns-in-End g c = record {
  home = c.loop.invariant.home;
  limits = c.loop.invariant.limits;
  obeyed = λ rules h.
      let before = c.loop.invariant.answers rules h in
      at_its_end g.C.Source g.P.Sink rules c.args.self.now _ c.loop.desk before.0 before.1 c.finish.result
      (rw c.in-End.ensures.nothing_taken before.2) (rw c.finish.ensures.changes_nothing before.3) (c.finish.ensures.end rules _ _ _ before.3.done.obeys) refl
      (rw c.in-End.ensures.nothing_taken c.in-End.ensures.end) (c.in-End.ensures.counts_failures ∙ c.loop.invariant.reads) c.loop.invariant.writes;
}

pub returns-in-Failed : goal.returns-in-Failed
returns-in-Failed g c = record {
  home = c.loop.invariant.home;
  limits = c.loop.invariant.limits;
  obeyed = λ rules h.
      let before = c.loop.invariant.answers rules h in
      at_a_failure g.C.Source g.P.Sink rules c.args.self.now _ c.loop.desk before.0 before.1 (rw c.in-Failed.ensures.nothing_taken before.2) before.3 refl
      (subst (λ n. Rose n (g.C.Source.faults c.read.new.self)) c.loop.invariant.reads c.in-Failed.ensures.cause) c.loop.invariant.writes;
}

pub returns-in-Over : goal.returns-in-Over
returns-in-Over g c = record {
  home = c.obey_piece.ensures.home ∙ c.loop.invariant.home;
  limits = c.obey_piece.ensures.limits ∙ c.loop.invariant.limits;
  obeyed = λ rules h.
      let before = c.loop.invariant.answers rules h in
      let piece : List ℕ = take c.in-Bytes.count c.read.new.into in
      at_a_fault g.C.Source g.P.Sink rules c.args.self.now _ c.obey_piece.new.desk (before.0 ++ piece) c.in-Over.end
      (Took-append before.0 piece _ _ _ before.2 c.in-Bytes.ensures.next) (c.in-Over.ensures.answers rules _ before.0 before.1 before.3) refl
      (c.in-Bytes.ensures.counts_failures ∙ c.loop.invariant.reads) (c.in-Over.ensures.faults.stays (λ no. cc) ∙ c.loop.invariant.writes);
}

pub returns-in-Torn : goal.returns-in-Torn
returns-in-Torn g c = record {
  home = c.obey_piece.ensures.home ∙ c.loop.invariant.home;
  limits = c.obey_piece.ensures.limits ∙ c.loop.invariant.limits;
  obeyed = λ rules h.
      let before = c.loop.invariant.answers rules h in
      let piece : List ℕ = take c.in-Bytes.count c.read.new.into in
      at_a_tear g.C.Source g.P.Sink rules c.args.self.now _ c.obey_piece.new.desk (before.0 ++ piece)
      (Took-append before.0 piece _ _ _ before.2 c.in-Bytes.ensures.next) (c.in-Torn.ensures.answers rules _ before.0 before.1 before.3) refl
      (c.in-Bytes.ensures.counts_failures ∙ c.loop.invariant.reads)
      (subst (λ n. Rose n (g.P.Sink.faults c.obey_piece.new.replies)) c.loop.invariant.writes (c.in-Torn.ensures.faults.cause refl));
}

pub loop-preserved : goal.loop-preserved
loop-preserved g c = record {
  answers = λ rules h.
      let before = c.loop.invariant.answers rules h in
      let piece : List ℕ = take c.in-Bytes.count c.read.new.into in
      let now = c.in-Going.ensures.answers rules _ before.0 before.1 before.3 in
      (before.0 ++ piece, now.0, Took-append before.0 piece _ _ _ before.2 c.in-Bytes.ensures.next, now.1);
  reads = c.in-Bytes.ensures.counts_failures ∙ c.loop.invariant.reads;
  writes = c.in-Going.ensures.faults.stays (λ no. cc) ∙ c.loop.invariant.writes;
  home = c.obey_piece.ensures.home ∙ c.loop.invariant.home;
  limits = c.obey_piece.ensures.limits ∙ c.loop.invariant.limits;
}
