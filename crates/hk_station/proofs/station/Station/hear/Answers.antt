use Rattle.std.proofs.Common.{◌≡◌, ◌≤◌, ◌+◌, [], ◌∷◌, length, refl, sym, ◌∙◌, ap, subst, arith, None}
use Rattle.hk_base.specs.Writing.{HasWritten, HasFailed}
use Rattle.hk_base.proofs.Writing.{written-nothing}
use Rattle.hk_spec_streams.specs.Blocks.{Block}
use Rattle.hk_spec_streams.proofs.Optional.{on_ok}
use Rattle.hk_spec_runs.specs.Listening.{Instant}
use Rattle.hk_block.proofs.Looking.{Looks-nothing}
use Rattle.hk_block.specs.Ring.{block_in}
use Rattle.hk_receiver.specs.Received.{segment_of, ring_of}
use Rattle.hk_station.specs.declared.station.Progress.TheVariants.{Over}
use Rattle.hk_station.specs.Feeding.{instant}
use Rattle.hk_station.specs.Outcome.{log_result}
use Rattle.hk_station.proofs.Hearing.{hears_fault, hears_goes, steps_of_next, steps_of_one, one_line, gives_one, fence_end}
use Rattle.hk_station.proofs.Feeding.{over_heard}
use Rattle.hk_station.proofs.Outcomes.{ok_both, err_both, none_left}
use Rattle.hk_station.proofs.station.Station.hear.Goals as goal

pub returns-in-Some-clause-heard : goal.returns-in-Some-clause-heard
returns-in-Some-clause-heard g c = on_ok (log_result (Over c.in-Some.end))
    (over_heard (instant (g.V.Looker.looker c.args.view.now) c.args.byte) c.args.self.now c.args.view.now c.args.log.now c.args.steps.now c.in-Some.end c.in-Some.is)

pub returns-in-Nothing-clause-heard : goal.returns-in-Nothing-clause-heard
returns-in-Nothing-clause-heard g c =
    let unended : c.args.self.now.end ≡ None = none_left c.args.self.now.end c.in_default.not-Some in
    record {
      text = [];
      answers = [];
      steps = 0;
      writes = written-nothing;
      looks = Looks-nothing (g.V.Looker.looker c.args.view.now);
      idle = λ none. refl;
      bound = omega arith;
      number = refl;
      hears = hears_goes (instant (g.V.Looker.looker c.args.view.now) c.args.byte) c.args.self.now c.push.new.self [] [] unended c.in-Nothing.ensures.tells
          (g.V.Looker.looker c.args.view.now).room _ (g.V.Looker.looker c.args.view.now).past refl (omega arith) refl unended tt;
    }

pub returns-in-Block-clause-heard : goal.returns-in-Block-clause-heard
returns-in-Block-clause-heard g c =
    let unended : c.args.self.now.end ≡ None = none_left c.args.self.now.end c.in_default.not-Some in
    let i : Instant = instant (g.V.Looker.looker c.report.new.view) c.args.byte in
    let block : Block = block_in (segment_of c.push.new.self) (ring_of c.push.new.self) in
    let spelled = one_line c.args.self.now.number i.version c.args.self.now.lines (segment_of c.push.new.self) (ring_of c.push.new.self) i.songs in
    let bounded : c.report.new.steps ≤ c.args.steps.now + steps_of_next (g.V.Looker.looker c.args.view.now).room c.args.self.now i (block ∷ []) =
    steps_of_one (ring_of c.push.new.self) (g.V.Looker.looker c.args.view.now) (g.V.Looker.looker c.report.new.view) (segment_of c.push.new.self) c.args.self.now.lines c.args.steps.now c.report.new.steps
    c.report.ensures.looks.room c.report.ensures.bound in
    ok_both (log_result c.report.result) (λ becomes wrote. record {
      text = _;
      answers = i.version ∷ [];
      steps = _;
      writes = subst (λ text. HasWritten g.K.Sink text c.args.log.now c.report.new.log) (sym spelled) wrote;
      looks = c.report.ensures.looks;
      idle = λ none. absurd (let one : 1 ≡ 0 = ap length none in omega (arith, one));
      bound = bounded;
      number = becomes.number;
      hears = hears_goes i c.args.self.now c.push.new.self (block ∷ []) [] unended c.in-Block.ensures.tells
          (g.V.Looker.looker c.args.view.now).room c.report.new.self (g.V.Looker.looker c.report.new.view).past becomes.receiver becomes.lines_are becomes.version_is becomes.end_is c.report.ensures.looks.known;
    }) c.report.ensures.counts c.report.ensures.writes.whole

pub returns-in-Block-clause-torn : goal.returns-in-Block-clause-torn
returns-in-Block-clause-torn g c = λ unended.
    let i : Instant = instant (g.V.Looker.looker c.report.new.view) c.args.byte in
    let block : Block = block_in (segment_of c.push.new.self) (ring_of c.push.new.self) in
    let spelled = one_line c.args.self.now.number i.version c.args.self.now.lines (segment_of c.push.new.self) (ring_of c.push.new.self) i.songs in
    let bounded : c.report.new.steps ≤ c.args.steps.now + steps_of_next (g.V.Looker.looker c.args.view.now).room c.args.self.now i (block ∷ []) =
    steps_of_one (ring_of c.push.new.self) (g.V.Looker.looker c.args.view.now) (g.V.Looker.looker c.report.new.view) (segment_of c.push.new.self) c.args.self.now.lines c.args.steps.now c.report.new.steps
    c.report.ensures.looks.room c.report.ensures.bound in
    err_both (log_result c.report.result) (λ becomes torn. record {
      line = _;
      steps = _;
      fails = subst (λ text. HasFailed g.K.Sink text c.args.log.now c.report.new.log) (sym spelled) torn;
      looks = c.report.ensures.looks;
      at = refl;
      bound = bounded;
      number = becomes.number;
      lines = becomes.lines_are;
      version_is = becomes.version_is;
      hears = gives_one (g.V.Looker.looker c.args.view.now).room i c.args.self.now c.push.new.self block unended c.in-Block.ensures.tells;
    }) c.report.ensures.torn c.report.ensures.writes.torn

pub returns-in-Fence-clause-heard : goal.returns-in-Fence-clause-heard
returns-in-Fence-clause-heard g c =
    let unended : c.args.self.now.end ≡ None = none_left c.args.self.now.end c.in_default.not-Some in
    let i : Instant = instant (g.V.Looker.looker c.meet.new.view) c.args.byte in
    let becomes = c.meet.ensures.meets in
    on_ok (log_result c.meet.result) (record {
      text = [];
      answers = i.version ∷ [];
      steps = 0;
      writes = written-nothing;
      looks = c.meet.ensures.looks;
      idle = λ none. absurd (let one : 1 ≡ 0 = ap length none in omega (arith, one));
      bound = omega arith;
      number = becomes.number;
      hears = hears_goes i c.args.self.now c.push.new.self [] (c.in-Fence.asked ∷ []) unended c.in-Fence.ensures.tells
          (g.V.Looker.looker c.args.view.now).room c.meet.new.self (g.V.Looker.looker c.meet.new.view).past becomes.receiver (omega (arith, becomes.lines_are)) becomes.version_is
          (becomes.end_is ∙ fence_end i.version c.in-Fence.asked) c.meet.ensures.looks.known;
    })

pub returns-in-Fault-clause-heard : goal.returns-in-Fault-clause-heard
returns-in-Fault-clause-heard g c =
    let unended : c.args.self.now.end ≡ None = none_left c.args.self.now.end c.in_default.not-Some in
    let becomes = c.close.ensures.closes in
    on_ok (log_result c.close.result) (record {
      text = [];
      answers = [];
      steps = 0;
      writes = written-nothing;
      looks = Looks-nothing (g.V.Looker.looker c.args.view.now);
      idle = λ none. refl;
      bound = omega arith;
      number = becomes.number;
      hears = hears_fault (g.V.Looker.looker c.args.view.now).room (instant (g.V.Looker.looker c.args.view.now) c.args.byte) c.args.self.now c.close.new.self (g.V.Looker.looker c.args.view.now).past
          c.in-Fault.fault unended c.in-Fault.ensures.tells becomes.lines_are becomes.version_is becomes.end_is;
    })
