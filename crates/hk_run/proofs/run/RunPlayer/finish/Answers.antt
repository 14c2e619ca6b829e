use Rattle.std.proofs.Common.{length, sym, ap, ◌∙◌, ◌&&◌, subst}
use Rattle.hk_base.specs.Writing.{HasWritten, HasFailed}
use Rattle.hk_base.proofs.Writing.{written-append, failed_within, failed_behind}
use Rattle.hk_words.specs.Rules.{rules_meant}
use Rattle.hk_spec_lines.specs.Lines.{operator_line}
use Rattle.hk_spec_streams.specs.Operator.{commands}
use Rattle.hk_spec_runs.specs.Replay.{Scene, summary, operator_end_of}
use Rattle.hk_run.specs.Course.{scene_after}
use Rattle.hk_probe.specs.Single.{shelf_of}
use Rattle.hk_run.specs.Holding.{AreHearing}
use Rattle.hk_run.proofs.Finishing.{between, operator_line_is, in_order_is}
use Rattle.hk_run.proofs.Tasks.{whole_is, ended_is}
use Rattle.hk_run.proofs.run.RunPlayer.finish.Goals as goal

pub returns-in-Err-write_stations-clause-torn : goal.returns-in-Err-write_stations-clause-torn
returns-in-Err-write_stations-clause-torn g c = λ is refused text h.
    let rules = rules_meant c.args.self.now.rules in
    let scene : Scene = scene_after rules refused text in
    let stations = c.in-Err-write_stations.ensures.torn rules scene.listeners (rw c.as_mut_slice.ensures.value h.holds.hears) in (
      between rules c.args.self.now refused text h _ c.finish.result (c.finish.ensures.ends text h.read) c.in_default.not-Err,
      (
        summary rules scene,
        whole_is rules refused text h.in_form.no_fault,
        (failed_within (operator_line (length (commands scene.operator_stream.used)) (length scene.state.journal) (operator_end_of rules scene.operator_stream)) stations).front,
      ),
    )

pub returns-in-Ok-write_operator-clause-whole : goal.returns-in-Ok-write_operator-clause-whole
returns-in-Ok-write_operator-clause-whole g c = λ refused text h.
    let rules = rules_meant c.args.self.now.rules in
    let scene : Scene = scene_after rules refused text in
    let hears : AreHearing rules 0 c.as_mut_slice.result.now scene.listeners = rw c.as_mut_slice.ensures.value h.holds.hears in
    let last = c.finish-end.ensures.end rules _ _ _ h.holds.obeys in
    let line = operator_line_is _ _ _ _ _ _ (c.commands.ensures rules (shelf_of c.args.self.now.catalogue) scene.operator_stream scene.state (rw c.finish-end.ensures.changes_nothing h.holds.obeys)) (c.version.ensures ∙ ap (λ p. p.0) h.holds.obeys.shelf.base) last in
    let operator = subst (λ t. HasWritten g.K.Sink t c.write_stations.new.out c.write_operator.new.sink) line c.in-Ok-write_operator.ensures.whole in (
      between rules c.args.self.now refused text h _ c.finish.result (c.finish.ensures.ends text h.read) c.in_default.not-Err,
      ended_is rules refused text h.in_form.no_fault
          ∙ in_order_is rules c.args.self.now scene h.holds c.in-Ok.ended c.finish-end.result (c.in-Ok.ensures.ended rules scene.listeners hears) last ∙ ap (λ t. c.in-Ok.ended && t) (sym c.is_in_order.ensures),
      (summary rules scene, whole_is rules refused text h.in_form.no_fault, (written-append (c.in-Ok.ensures.whole rules scene.listeners hears) operator).appended),
    )

pub returns-in-Err-write_operator-clause-torn : goal.returns-in-Err-write_operator-clause-torn
returns-in-Err-write_operator-clause-torn g c = λ is refused text h.
    let rules = rules_meant c.args.self.now.rules in
    let scene : Scene = scene_after rules refused text in
    let hears : AreHearing rules 0 c.as_mut_slice.result.now scene.listeners = rw c.as_mut_slice.ensures.value h.holds.hears in
    let last = c.finish-end.ensures.end rules _ _ _ h.holds.obeys in
    let line = operator_line_is _ _ _ _ _ _ (c.commands.ensures rules (shelf_of c.args.self.now.catalogue) scene.operator_stream scene.state (rw c.finish-end.ensures.changes_nothing h.holds.obeys)) (c.version.ensures ∙ ap (λ p. p.0) h.holds.obeys.shelf.base) last in
    let operator = subst (λ t. HasFailed g.K.Sink t c.write_stations.new.out c.write_operator.new.sink) line c.in-Err-write_operator.ensures.torn in (
      between rules c.args.self.now refused text h _ c.finish.result (c.finish.ensures.ends text h.read) c.in_default.not-Err,
      (summary rules scene, whole_is rules refused text h.in_form.no_fault, (failed_behind (c.in-Ok.ensures.whole rules scene.listeners hears) operator).front),
    )
