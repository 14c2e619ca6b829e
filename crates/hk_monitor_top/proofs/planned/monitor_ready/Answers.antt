use Rattle.std.proofs.Common.{◌≡◌, ◌∙◌, ◌⊎◌, inr, sym, ap, subst}
use Rattle.hk_monitor_top.specs.Ready.{setup_by}
use Rattle.hk_monitor_top.specs.Statuses.{NO_MEMORY, DOOR_FAULT, IsOfRun, code_of, refusal_by}
use Rattle.hk_monitor_top.proofs.Deciding.{of_run, not_refused, known_fault, refused_by, fault_rose, no_fault, asked_refused, asked_all}
use Rattle.hk_monitor_top.proofs.Returning.{used_back}
use Rattle.hk_monitor_top.proofs.planned.monitor_ready.Goals as goal

pub returns-in-Ok-clause-known : goal.returns-in-Ok-clause-known
returns-in-Ok-clause-known g c =
    let ran = c.monitor_opened.ensures.ran (g.D.Door.doorway c.args.door.now) (record { start = c.in-Ok.ensures.start; plan_is = c.in-Ok.ensures.plan; calls = c.in-Ok.ensures.calls; stations = c.in-Ok.ensures.stations; gates = c.in-Ok.ensures.gates; operator = c.in-Ok.ensures.operator }) in
    inr (inr (of_run c.monitor_opened.result.code _ _ _ _ ran.1 ran.4))

pub returns-in-Ok-clause-refused_unused : goal.returns-in-Ok-clause-refused_unused
returns-in-Ok-clause-refused_unused g c = λ refused.
    let ran = c.monitor_opened.ensures.ran (g.D.Door.doorway c.args.door.now) (record { start = c.in-Ok.ensures.start; plan_is = c.in-Ok.ensures.plan; calls = c.in-Ok.ensures.calls; stations = c.in-Ok.ensures.stations; gates = c.in-Ok.ensures.gates; operator = c.in-Ok.ensures.operator }) in
    not_refused c.monitor_opened.result.code (of_run c.monitor_opened.result.code _ _ _ _ ran.1 ran.4) refused

pub returns-in-Ok-clause-refused_unwritten : goal.returns-in-Ok-clause-refused_unwritten
returns-in-Ok-clause-refused_unwritten g c = λ refused.
    let ran = c.monitor_opened.ensures.ran (g.D.Door.doorway c.args.door.now) (record { start = c.in-Ok.ensures.start; plan_is = c.in-Ok.ensures.plan; calls = c.in-Ok.ensures.calls; stations = c.in-Ok.ensures.stations; gates = c.in-Ok.ensures.gates; operator = c.in-Ok.ensures.operator }) in
    not_refused c.monitor_opened.result.code (of_run c.monitor_opened.result.code _ _ _ _ ran.1 ran.4) refused

pub returns-in-Ok-clause-refused_unkept : goal.returns-in-Ok-clause-refused_unkept
returns-in-Ok-clause-refused_unkept g c = λ refused.
    let ran = c.monitor_opened.ensures.ran (g.D.Door.doorway c.args.door.now) (record { start = c.in-Ok.ensures.start; plan_is = c.in-Ok.ensures.plan; calls = c.in-Ok.ensures.calls; stations = c.in-Ok.ensures.stations; gates = c.in-Ok.ensures.gates; operator = c.in-Ok.ensures.operator }) in
    not_refused c.monitor_opened.result.code (of_run c.monitor_opened.result.code _ _ _ _ ran.1 ran.4) refused

pub returns-in-Ok-clause-door_fault : goal.returns-in-Ok-clause-door_fault
returns-in-Ok-clause-door_fault g c = λ is.
    let ran = c.monitor_opened.ensures.ran (g.D.Door.doorway c.args.door.now) (record { start = c.in-Ok.ensures.start; plan_is = c.in-Ok.ensures.plan; calls = c.in-Ok.ensures.calls; stations = c.in-Ok.ensures.stations; gates = c.in-Ok.ensures.gates; operator = c.in-Ok.ensures.operator }) in
    not_refused c.monitor_opened.result.code (of_run c.monitor_opened.result.code _ _ _ _ ran.1 ran.4) (inr (inr is))

pub returns-in-Ok-clause-asked : goal.returns-in-Ok-clause-asked
returns-in-Ok-clause-asked g c =
    asked_all (setup_by c.args.plan.now) _ (c.monitor_opened.ensures.same.start ∙ c.in-Ok.ensures.start) (c.monitor_opened.ensures.same.plan ∙ c.in-Ok.ensures.plan) (c.monitor_opened.ensures.same.calls ∙ c.in-Ok.ensures.calls)

pub returns-in-Ok-clause-refused_by_door : goal.returns-in-Ok-clause-refused_by_door
returns-in-Ok-clause-refused_by_door g c = λ refused.
    let ran = c.monitor_opened.ensures.ran (g.D.Door.doorway c.args.door.now) (record { start = c.in-Ok.ensures.start; plan_is = c.in-Ok.ensures.plan; calls = c.in-Ok.ensures.calls; stations = c.in-Ok.ensures.stations; gates = c.in-Ok.ensures.gates; operator = c.in-Ok.ensures.operator }) in
    not_refused c.monitor_opened.result.code (of_run c.monitor_opened.result.code _ _ _ _ ran.1 ran.4) refused

pub returns-in-Ok-clause-all_back : goal.returns-in-Ok-clause-all_back
returns-in-Ok-clause-all_back g c =
    let ran = c.monitor_opened.ensures.ran (g.D.Door.doorway c.args.door.now) (record { start = c.in-Ok.ensures.start; plan_is = c.in-Ok.ensures.plan; calls = c.in-Ok.ensures.calls; stations = c.in-Ok.ensures.stations; gates = c.in-Ok.ensures.gates; operator = c.in-Ok.ensures.operator }) in
    used_back _ _ _ ran.3.used

pub returns-in-Ok-clause-handed_back : goal.returns-in-Ok-clause-handed_back
returns-in-Ok-clause-handed_back g c = c.monitor_opened.ensures.back (g.D.Door.doorway c.args.door.now) (record { start = c.in-Ok.ensures.start; plan_is = c.in-Ok.ensures.plan; calls = c.in-Ok.ensures.calls; stations = c.in-Ok.ensures.stations; gates = c.in-Ok.ensures.gates; operator = c.in-Ok.ensures.operator })

pub returns-in-Ok-clause-ran : goal.returns-in-Ok-clause-ran
returns-in-Ok-clause-ran g c = λ of_a_run. c.monitor_opened.ensures.ran (g.D.Door.doorway c.args.door.now) (record { start = c.in-Ok.ensures.start; plan_is = c.in-Ok.ensures.plan; calls = c.in-Ok.ensures.calls; stations = c.in-Ok.ensures.stations; gates = c.in-Ok.ensures.gates; operator = c.in-Ok.ensures.operator })

pub returns-in-Err-clause-known : goal.returns-in-Err-clause-known
returns-in-Err-clause-known g c =
    subst (λ code. (code ≡ NO_MEMORY) ⊎ (code ≡ DOOR_FAULT) ⊎ IsOfRun code) (sym (c.status.ensures ∙ ap code_of c.refusal_by.ensures)) (known_fault c.in-Err.fault)

pub returns-in-Err-clause-door_fault : goal.returns-in-Err-clause-door_fault
returns-in-Err-clause-door_fault g c = λ is.
    fault_rose (g.row.D-Calls.Denot × g.row.D-Replies.Denot) _ c.in-Err.fault c.in-Err.ensures.cause (sym (c.status.ensures ∙ ap code_of c.refusal_by.ensures) ∙ is)

pub returns-in-Err-clause-no_door_failed : goal.returns-in-Err-clause-no_door_failed
returns-in-Err-clause-no_door_failed g c = λ other.
    no_fault (g.row.D-Calls.Denot × g.row.D-Replies.Denot) _ c.in-Err.fault c.in-Err.ensures.counts_failures (λ is. other (c.status.ensures ∙ ap code_of c.refusal_by.ensures ∙ is))

pub returns-in-Err-clause-asked : goal.returns-in-Err-clause-asked
returns-in-Err-clause-asked g c = asked_refused (setup_by c.args.plan.now) _ c.in-Err.ensures.plan_told c.in-Err.ensures.refused

pub returns-in-Err-clause-ran : goal.returns-in-Err-clause-ran
returns-in-Err-clause-ran g c = λ of_a_run.
    not_refused (code_of (refusal_by c.in-Err.fault)) (subst IsOfRun (c.status.ensures ∙ ap code_of c.refusal_by.ensures) of_a_run) (refused_by c.in-Err.fault)
