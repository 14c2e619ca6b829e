use Rattle.hk_monitor_top.specs.Ready.{setup_by}
use Rattle.hk_monitor_top.proofs.top.monitor_top.Goals as goal

pub returns-in-Ok-clause-ran : goal.returns-in-Ok-clause-ran
returns-in-Ok-clause-ran g c = λ of_a_run.
    let h = c.monitor_plan.ensures.ran of_a_run in
    (setup_by c.in-Ok.plan, h.0, h.1, c.in-Ok.ensures.plan, h.2, h.3, h.4)

pub returns-in-Ok-clause-refused_by_door : goal.returns-in-Ok-clause-refused_by_door
returns-in-Ok-clause-refused_by_door g c = λ refused started.
    (setup_by c.in-Ok.plan, c.in-Ok.ensures.plan, c.monitor_plan.ensures.refused_by_door refused started)
