use Rattle.hk_monitor_top.proofs.planned.monitor_plan.Goals as goal

pub returns-in-Ok-clause-refused_by_door : goal.returns-in-Ok-clause-refused_by_door
returns-in-Ok-clause-refused_by_door g c = λ refused started. c.monitor_ready.ensures.refused_by_door refused
