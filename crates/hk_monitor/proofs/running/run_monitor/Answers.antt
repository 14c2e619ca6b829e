use Rattle.std.proofs.Common.{◌≡◌, refl, sym, ◌∙◌, subst₂}
use Rattle.hk_monitor.specs.Crew.{NoneIsOver, IsFirstOver}
use Rattle.hk_monitor.proofs.Gathering.{each_of_slice, each_of_written}
use Rattle.hk_monitor.proofs.Firsts.{none_is_over, is_first_over}
use Rattle.hk_monitor.proofs.Workers.{HasManned, ran_by, seen_by, rooms_by}
use Rattle.hk_monitor.proofs.running.run_monitor.Goals as goal

pub returns-in-None-clause-ran : goal.returns-in-None-clause-ran
returns-in-None-clause-ran g c =
    ran_by c.what_a_served_seat_did.ensures (λ r. refl) c.args.crew.now.items c.run_beside.new.crew c.close_all.new.crew.items c.args.clerk.now c.run_beside.new.clerk c.args.desk.now c.run_beside.new.desk
    c.requires.crew
    (each_of_slice _ c.as_mut_slice.result.now c.args.crew.now.items c.run_beside.new.crew c.as_mut_slice.ensures.value c.run_beside.ensures.len c.run_beside.ensures.each)
    c.run_beside.ensures.clerk
    (each_of_written _ c.args.crew.now.items c.run_beside.new.crew c.close_all.new.crew.items c.args.crew.now.len (c.run_beside.ensures.len ∙ c.as_mut_slice.ensures.len) c.close_all.ensures)

pub returns-in-None-clause-rooms : goal.returns-in-None-clause-rooms
returns-in-None-clause-rooms g c =
    rooms_by {link = g.D.Link.Link} {sink = g.D.Log.Sink} g.D.Gate.Gate.faults c.run_beside.new.desk.published c.args.crew.now.items c.run_beside.new.crew c.close_all.new.crew.items
    (each_of_slice (HasManned g.D.Link.Link g.D.Log.Sink _ g.D.Gate.Gate.faults) c.as_mut_slice.result.now c.args.crew.now.items c.run_beside.new.crew c.as_mut_slice.ensures.value c.run_beside.ensures.len c.run_beside.ensures.each)
    (each_of_written _ c.args.crew.now.items c.run_beside.new.crew c.close_all.new.crew.items c.args.crew.now.len (c.run_beside.ensures.len ∙ c.as_mut_slice.ensures.len) c.close_all.ensures)

pub returns-in-None-clause-readings : goal.returns-in-None-clause-readings
returns-in-None-clause-readings g c =
    seen_by {link = g.D.Link.Link} {sink = g.D.Log.Sink} g.D.Gate.Gate.faults c.args.crew.now.items c.run_beside.new.crew c.close_all.new.crew.items c.run_beside.new.desk
    (each_of_slice (HasManned g.D.Link.Link g.D.Log.Sink _ g.D.Gate.Gate.faults) c.as_mut_slice.result.now c.args.crew.now.items c.run_beside.new.crew c.as_mut_slice.ensures.value c.run_beside.ensures.len c.run_beside.ensures.each)
    (λ r. refl)
    (each_of_written _ c.args.crew.now.items c.run_beside.new.crew c.close_all.new.crew.items c.args.crew.now.len (c.run_beside.ensures.len ∙ c.as_mut_slice.ensures.len) c.close_all.ensures)

pub returns-in-None-clause-within : goal.returns-in-None-clause-within
returns-in-None-clause-within g c =
    subst₂ NoneIsOver c.version.ensures c.deref.ensures.value (none_is_over c.version.result c.deref.result.now (sym c.first_over.ensures ∙ c.in-None.is))

pub returns-in-Some-clause-ran : goal.returns-in-Some-clause-ran
returns-in-Some-clause-ran g c =
    ran_by c.what_a_served_seat_did.ensures (λ r. refl) c.args.crew.now.items c.run_beside.new.crew c.close_all.new.crew.items c.args.clerk.now c.run_beside.new.clerk c.args.desk.now c.run_beside.new.desk
    c.requires.crew
    (each_of_slice _ c.as_mut_slice.result.now c.args.crew.now.items c.run_beside.new.crew c.as_mut_slice.ensures.value c.run_beside.ensures.len c.run_beside.ensures.each)
    c.run_beside.ensures.clerk
    (each_of_written _ c.args.crew.now.items c.run_beside.new.crew c.close_all.new.crew.items c.args.crew.now.len (c.run_beside.ensures.len ∙ c.as_mut_slice.ensures.len) c.close_all.ensures)

pub returns-in-Some-clause-rooms : goal.returns-in-Some-clause-rooms
returns-in-Some-clause-rooms g c =
    rooms_by {link = g.D.Link.Link} {sink = g.D.Log.Sink} g.D.Gate.Gate.faults c.run_beside.new.desk.published c.args.crew.now.items c.run_beside.new.crew c.close_all.new.crew.items
    (each_of_slice (HasManned g.D.Link.Link g.D.Log.Sink _ g.D.Gate.Gate.faults) c.as_mut_slice.result.now c.args.crew.now.items c.run_beside.new.crew c.as_mut_slice.ensures.value c.run_beside.ensures.len c.run_beside.ensures.each)
    (each_of_written _ c.args.crew.now.items c.run_beside.new.crew c.close_all.new.crew.items c.args.crew.now.len (c.run_beside.ensures.len ∙ c.as_mut_slice.ensures.len) c.close_all.ensures)

pub returns-in-Some-clause-readings : goal.returns-in-Some-clause-readings
returns-in-Some-clause-readings g c =
    seen_by {link = g.D.Link.Link} {sink = g.D.Log.Sink} g.D.Gate.Gate.faults c.args.crew.now.items c.run_beside.new.crew c.close_all.new.crew.items c.run_beside.new.desk
    (each_of_slice (HasManned g.D.Link.Link g.D.Log.Sink _ g.D.Gate.Gate.faults) c.as_mut_slice.result.now c.args.crew.now.items c.run_beside.new.crew c.as_mut_slice.ensures.value c.run_beside.ensures.len c.run_beside.ensures.each)
    (λ r. refl)
    (each_of_written _ c.args.crew.now.items c.run_beside.new.crew c.close_all.new.crew.items c.args.crew.now.len (c.run_beside.ensures.len ∙ c.as_mut_slice.ensures.len) c.close_all.ensures)

pub returns-in-Some-clause-mismatch : goal.returns-in-Some-clause-mismatch
returns-in-Some-clause-mismatch g c =
    subst₂ (λ n crew. IsFirstOver n crew c.in-Some.mismatch) c.version.ensures c.deref.ensures.value
    (is_first_over c.version.result c.deref.result.now c.in-Some.mismatch (sym c.first_over.ensures ∙ c.in-Some.is))
