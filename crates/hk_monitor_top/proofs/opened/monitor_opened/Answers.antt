use Rattle.std.proofs.Common.{◌≡◌, ◌∙◌, true, All, length, refl, sym, ap, subst, arith}
use Rattle.std.specs.Prelude.{is_some, vec_capacity}
use Rattle.std.proofs.lemmas.Option.{slice_get-get_or}
use Rattle.hk_spec_monitor.proofs.Legal.{some_of}
use Rattle.hk_station.specs.Hearing.{kept_end}
use Rattle.hk_monitor.specs.Crew.{run_of}
use Rattle.hk_monitor.proofs.Gathering.{entry}
use Rattle.hk_monitor_top.specs.Ends.{TellEnds}
use Rattle.hk_monitor_top.specs.Ready.{rules_by}
use Rattle.hk_monitor_top.proofs.AtDoor.{all_over, clerk_over, pairs_many, stations_many', gates_many, all_hearing, ends_told, has_monitored, has_all, same_operator}
use Rattle.hk_monitor_top.proofs.opened.monitor_opened.Goals as goal

pub run_rows-requires-clause-going : goal.run_rows-requires-clause-going
run_rows-requires-clause-going g c = λ l lives k d inside.
    (c.requires.manned.numbered k _ (slice_get-get_or c.args.ready.rows.stations.items k d inside)).1.end_is

pub run_rows-requires-clause-new : goal.run_rows-requires-clause-new
run_rows-requires-clause-new g c = λ l lives.
    (rules_by c.args.plan.now, all_hearing (rules_by c.args.plan.now) c.args.ready.rows.stations.items c.requires.manned.numbered, c.requires.manned.operator)

pub tell_ends-requires-clause-over : goal.tell_ends-requires-clause-over
tell_ends-requires-clause-over g c =
    subst (All (λ station. is_some (kept_end station) ≡ true)) (sym c.deref.ensures.value)
    (all_over
    g.D.Link.Link g.D.Log.Sink g.D.Gate.Gate.faults g.D.Calls.Source g.D.Replies.Sink c.args.plan.now c.requires.fits c.args.ready.rows c.run_rows.new.rows
    c.requires.manned.full c.requires.manned.worker_each _ c.run_rows.new.clerk c.run_rows.new.desk
    (c.run_rows.ensures.ran (rules_by c.args.plan.now) (all_hearing (rules_by c.args.plan.now) c.args.ready.rows.stations.items c.requires.manned.numbered) c.requires.manned.operator))

pub tell_ends-requires-clause-none : goal.tell_ends-requires-clause-none
tell_ends-requires-clause-none g c = ap (λ ends. ends.items) c.run_rows.ensures.ends ∙ c.requires.manned.no_end

pub tell_ends-requires-clause-room : goal.tell_ends-requires-clause-room
tell_ends-requires-clause-room g c =
    let many = stations_many'
    g.D.Link.Link g.D.Log.Sink g.D.Gate.Gate.faults g.D.Calls.Source g.D.Replies.Sink c.args.plan.now c.requires.fits c.args.ready.rows c.run_rows.new.rows
    c.requires.manned.full c.requires.manned.worker_each _ c.run_rows.new.clerk c.run_rows.new.desk
    (c.run_rows.ensures.ran (rules_by c.args.plan.now) (all_hearing (rules_by c.args.plan.now) c.args.ready.rows.stations.items c.requires.manned.numbered) c.requires.manned.operator) in
    let ends = ap vec_capacity c.run_rows.ensures.ends in
    let here = ap length c.deref.ensures.value in
    let room = c.requires.manned.ends_room in
    omega (arith, many, ends, here, room)

pub tell_operator-operator-requires : goal.tell_operator-operator-requires
tell_operator-operator-requires g c = record {
  ended = clerk_over
      g.D.Link.Link g.D.Log.Sink g.D.Gate.Gate.faults g.D.Calls.Source g.D.Replies.Sink c.args.plan.now c.requires.fits c.args.ready.rows c.run_rows.new.rows
      c.requires.manned.full c.requires.manned.worker_each _ c.run_rows.new.clerk c.run_rows.new.desk
      (c.run_rows.ensures.ran (rules_by c.args.plan.now) (all_hearing (rules_by c.args.plan.now) c.args.ready.rows.stations.items c.requires.manned.numbered) c.requires.manned.operator);
}

pub return_all-requires-clause-stations_out : goal.return_all-requires-clause-stations_out
return_all-requires-clause-stations_out g c = λ l lives n inside.
    let many = pairs_many
    g.D.Link.Link g.D.Log.Sink g.D.Gate.Gate.faults g.D.Calls.Source g.D.Replies.Sink c.args.plan.now c.requires.fits c.args.ready.rows c.run_rows.new.rows
    c.requires.manned.full c.requires.manned.worker_each _ c.run_rows.new.clerk c.run_rows.new.desk
    (c.run_rows.ensures.ran (rules_by c.args.plan.now) (all_hearing (rules_by c.args.plan.now) c.args.ready.rows.stations.items c.requires.manned.numbered) c.requires.manned.operator) in
    let each = c.requires.manned.full.pair_each in
    let pair = entry c.args.ready.rows.pairs.items n (omega (arith, inside, many, each)) in
    c.requires.opened.1.stations.out n pair.0 pair.1

pub return_all-requires-clause-gates_out : goal.return_all-requires-clause-gates_out
return_all-requires-clause-gates_out g c = λ l lives w inside.
    let many = gates_many
    g.D.Link.Link g.D.Log.Sink g.D.Gate.Gate.faults g.D.Calls.Source g.D.Replies.Sink c.args.plan.now c.requires.fits c.args.ready.rows c.run_rows.new.rows
    c.requires.manned.full c.requires.manned.worker_each _ c.run_rows.new.clerk c.run_rows.new.desk
    (c.run_rows.ensures.ran (rules_by c.args.plan.now) (all_hearing (rules_by c.args.plan.now) c.args.ready.rows.stations.items c.requires.manned.numbered) c.requires.manned.operator) in
    let each = c.requires.manned.worker_each in
    let gate = entry c.args.ready.rows.gates.items w (omega (arith, inside, many, each)) in
    c.requires.opened.1.gates.out w gate.0 gate.1

pub return_all-requires-clause-few_stations : goal.return_all-requires-clause-few_stations
return_all-requires-clause-few_stations g c = λ l lives.
    let many = pairs_many
    g.D.Link.Link g.D.Log.Sink g.D.Gate.Gate.faults g.D.Calls.Source g.D.Replies.Sink c.args.plan.now c.requires.fits c.args.ready.rows c.run_rows.new.rows
    c.requires.manned.full c.requires.manned.worker_each _ c.run_rows.new.clerk c.run_rows.new.desk
    (c.run_rows.ensures.ran (rules_by c.args.plan.now) (all_hearing (rules_by c.args.plan.now) c.args.ready.rows.stations.items c.requires.manned.numbered) c.requires.manned.operator) in
    let few = c.requires.fits.stations in
    omega (arith, many, few)

pub return_all-requires-clause-few_gates : goal.return_all-requires-clause-few_gates
return_all-requires-clause-few_gates g c = λ l lives.
    let many = gates_many
    g.D.Link.Link g.D.Log.Sink g.D.Gate.Gate.faults g.D.Calls.Source g.D.Replies.Sink c.args.plan.now c.requires.fits c.args.ready.rows c.run_rows.new.rows
    c.requires.manned.full c.requires.manned.worker_each _ c.run_rows.new.clerk c.run_rows.new.desk
    (c.run_rows.ensures.ran (rules_by c.args.plan.now) (all_hearing (rules_by c.args.plan.now) c.args.ready.rows.stations.items c.requires.manned.numbered) c.requires.manned.operator) in
    let few = c.requires.fits.workers in
    omega (arith, many, few)

pub returns-clause-back : goal.returns-clause-back
returns-clause-back g c = λ before opened.
    has_all
    g.D.Link.Link g.D.Log.Sink g.D.Gate.Gate.faults g.D.Calls.Source g.D.Replies.Sink c.args.plan.now c.requires.fits c.args.ready.rows c.run_rows.new.rows
    c.requires.manned.full c.requires.manned.worker_each _ c.run_rows.new.clerk c.run_rows.new.desk
    (c.run_rows.ensures.ran (rules_by c.args.plan.now) (all_hearing (rules_by c.args.plan.now) c.args.ready.rows.stations.items c.requires.manned.numbered) c.requires.manned.operator)
    c.requires.manned.numbered c.args.handed refl refl before _ _ opened c.return_all.ensures.stations c.return_all.ensures.gates c.return_all.ensures.operator c.return_all.ensures.same
    c.args.ready.desk c.requires.manned.start c.run_rows.ensures.home c.run_rows.ensures.limits

pub returns-clause-ran : goal.returns-clause-ran
returns-clause-ran g c = λ before opened.
    let ran = (c.run_rows.ensures.ran (rules_by c.args.plan.now) (all_hearing (rules_by c.args.plan.now) c.args.ready.rows.stations.items c.requires.manned.numbered) c.requires.manned.operator) in
    let did = ran.ran.clerk_did in (
      _,
      run_of ran.heard ran.operator c.run_rows.new.desk.published,
      c.keep.ensures,
      has_monitored
          g.D.Link.Link g.D.Log.Sink g.D.Gate.Gate.faults g.D.Calls.Source g.D.Replies.Sink c.args.plan.now c.requires.fits c.args.ready.rows c.run_rows.new.rows
          c.requires.manned.full c.requires.manned.worker_each _ c.run_rows.new.clerk c.run_rows.new.desk
          (c.run_rows.ensures.ran (rules_by c.args.plan.now) (all_hearing (rules_by c.args.plan.now) c.args.ready.rows.stations.items c.requires.manned.numbered) c.requires.manned.operator)
          c.requires.manned.numbered c.args.handed refl refl before _ _ opened c.return_all.ensures.stations c.return_all.ensures.gates c.return_all.ensures.operator c.return_all.ensures.same
          c.args.ready.desk c.requires.manned.start c.run_rows.ensures.home c.run_rows.ensures.limits,
      c.write_summary.ensures (run_of ran.heard ran.operator c.run_rows.new.desk.published) (record {
        stations_are = c.deref-2.ensures.value ∙ ends_told
            g.D.Link.Link g.D.Log.Sink g.D.Gate.Gate.faults g.D.Calls.Source g.D.Replies.Sink c.args.plan.now c.requires.fits c.args.ready.rows c.run_rows.new.rows
            c.requires.manned.full c.requires.manned.worker_each _ c.run_rows.new.clerk c.run_rows.new.desk
            (c.run_rows.ensures.ran (rules_by c.args.plan.now) (all_hearing (rules_by c.args.plan.now) c.args.ready.rows.stations.items c.requires.manned.numbered) c.requires.manned.operator)
            c.requires.manned.numbered c.tell_ends.new.ends.items (subst (λ stations. TellEnds stations c.tell_ends.new.ends.items) c.deref.ensures.value c.tell_ends.ensures);
        operator_is = same_operator c.tell_operator-operator.result _ (c.tell_operator-operator.ensures.commands (rules_by c.args.plan.now) _ c.run_rows.new.desk ran.operator did)
            (c.tell_operator-operator.ensures.published ∙ c.version.ensures)
            (some_of _ _ (sym c.tell_operator-operator.ensures.end ∙ did.end));
      }),
    )
