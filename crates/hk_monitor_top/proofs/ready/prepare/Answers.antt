use Rattle.std.proofs.Common.{◌≡◌, ◌∙◌, refl, sym, ap, subst}
use Rattle.std.specs.List.{All}
use Rattle.hk_spec_runs.specs.OperatorState.{new_state}
use Rattle.hk_publish.specs.Known.{new_known}
use Rattle.hk_publish.specs.Holding.{Holding, shelf_of}
use Rattle.hk_clerk.proofs.Attending.{new_desk_fits}
use Rattle.hk_monitor_top.specs.Ready.{rules_by}
use Rattle.hk_monitor_top.proofs.ready.prepare.Goals as goal

pub returns : goal.returns
returns g c =
    let limits = ap (λ (desk : Holding). desk.limits) c.in_ok-desk.ensures.desk in
    record {
      room = record {
        no_pair = c.in_ok-pairs.ensures.empty;
        no_gate = c.in_ok-gates.ensures.empty;
        no_crew = c.in_ok-crew.ensures.empty;
        no_end = c.in_ok-ends.ensures.empty;
        pairs = c.in_ok-pairs.ensures.room;
        gates = c.in_ok-gates.ensures.room;
        crew = c.in_ok-crew.ensures.room;
        ends = c.in_ok-ends.ensures.room;
        bench_each = sym c.in_ok-benches.benches.ok.0 ∙ c.in_ok-benches.ensures.count;
        benches = c.in_ok-benches.ensures.empty;
        station_each = sym c.in_ok-stations.stations.ok.0 ∙ c.in_ok-stations.ensures.count;
        reading_each = sym c.in_ok-desk.readings.ok.0 ∙ c.in_ok-desk.ensures.count;
      };
      numbered = c.in_ok-stations.ensures.numbered;
      start = record {
        desk_is = c.in_ok-desk.ensures.desk;
        readings_are = subst (λ l. All (λ reading. reading ≡ new_known c.in_ok-desk.desk.home l) c.in_ok-desk.readings.items) limits c.in_ok-desk.ensures.readings;
      };
      operator = c.in_ok-operator.ensures (rules_by c.args.plan.now) (shelf_of c.in_ok-desk.desk) new_state (record { block_size = refl; errors = refl; analysis = refl })
          refl refl refl (new_desk_fits (rules_by c.args.plan.now) c.in_ok-desk.desk c.in_ok-desk.ensures.desk);
    }
