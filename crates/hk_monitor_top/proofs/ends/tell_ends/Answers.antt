use Rattle.std.proofs.Common.{◌≡◌, ℕ, List, Some, length, refl, sym, subst, arith}
use Rattle.std.specs.Prelude.{slice_get}
use Rattle.std.proofs.lemmas.Option.{slice_get_read}
use Rattle.hk_station.specs.declared.station.Station.{Station}
use Rattle.hk_summary.specs.declared.ends.StationEnd.{StationEnd}
use Rattle.hk_monitor_top.specs.Ends.{TellsEnd}
use Rattle.hk_monitor_top.proofs.Rows.{told_more}
use Rattle.hk_monitor_top.proofs.ends.tell_ends.Goals as goal

pub loop-station-preserved : goal.loop-station-preserved
loop-station-preserved c =
    let before = c.loop-station.invariant in
    let stations = c.args.stations.now in
    record {
      count = omega (arith, c.push_reserved.ensures.len, c.loop-station.ends.ok.0, c.push_reserved.new.self.ok.0, before.count);
      room = omega (arith, c.push_reserved.ensures.capacity, before.room);
      told = subst (λ (es : List StationEnd). (n : ℕ) (s : Station) (e : StationEnd) → slice_get stations n ≡ Some s → slice_get es n ≡ Some e → TellsEnd s e) (sym c.push_reserved.ensures.items)
          (told_more stations c.station-item.result c.loop-station.ends.items c.end_of.result before.told
          (subst (λ (k : ℕ). slice_get stations k ≡ Some c.station-item.result) (sym before.count) (slice_get_read stations (length stations) c.loop-station.station-index c.station-item.result refl c.loop-station-test.true c.station-item.is))
          c.end_of.ensures);
    }
