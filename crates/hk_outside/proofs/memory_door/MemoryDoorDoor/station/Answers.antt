use Rattle.std.proofs.Common.{refl, ap}
use Rattle.std.proofs.lemmas.Option.{slice_get_within}
use Rattle.hk_outside.specs.Doors.{Pair}
use Rattle.hk_outside.specs.Places.{IfInside, HasEmpty}
use Rattle.hk_outside.specs.declared.door.Ask.TheVariants as asks
use Rattle.hk_outside.specs.declared.place.Place.TheVariants as places
use Rattle.hk_outside.proofs.Handing.{all_at, taken_from, station_at, station_other}
use Rattle.hk_outside.proofs.memory_door.MemoryDoorDoor.station.Goals as goal

pub returns-in-Some-clause-ok : goal.returns-in-Some-clause-ok
returns-in-Some-clause-ok c =
    let old = c.args.self.now.stations.items in
    let new = c.take_nth.new.all.items in
    let within = slice_get_within old c.args.number (places.Inside c.in-Some.pair) (taken_from _ _ c.in-Some.pair c.in-Some.ensures.object) in
    record {
      asked = record { start = refl; plan = refl; calls = c.add_station.ensures };
      outside = ap (λ (p : Pair). p.held) (station_at new old c.args.number places.Outside c.in-Some.ensures.out within);
      others = record {
        stations = λ n other. station_other new old c.args.number n places.Outside c.in-Some.ensures.out (λ same. other (ap asks.Station same));
        operator = λ other. refl;
        gates = λ w other. refl;
      };
    }

pub returns-in-Some-clause-log_empty : goal.returns-in-Some-clause-log_empty
returns-in-Some-clause-log_empty c =
    all_at (IfInside HasEmpty) c.args.self.now.stations.items c.args.number (places.Inside c.in-Some.pair) c.args.self.now.logs
    (taken_from _ _ c.in-Some.pair c.in-Some.ensures.object) c.in-Some.pair refl
