use Rattle.std.proofs.Common.{refl, ap, slice_set}
use Rattle.hk_outside.specs.Doors.{Pair}
use Rattle.hk_outside.specs.declared.door.Ask.TheVariants as asks
use Rattle.hk_outside.specs.declared.place.Place.TheVariants as places
use Rattle.hk_outside.proofs.Handing.{station_at, station_other, station_outside}
use Rattle.hk_outside.proofs.memory_door.MemoryDoorDoor.return_station.Goals as goal

pub returns-clause-back : goal.returns-clause-back
returns-clause-back c =
    let old = c.args.self.now.stations.items in
    let back = places.Back (c.args.link, c.args.log) in
    let new = slice_set old c.args.number back in
    record {
      start = refl;
      plan = refl;
      faults = refl;
      calls = refl;
      back = ap (λ (p : Pair). p.held) (station_at new old c.args.number back refl (station_outside old c.args.number c.requires));
      others = record {
        stations = λ n other. station_other new old c.args.number n back refl (λ same. other (ap asks.Station same));
        operator = λ other. refl;
        gates = λ w other. refl;
      };
    }

pub returns-clause-link : goal.returns-clause-link
returns-clause-link c =
    let old = c.args.self.now.stations.items in
    let back = places.Back (c.args.link, c.args.log) in
    ap (λ (p : Pair). p.gives) (station_at (slice_set old c.args.number back) old c.args.number back refl (station_outside old c.args.number c.requires))

pub returns-clause-log : goal.returns-clause-log
returns-clause-log c =
    let old = c.args.self.now.stations.items in
    let back = places.Back (c.args.link, c.args.log) in
    ap (λ (p : Pair). p.takes) (station_at (slice_set old c.args.number back) old c.args.number back refl (station_outside old c.args.number c.requires))
