use Rattle.std.proofs.Common.{refl, sym, ap, ◌∙◌, arith, [], ◌∷◌, ◌++◌, true, false}
use Rattle.std.proofs.lemmas.List.{get_or-set_same, get_or-set_other}
use Rattle.hk_outside.specs.declared.door.Ask.TheVariants as asks
use Rattle.hk_mio.specs.declared.door.Seat.TheVariants as seats
use Rattle.hk_mio.specs.Doors.{start_of, plan_told, calls_of, pair_at}
use Rattle.hk_mio.proofs.door.NetDoorDoor.station.Goals as goal

pub returns-in-Ok-clause-ok : goal.returns-in-Ok-clause-ok
returns-in-Ok-clause-ok g c = record {
  asked = record {
    start = sym (ap start_of c.take_opened-opened.ensures);
    plan = sym (ap plan_told c.take_opened-opened.ensures);
    calls = c.add_station.ensures ∙ ap (λ calls. calls ++ record { ask = (asks.Station c.args.number); ok = true } ∷ []) (sym (ap calls_of c.take_opened-opened.ensures));
  };
  outside = ap (λ seat. (pair_at seat).held) (get_or-set_same c.args.self.now.stations c.args.number seats.Outside seats.Inside (omega arith));
  others = record {
    stations = λ n other. ap pair_at (get_or-set_other c.args.self.now.stations c.args.number n seats.Outside seats.Inside (λ same. other (ap asks.Station same)));
    operator = λ other. refl;
    gates = λ w other. refl;
  };
}

pub returns-in-Err-clause-refused : goal.returns-in-Err-clause-refused
returns-in-Err-clause-refused g c = record {
  asked = record {
    start = sym (ap start_of c.take_opened-opened.ensures);
    plan = sym (ap plan_told c.take_opened-opened.ensures);
    calls = c.add_station-in-Err.ensures ∙ ap (λ calls. calls ++ record { ask = (asks.Station c.args.number); ok = false } ∷ []) (sym (ap calls_of c.take_opened-opened.ensures));
  };
  objects = record { stations = λ n. refl; operator = refl; gates = λ w. refl };
}
