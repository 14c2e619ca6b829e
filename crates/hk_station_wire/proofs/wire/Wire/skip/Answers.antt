use Rattle.hk_spec_streams.specs.Station.{station_met}
use Rattle.hk_station_wire.proofs.Sounding.{behind}
use Rattle.hk_station_wire.proofs.wire.Wire.skip.Goals as goal

pub returns-clause-taken : goal.returns-clause-taken
returns-clause-taken c = λ text bytes h ahead count.
    let all = behind bytes c.args.self.now.passage.limit text ahead in
    record {
      keeps = c.advance_by.ensures.keeps station_met text bytes c.requires.going h.keeps count all.ahead.no_fault;
      stands = λ none. c.skip.ensures.stands c.args.self.now.passage.limit text bytes (h.stands c.requires.going) ahead count;
    }
