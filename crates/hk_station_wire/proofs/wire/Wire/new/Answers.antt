use Rattle.hk_station_wire.proofs.wire.Wire.new.Goals as goal

pub returns-clause-nothing_taken : goal.returns-clause-nothing_taken
returns-clause-nothing_taken c = record { keeps = c.new.ensures.keeps _; stands = λ none. c.new-2.ensures.stands }
