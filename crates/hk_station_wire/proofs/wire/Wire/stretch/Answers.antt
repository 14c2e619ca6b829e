use Rattle.std.proofs.Common.{◌≡◌, ◌≤◌, ◌<◌, ◌-◌, ℕ, List, length, sym, ◌∙◌, arith}
use Rattle.hk_spec_streams.specs.Station.{station_met}
use Rattle.hk_wire.proofs.StillKept.{keeps_all}
use Rattle.hk_station_wire.specs.Taken.{HasTaken, limit_of}
use Rattle.hk_station_wire.specs.Sounding.{SoundAhead}
use Rattle.hk_station_wire.proofs.Sounding.{all_sound, room_tells}
use Rattle.hk_station_wire.proofs.wire.Wire.stretch.Goals as goal

ahead : (c : goal.After-min) (count : ℕ) (text : List ℕ) → HasTaken c.args.self.now text → 0 < count → count ≤ c.min.result
    → SoundAhead (limit_of c.args.self.now) text count
ahead c count text h some few =
    let room = room_tells c.args.self.now.passage.fault count (c.args.self.now.passage.limit - c.args.self.now.passage.taken) some
    (omega (arith, few, c.min.ensures, c.room.ensures)) in
    let taken : c.args.self.now.passage.taken ≡ length text = keeps_all station_met c.args.self.now.passage text 0 h.keeps room.0 in
    c.sound_ahead.ensures c.args.self.now.passage.limit count text (h.stands room.0) (sym h.keeps.fault_is ∙ room.0) some
    (omega (arith, few, c.min.ensures)) (omega (arith, taken, room.1, some))

pub returns-clause-ahead : goal.returns-clause-ahead
returns-clause-ahead c = ahead c

pub returns-clause-sound : goal.returns-clause-sound
returns-clause-sound c = λ text bytes h few. all_sound bytes c.args.self.now.passage.limit text (λ some. ahead c (length bytes) text h some few)
