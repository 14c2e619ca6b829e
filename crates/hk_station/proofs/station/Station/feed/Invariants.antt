use Rattle.std.proofs.Common.{◌≡◌, ◌≤◌, List, length, take, None}
use Rattle.hk_spec_runs.specs.Listening.{Instant, bytes_in}
use Rattle.hk_station.specs.Feeding.{HasHeard}
use Rattle.hk_station.proofs.station.Station.feed.Given as goal

-- the front of the piece was heard, at least one byte a turn, and the station goes on
abbrev pub invariant-loop-turn : goal.invariant-loop-turn
invariant-loop-turn g l = record {
  inside : l.at ≤ length l.piece;
  further : l._turn ≤ l.at;
  heard : (instants : List Instant) × (bytes_in instants ≡ take l.at l.piece)
      × HasHeard g.V.Looker g.K.Sink instants l.fn.self l.self l.fn.view l.view l.fn.log l.log l.fn.steps l.steps;
  going : l.self.end ≡ None;
  room : l.scratch.room ≡ l.fn.scratch.room;
}
