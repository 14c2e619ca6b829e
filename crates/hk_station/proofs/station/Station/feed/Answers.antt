use Rattle.std.proofs.Common.{◌≤◌, ◌<◌, ◌+◌, ◌++◌, [], ◌∷◌, ℕ, List, length, take, drop, get_or, refl, sym, ◌∙◌, ap, arith}
use Rattle.std.proofs.lemmas.List.{map-append, take_all, take_more}
use Rattle.std.proofs.lemmas.Result.{on_ok_weaker, on_err_weaker}
use Rattle.hk_spec_streams.proofs.Optional.{on_ok}
use Rattle.hk_spec_runs.specs.Listening.{Instant, bytes_in}
use Rattle.hk_block.specs.Looker.{LookerView}
use Rattle.hk_station.specs.declared.station.Progress.TheVariants.{Over}
use Rattle.hk_station.specs.Feeding.{instant}
use Rattle.hk_station.specs.Outcome.{log_result}
use Rattle.hk_station.proofs.Feeding.{instants_at, bytes_at, none_heard, HasHeard-append, all_skipped, around_byte}
use Rattle.hk_station.proofs.Listening.{heard_further}
use Rattle.hk_station.proofs.Outcomes.{end_told, going_told}
use Rattle.hk_station.proofs.station.Station.feed.Goals as goal

pub returns-in-Some-clause-heard : goal.returns-in-Some-clause-heard
returns-in-Some-clause-heard g c =
    let view : LookerView = g.V.Looker.looker c.args.view.now in
    on_ok (log_result (Over c.in-Some.kept)) (
      instants_at view c.args.piece.now,
      bytes_at view c.args.piece.now,
      all_skipped c.args.piece.now c.args.self.now c.args.view.now c.args.log.now c.args.steps.now c.in-Some.kept c.in-Some.is,
    )

pub loop-turn-init : goal.loop-turn-init
loop-turn-init g c = record {
  inside = omega arith;
  further = omega arith;
  heard = ([], refl, none_heard c.args.self.now c.args.view.now c.args.log.now c.args.steps.now);
  going = c.in_default.is;
  room = refl;
}

pub loop-turn-preserved : goal.loop-turn-preserved
loop-turn-preserved g c =
    let piece : List ℕ = c.args.piece.now in
    let place : ℕ = c.loop-turn.at + c.listen-at.result in
    let inside : c.loop-turn.at + c.listen-at.result < length c.args.piece.now = omega arith in
    let before = c.loop-turn.invariant in
    let front = heard_further before.heard.0 piece c.loop-turn.at c.listen-at.result c.args.self.now c.loop-turn.self c.listen-at.new.self c.args.view.now c.loop-turn.view
    c.args.log.now c.loop-turn.log c.args.steps.now c.loop-turn.steps before.heard.1 before.heard.2 before.going c.listen-at.ensures.number_stays
    c.listen-at.ensures.hears c.listen-at.ensures.quiet in
    let i : Instant = instant (g.V.Looker.looker c.hear.new.view) (get_or piece place 0) in
    record {
      inside = omega arith;
      further = omega (arith, before.further);
      heard = (
        front.0 ++ i ∷ [],
        map-append (λ (j : Instant). j.byte) front.0 (i ∷ []) ∙ ap (λ (bytes : List ℕ). bytes ++ i.byte ∷ []) front.1 ∙ sym (take_more piece place 0 inside),
        HasHeard-append front.0 (i ∷ []) c.args.self.now c.listen-at.new.self c.hear.new.self c.args.view.now c.loop-turn.view c.hear.new.view
            c.args.log.now c.loop-turn.log c.hear.new.log c.args.steps.now c.loop-turn.steps c.hear.new.steps front.2 c.in-Going.ensures.heard,
      );
      going = going_told c.hear.new.self.end c.in-Going.ensures.tells;
      room = c.hear.ensures.scratch_room ∙ before.room;
    }

pub returns-in-Over-clause-heard : goal.returns-in-Over-clause-heard
returns-in-Over-clause-heard g c =
    let piece : List ℕ = c.args.piece.now in
    let place : ℕ = c.loop-turn.at + c.listen-at.result in
    let inside : c.loop-turn.at + c.listen-at.result < length c.args.piece.now = omega arith in
    let before = c.loop-turn.invariant in
    let front = heard_further before.heard.0 piece c.loop-turn.at c.listen-at.result c.args.self.now c.loop-turn.self c.listen-at.new.self c.args.view.now c.loop-turn.view
    c.args.log.now c.loop-turn.log c.args.steps.now c.loop-turn.steps before.heard.1 before.heard.2 before.going c.listen-at.ensures.number_stays
    c.listen-at.ensures.hears c.listen-at.ensures.quiet in
    let view : LookerView = g.V.Looker.looker c.hear.new.view in
    let i : Instant = instant view (get_or piece place 0) in
    let rest : List Instant = instants_at view (drop (place + 1) piece) in
    let ended = end_told c.hear.new.self.end c.in-Over.end c.in-Over.ensures.tells in
    on_ok_weaker (log_result (Over c.in-Over.end)) (λ one. (
      front.0 ++ i ∷ rest,
      map-append (λ (j : Instant). j.byte) front.0 (i ∷ rest) ∙ ap (λ (bytes : List ℕ). bytes ++ i.byte ∷ bytes_in rest) front.1
          ∙ ap (λ (bytes : List ℕ). take place piece ++ i.byte ∷ bytes) (bytes_at view (drop (place + 1) piece)) ∙ around_byte piece place inside,
      HasHeard-append front.0 (i ∷ rest) c.args.self.now c.listen-at.new.self c.hear.new.self c.args.view.now c.loop-turn.view c.hear.new.view
          c.args.log.now c.loop-turn.log c.hear.new.log c.args.steps.now c.loop-turn.steps c.hear.new.steps front.2
          (HasHeard-append (i ∷ []) rest c.listen-at.new.self c.hear.new.self c.hear.new.self c.loop-turn.view c.hear.new.view c.hear.new.view
          c.loop-turn.log c.hear.new.log c.hear.new.log c.loop-turn.steps c.hear.new.steps c.hear.new.steps one
          (all_skipped (drop (place + 1) piece) c.hear.new.self c.hear.new.view c.hear.new.log c.hear.new.steps c.in-Over.end ended)),
    ))
    c.in-Over.ensures.heard

pub returns-in-Over-clause-torn : goal.returns-in-Over-clause-torn
returns-in-Over-clause-torn g c = λ none.
    let piece : List ℕ = c.args.piece.now in
    let place : ℕ = c.loop-turn.at + c.listen-at.result in
    let inside : c.loop-turn.at + c.listen-at.result < length c.args.piece.now = omega arith in
    let before = c.loop-turn.invariant in
    let front = heard_further before.heard.0 piece c.loop-turn.at c.listen-at.result c.args.self.now c.loop-turn.self c.listen-at.new.self c.args.view.now c.loop-turn.view
    c.args.log.now c.loop-turn.log c.args.steps.now c.loop-turn.steps before.heard.1 before.heard.2 before.going c.listen-at.ensures.number_stays
    c.listen-at.ensures.hears c.listen-at.ensures.quiet in
    let i : Instant = instant (g.V.Looker.looker c.hear.new.view) (get_or piece place 0) in
    on_err_weaker (log_result (Over c.in-Over.end)) (λ torn. (
      front.0,
      i,
      drop (place + 1) piece,
      ap (λ (bytes : List ℕ). bytes ++ i.byte ∷ drop (place + 1) piece) front.1 ∙ around_byte piece place inside,
      record { station = c.listen-at.new.self; seen = c.loop-turn.view; whole = c.loop-turn.log; made = c.loop-turn.steps; heard = front.2; tears = torn },
    ))
    (c.in-Over.ensures.torn (c.listen-at.ensures.end_stays ∙ before.going))

pub returns-then-at-piece-clause-heard : goal.returns-then-at-piece-clause-heard
returns-then-at-piece-clause-heard g c =
    let piece : List ℕ = c.args.piece.now in
    let place : ℕ = c.loop-turn.at + c.listen-at.result in
    let over : length c.args.piece.now ≤ c.loop-turn.at + c.listen-at.result = omega arith in
    let before = c.loop-turn.invariant in
    let front = heard_further before.heard.0 piece c.loop-turn.at c.listen-at.result c.args.self.now c.loop-turn.self c.listen-at.new.self c.args.view.now c.loop-turn.view
    c.args.log.now c.loop-turn.log c.args.steps.now c.loop-turn.steps before.heard.1 before.heard.2 before.going c.listen-at.ensures.number_stays
    c.listen-at.ensures.hears c.listen-at.ensures.quiet in
    (front.0, front.1 ∙ take_all place piece over, front.2)

pub returns-clause-heard : goal.returns-clause-heard
returns-clause-heard g c =
    let over : length c.args.piece.now ≤ c.loop-turn.at = omega (arith, c.loop-turn.invariant.further) in
    let heard = c.loop-turn.invariant.heard in
    (heard.0, heard.1 ∙ take_all c.loop-turn.at c.args.piece.now over, heard.2)
