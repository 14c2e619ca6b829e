use Rattle.std.proofs.Common.{◌+◌, ℕ, [], ◌∷◌, ◌++◌, length, refl}
use Rattle.hk_spec_streams.specs.Operator.{commands}
use Rattle.hk_spec_lines.specs.Lines.{Replied}
use Rattle.hk_spec_runs.specs.Replay.{Scene}
use Rattle.hk_words.specs.Rules.{rules_meant}
use Rattle.hk_run.specs.Course.{scene_after}
use Rattle.hk_run.proofs.Arriving.{came_head, came_station, came_operator, came_bad}
use Rattle.hk_run.proofs.Settling.{head_settled, station_settled, quiet_is, quiet_settled, reply_settled}
use Rattle.hk_run.proofs.Taking.{held_by, came_is, plays_on, stops, adds_all, adds_some, adds_none, written_as, front_as, by_rules}
use Rattle.hk_run.proofs.run.RunPlayer.take.Goals as goal

pub returns-in-Head-clause-going : goal.returns-in-Head-clause-going
returns-in-Head-clause-going g c = λ is refused text h.
    let rules = rules_meant c.args.self.now.rules in
    let run = c.args.self.now in
    let byte : ℕ = c.args.byte in
    let head = came_head rules text byte (came_is rules run refused text byte h _ (c.in-Head.ensures.came text h.read)) in
    let read = c.in-Head.ensures.reads text h.read tt in (
      refused,
      plays_on rules run refused text byte h _ read c.in-Head.ensures.limit c.in-Head.ensures.stations _ refused (scene_after rules refused text) head.0 refl (head.1 refused)
          (head_settled rules refused text h.settled (text ++ byte ∷ []) head.1) (held_by rules run _ (scene_after rules refused text) refl refl refl h.holds),
      adds_none rules run refused text byte h refused head.0 (scene_after rules refused text) (head.1 refused) (g.K.Sink.written c.args.out.now) refl,
    )

pub returns-in-Station-clause-going : goal.returns-in-Station-clause-going
returns-in-Station-clause-going g c = λ is refused text h.
    let rules = rules_meant c.args.self.now.rules in
    let run = c.args.self.now in
    let byte : ℕ = c.args.byte in
    let scene : Scene = scene_after rules refused text in
    let came = came_station rules text byte _ _ (came_is rules run refused text byte h _ (c.in-Station.ensures.came text h.read)) in
    let read = c.in-Station.ensures.reads text h.read tt in
    let heard = c.hear.ensures.going is rules scene (held_by rules run _ scene refl refl refl h.holds) refused in (
      refused,
      by_rules c.args.self.now.rules c.hear.new.self refused (text ++ byte ∷ []) c.hear.ensures.rules_stay
          (plays_on rules run refused text byte h _ read c.in-Station.ensures.limit c.in-Station.ensures.stations c.hear.new.self refused _ came.0 c.hear.ensures.reader_stays (came.1 refused)
          (station_settled rules refused text h.settled (text ++ byte ∷ []) _ _ came.1) heard.0),
      adds_all rules run refused text byte h refused came.0 _ (came.1 refused) _ _ heard.1,
    )

pub returns-in-Station-clause-torn : goal.returns-in-Station-clause-torn
returns-in-Station-clause-torn g c = λ is refused text h.
    let rules = rules_meant c.args.self.now.rules in
    let run = c.args.self.now in
    let byte : ℕ = c.args.byte in
    let scene : Scene = scene_after rules refused text in
    let came = came_station rules text byte _ _ (came_is rules run refused text byte h _ (c.in-Station.ensures.came text h.read)) in
    let front = c.hear.ensures.torn is rules scene (held_by rules run _ scene refl refl refl h.holds) refused in
    adds_some rules run refused text byte h refused came.0 _ (came.1 refused) _ _ front

pub returns-in-None-clause-going : goal.returns-in-None-clause-going
returns-in-None-clause-going g c = λ is refused text h.
    let rules = rules_meant c.args.self.now.rules in
    let run = c.args.self.now in
    let byte : ℕ = c.args.byte in
    let scene : Scene = scene_after rules refused text in
    let came = came_operator rules text byte _ (came_is rules run refused text byte h _ (c.in-Operator.ensures.came text h.read)) in
    let read = c.in-Operator.ensures.reads text h.read tt in
    let quiet = c.in-None.ensures.quiet refl rules scene (held_by rules run _ scene refl refl refl h.holds) in
    let next = quiet_is rules refused text h.settled (text ++ byte ∷ []) _ came.1 quiet.0 in (
      refused,
      by_rules c.args.self.now.rules c.obey.new.self refused (text ++ byte ∷ []) c.in-None.ensures.rules_stay
          (plays_on rules run refused text byte h _ read c.in-Operator.ensures.limit c.in-Operator.ensures.stations c.obey.new.self refused _ came.0 c.in-None.ensures.reader_stays next
          (quiet_settled rules refused text h.settled (text ++ byte ∷ []) _ came.1 quiet.0) quiet.1),
      adds_none rules run refused text byte h refused came.0 _ next (g.K.Sink.written c.args.out.now) refl,
    )

pub returns-in-Ok-clause-going : goal.returns-in-Ok-clause-going
returns-in-Ok-clause-going g c = λ is refused text h.
    let rules = rules_meant c.args.self.now.rules in
    let run = c.args.self.now in
    let byte : ℕ = c.args.byte in
    let scene : Scene = scene_after rules refused text in
    let came = came_operator rules text byte _ (came_is rules run refused text byte h _ (c.in-Operator.ensures.came text h.read)) in
    let read = c.in-Operator.ensures.reads text h.read tt in
    let told = c.in-Some.ensures.replies rules scene (held_by rules run _ scene refl refl refl h.holds) in
    let next = reply_settled rules refused text h.settled (text ++ byte ∷ []) _ came.1 told.0 told.1 c.in-Some.reply.what told.3 in (
      next.0,
      by_rules c.args.self.now.rules c.obey.new.self next.0 (text ++ byte ∷ []) c.in-Some.ensures.rules_stay
          (plays_on rules run refused text byte h _ read c.in-Operator.ensures.limit c.in-Operator.ensures.stations c.obey.new.self next.0 _ came.0 c.in-Some.ensures.reader_stays next.2 next.1
          (record { hears = told.4.hears; obeys = told.4.obeys })),
      adds_all rules run refused text byte h next.0 came.0 _ next.2 _ _ (
        Replied (length (commands scene.operator_stream.used) + 1) c.in-Some.reply.what ∷ [],
        refl,
        written_as _ _ c.in-Some.reply.what _ _ told.2 c.in-Ok.ensures.whole.appended,
      ),
    )

pub returns-in-Err-clause-torn : goal.returns-in-Err-clause-torn
returns-in-Err-clause-torn g c = λ is refused text h.
    let rules = rules_meant c.args.self.now.rules in
    let run = c.args.self.now in
    let byte : ℕ = c.args.byte in
    let scene : Scene = scene_after rules refused text in
    let came = came_operator rules text byte _ (came_is rules run refused text byte h _ (c.in-Operator.ensures.came text h.read)) in
    let told = c.in-Some.ensures.replies rules scene (held_by rules run _ scene refl refl refl h.holds) in
    let next = reply_settled rules refused text h.settled (text ++ byte ∷ []) _ came.1 told.0 told.1 c.in-Some.reply.what told.3 in
    adds_some rules run refused text byte h next.0 came.0 _ next.2 _ _ (
      Replied (length (commands scene.operator_stream.used) + 1) c.in-Some.reply.what ∷ [],
      refl,
      front_as _ _ c.in-Some.reply.what _ _ told.2 c.in-Err.ensures.torn.front,
    )

pub returns-in-Bad-clause-stopped : goal.returns-in-Bad-clause-stopped
returns-in-Bad-clause-stopped g c = λ refused text h.
    let rules = rules_meant c.args.self.now.rules in
    let run = c.args.self.now in
    let byte : ℕ = c.args.byte in
    stops rules run refused text byte h c.in-Bad.trouble (came_bad rules text byte _ (came_is rules run refused text byte h _ (c.in-Bad.ensures.came text h.read)))
