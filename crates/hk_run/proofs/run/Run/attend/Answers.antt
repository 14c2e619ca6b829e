use Rattle.std.proofs.Common.{◌≡◌, ◌<◌, Some, None, length, take, refl, ◌∙◌, sym, ap, arith}
use Rattle.std.specs.Prelude.{slice_get}
use Rattle.std.proofs.lemmas.Option.{slice_get_read}
use Rattle.hk_spec_settings.specs.Settings.{Rules}
use Rattle.hk_spec_runs.specs.Replay.{Scene}
use Rattle.hk_station.specs.declared.station.Station.{Station}
use Rattle.hk_run.specs.Holding.{Holds}
use Rattle.hk_run.proofs.Hearing.{no_end}
use Rattle.hk_run.proofs.Listening.{holds_further, prints_nothing}
use Rattle.hk_run.proofs.Stations.{Found, found}
use Rattle.hk_run.proofs.run.Run.attend.Goals as goal

module _ (c : goal.After-self-2-1) where
  abbrev station : Station
  station = c.index_mut-station.result.now

  inside : c.args.number < length c.args.self.now.stations.items
  inside = omega (arith, c.if-number-len.false)

  there : slice_get c.args.self.now.stations.items c.args.number ≡ Some c.index_mut-station.result.now
  there = slice_get_read _ _ _ _ refl inside c.index_mut-station.ensures.value

  unended : c.index_mut-station.result.now.end ≡ None
  unended =
      let looked : slice_get c.args.self.now.stations.items c.args.number ≡ Some c.index.result.now = slice_get_read _ _ _ _ refl inside c.index.ensures in
      let told : Some c.index.result.now ≡ Some c.index_mut-station.result.now = sym looked ∙ there in
      let same : c.index.result.now ≡ c.index_mut-station.result.now = cc in
      ap (λ (s : Station). s.end) (sym same) ∙ no_end c.index.result.now.end _ c.end.ensures (sym c.is_some.ensures ∙ c.if-is_some.false)

  at : (rules : Rules) (scene : Scene) → Holds rules c.args.self.now scene → Found rules 0 station scene.listeners c.args.number
  at rules scene h = found rules 0 c.args.self.now.stations.items scene.listeners c.args.number station h.hears there

pub returns-clause-holds : goal.returns-clause-holds
returns-clause-holds c = λ rules scene h refused.
    let found_there = at c rules scene h in
    holds_further rules scene c.args.self.now c.args.number (station c) h found_there refused (take c.listen.result c.args.piece.now) (unended c)
    (c.listen.ensures.quiet rules found_there.listener found_there.hears) c.listen.new.self _ (c.listen.ensures.hears rules found_there.listener found_there.hears)
    c.listen.ensures.number_stays refl refl refl

pub returns-clause-prints_nothing : goal.returns-clause-prints_nothing
returns-clause-prints_nothing c = λ rules scene h refused.
    let found_there = at c rules scene h in
    prints_nothing rules scene c.args.self.now c.args.number (station c) h found_there refused (take c.listen.result c.args.piece.now) (unended c)
    (c.listen.ensures.quiet rules found_there.listener found_there.hears)
