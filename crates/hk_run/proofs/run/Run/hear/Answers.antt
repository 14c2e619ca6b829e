use Rattle.std.proofs.Common.{◌≡◌, ◌<◌, ◌≤◌, Some, length, refl, ◌∙◌, sym, arith}
use Rattle.std.specs.Prelude.{slice_get}
use Rattle.std.proofs.lemmas.Option.{slice_get_read}
use Rattle.hk_station.specs.declared.station.Station.{Station}
use Rattle.hk_run.proofs.Stations.{found}
use Rattle.hk_run.proofs.Hearing.{holds_skipped, adds_skipped, holds_heard, adds_lines, adds_front, same_shelf, going_on, no_write_failed, torn_off, some_end, no_end, absent, adds_nothing}
use Rattle.hk_run.proofs.run.Run.hear.Goals as goal

pub returns-then-is_some-clause-going : goal.returns-then-is_some-clause-going
returns-then-is_some-clause-going g c = λ is rules scene h refused.
    let station : Station = c.index_mut-station.result.now in
    let inside : c.args.number < length c.args.self.now.stations.items = omega (arith, c.if-number-len.false) in
    let there : slice_get c.args.self.now.stations.items c.args.number ≡ Some c.index_mut-station.result.now = slice_get_read _ _ _ _ refl inside c.index_mut-station.ensures.value in
    let at = found rules 0 c.args.self.now.stations.items scene.listeners c.args.number station h.hears there in
    let over = some_end station.end _ c.end.ensures (sym c.is_some.ensures ∙ c.if-is_some.true) in (
      holds_skipped rules scene c.args.self.now c.args.number c.args.byte station h at over.0 over.1 refused _ refl refl refl,
      adds_skipped rules scene c.args.self.now c.args.number c.args.byte station h at over.0 over.1 refused (g.K.Sink.written c.args.out.now),
    )

pub returns-clause-going : goal.returns-clause-going
returns-clause-going g c = λ is rules scene h refused.
    let station : Station = c.index_mut-station.result.now in
    let inside : c.args.number < length c.args.self.now.stations.items = omega (arith, c.if-number-len.false) in
    let there : slice_get c.args.self.now.stations.items c.args.number ≡ Some c.index_mut-station.result.now = slice_get_read _ _ _ _ refl inside c.index_mut-station.ensures.value in
    let at = found rules 0 c.args.self.now.stations.items scene.listeners c.args.number station h.hears there in
    let heard = going_on c.hear.result _ (sym c.taken_of.ensures ∙ is) c.hear.ensures.heard in
    let hears = heard.hears rules at.listener at.hears in
    let stays = heard.looks.stays refl in (
      holds_heard rules scene c.args.self.now c.args.number c.args.byte station h at c.hear.new.view stays.at stays.songs (same_shelf _ _ stays.shelf) refused c.hear.new.self _ refl refl refl
          heard.number hears.0,
      adds_lines rules scene c.args.self.now c.args.number c.args.byte station h at c.hear.new.view stays.at stays.songs (same_shelf _ _ stays.shelf) refused _
          (g.K.Sink.written c.args.out.now) (g.K.Sink.written c.hear.new.log) hears.1.lines heard.writes.appended,
    )

pub returns-clause-torn : goal.returns-clause-torn
returns-clause-torn g c = λ is rules scene h refused.
    let station : Station = c.index_mut-station.result.now in
    let inside : c.args.number < length c.args.self.now.stations.items = omega (arith, c.if-number-len.false) in
    let there : slice_get c.args.self.now.stations.items c.args.number ≡ Some c.index_mut-station.result.now = slice_get_read _ _ _ _ refl inside c.index_mut-station.ensures.value in
    let at = found rules 0 c.args.self.now.stations.items scene.listeners c.args.number station h.hears there in
    let going = no_end station.end _ c.end.ensures (sym c.is_some.ensures ∙ c.if-is_some.false) in
    let torn = torn_off c.hear.result _ (sym c.taken_of.ensures ∙ is) (c.hear.ensures.torn going) in
    let stays = torn.looks.stays refl in
    adds_front rules scene c.args.self.now c.args.number c.args.byte station h at c.hear.new.view stays.at stays.songs (same_shelf _ _ stays.shelf) refused _
    (g.K.Sink.written c.args.out.now) (g.K.Sink.written c.hear.new.log) (torn.hears rules at.listener at.hears).lines torn.fails.front

pub returns-then-number-len-clause-going : goal.returns-then-number-len-clause-going
returns-then-number-len-clause-going g c = λ is rules scene h refused.
    let past : length c.args.self.now.stations.items ≤ c.args.number = omega (arith, c.if-number-len.true) in
    let same = absent rules refused scene c.args.self.now.stations.items c.args.number c.args.byte h.hears past in
    (rw same (record { hears = h.hears; obeys = h.obeys }), rw same (adds_nothing scene (g.K.Sink.written c.args.out.now)))

pub returns-clause-faults : goal.returns-clause-faults
returns-clause-faults g c =
    let going = no_end c.index_mut-station.result.now.end _ c.end.ensures (sym c.is_some.ensures ∙ c.if-is_some.false) in
    record {
      cause = λ is. (torn_off c.hear.result _ (sym c.taken_of.ensures ∙ is) (c.hear.ensures.torn going)).fails.cause;
      stays = λ never. (no_write_failed c.hear.result _ (λ torn. never (c.taken_of.ensures ∙ torn)) c.hear.ensures.heard).writes.stays;
    }
