-- A byte of a station's stream.
use Rattle.std.proofs.Common.{◌≡◌, ℕ, ◌≤◌, List, [], ◌++◌, length, refl, sym, ◌∙◌, ap, subst, arith, append-nil, inl, inr, ◌⊎◌, true, false, Option, Some, None, cond}
use Rattle.std.specs.Prelude.{flat_map, map, slice_get, slice_set, is_some}
use Rattle.std.specs.List.{enumerate_from}
use Rattle.std.proofs.lemmas.Bool.{le-ltb, both_ways}
use Rattle.std.proofs.lemmas.Option.{slice_get_past}
use Rattle.hk_base.specs.Devices.{Wrote, WroteFront}
use Rattle.hk_base.specs.declared.plain.End.{End}
use Rattle.hk_base.specs.declared.plain.End.TheVariants as ends
use Rattle.hk_spec_streams.specs.Pieces.{completed}
use Rattle.hk_spec_streams.specs.Blocks.{blocks}
use Rattle.hk_spec_streams.specs.Records.{ForStation}
use Rattle.hk_spec_matching.specs.Catalogue.{Songs, version}
use Rattle.hk_spec_lines.specs.Lines.{printed_text}
use Rattle.hk_spec_runs.specs.OperatorState.{OperatorState}
use Rattle.hk_spec_settings.specs.Settings.{Rules}
use Rattle.hk_spec_runs.specs.Replay.{Listener, Scene, arrived, for_station, reports, report, heard}
use Rattle.hk_block.specs.Looker.{ShelfView}
use Rattle.hk_probe.specs.Single.{Single, shelf_of}
use Rattle.hk_spec_runs.specs.Listening.{next, lines_gained}
use Rattle.hk_station.specs.Hearing.{IsHearing, station_number}
use Rattle.hk_station.specs.Outcome.{UnlessTorn, OnTorn}
use Rattle.hk_station.specs.declared.station.Progress.{Progress}
use Rattle.hk_station.specs.declared.station.Progress.TheVariants.{Going, Over}
use Rattle.hk_player.specs.declared.player.Taken.TheVariants as takens
use Rattle.hk_station.specs.declared.station.Station.{Station}
use Rattle.hk_operator.specs.Obeying.{IsObeying}
use Rattle.hk_run.specs.Holding.{Holds, AreHearing}
use Rattle.hk_run.specs.Playing.{AddsScene, AddsSceneFront}
use Rattle.hk_run.specs.Course.{taken_of}
use Rattle.hk_run.specs.declared.run.Run.{Run}
use Rattle.hk_run.proofs.Stations.{Found, exchanged, all_of}
use Rattle.hk_base.proofs.Taking.{Wrote-nothing}

-- a byte for a station that is there
pub station_scene : (rules : Rules) (refused : List ℕ) (scene : Scene) (k byte : ℕ) (l : Listener) → slice_get scene.listeners k ≡ Some l
    → arrived rules refused scene (ForStation k byte)
    ≡ record scene { listeners = slice_set scene.listeners k (next rules (length scene.state.journal) l byte); printed = scene.printed ++ reports rules k scene.state.journal l (next rules (length scene.state.journal) l byte) }
station_scene rules refused scene k byte l is = ap (for_station rules scene k byte) is

-- a byte for a station touches neither the operator nor the list of refused commands
pub same_stream : (rules : Rules) (scene : Scene) (k byte : ℕ) (o : Option Listener) → (for_station rules scene k byte o).operator_stream ≡ scene.operator_stream
same_stream rules scene k byte None = refl
same_stream rules scene k byte (Some l) = refl

no_reports : (rules : Rules) (k : ℕ) (state : OperatorState) (l : Listener) → reports rules k state.journal l l ≡ []
no_reports rules k state l = ap (λ t. map (report rules k state.journal (length state.journal)) (cond t (enumerate_from (length (blocks rules.setting l.used)) (completed (blocks rules.setting) l.used)) [])) (le-ltb (length l.used) (length l.used) (omega arith))

module _ (rules : Rules) (scene : Scene) (run : Run) (k byte : ℕ) (station : Station) (h : Holds rules run scene) (at : Found rules 0 station scene.listeners k) where
  number_is : station_number station ≡ k
  number_is = omega (arith, at.number)

  pub scene_heard : (refused : List ℕ) → arrived rules refused scene (ForStation k byte)
      ≡ record scene { listeners = slice_set scene.listeners k (next rules (length scene.state.journal) at.listener byte); printed = scene.printed ++ reports rules k scene.state.journal at.listener (next rules (length scene.state.journal) at.listener byte) }
  scene_heard refused = station_scene rules refused scene k byte at.listener at.there

  -- a station that is over skips the byte
  over_next : (end : End) → station.end ≡ Some end → next rules (length scene.state.journal) at.listener byte ≡ at.listener
  over_next end over = ap (λ o. cond (is_some o) at.listener (heard rules (length scene.state.journal) at.listener byte)) (sym at.hears.end_is ∙ over)

  pub holds_skipped : (end : End) → station.end ≡ Some end → (refused : List ℕ) (run' : Run) → run'.stations.items ≡ slice_set run.stations.items k station → run'.operator ≡ run.operator → run'.catalogue ≡ run.catalogue
      → Holds rules run' (arrived rules refused scene (ForStation k byte))
  holds_skipped end over refused run' stations operators catalogues =
      subst (λ (s : Scene). Holds rules run' s) (sym (scene_heard refused)) (record {
        hears = subst (λ ss. AreHearing rules 0 ss (slice_set scene.listeners k (next rules (length scene.state.journal) at.listener byte))) (sym stations)
            (exchanged rules 0 run.stations.items scene.listeners k station _ h.hears (subst (IsHearing rules station) (sym (over_next end over)) at.hears) at.number);
        obeys = subst (λ o. IsObeying rules o (shelf_of run'.catalogue) scene.operator_stream scene.state) (sym operators)
            (subst (λ (s : Single). IsObeying rules run.operator (shelf_of s) scene.operator_stream scene.state) (sym catalogues) h.obeys);
      })

  pub adds_skipped : (end : End) → station.end ≡ Some end → (refused : List ℕ) (w : Option (List ℕ)) → AddsScene scene (arrived rules refused scene (ForStation k byte)) w w
  adds_skipped end over refused w = (
    [],
    ap (λ (s : Scene). s.printed) (scene_heard refused)
        ∙ ap (λ l. scene.printed ++ reports rules k scene.state.journal at.listener l) (over_next end over)
        ∙ ap (λ ps. scene.printed ++ ps) (no_reports rules k scene.state at.listener),
    Wrote-nothing w,
  )

  -- one that goes on hears it at the catalogue's version
  module _ (alone : Single) (versions : alone.version ≡ run.catalogue.version) (songs : alone.songs ≡ run.catalogue.songs) (shelf : shelf_of alone ≡ shelf_of run.catalogue) where
    at_is : alone.version ≡ length scene.state.journal
    at_is = versions ∙ ap (λ p. p.0) h.obeys.shelf.base

    songs_are : alone.songs ≡ version rules.limits scene.state.journal (length scene.state.journal)
    songs_are = songs ∙ ap (λ p. p.1) h.obeys.shelf.base

    lines_are : lines_gained rules (station_number station) alone.version alone.songs at.listener byte
        ≡ flat_map printed_text (reports rules k scene.state.journal at.listener (next rules (length scene.state.journal) at.listener byte))
    unfolding report
    lines_are =
        ap (λ n. lines_gained rules n alone.version alone.songs at.listener byte) number_is
        ∙ ap (λ v. lines_gained rules k v alone.songs at.listener byte) at_is
        ∙ ap (λ (s : Songs). lines_gained rules k (length scene.state.journal) s at.listener byte) songs_are

    pub holds_heard : (refused : List ℕ) (station' : Station) (run' : Run) → run'.stations.items ≡ slice_set run.stations.items k station' → run'.operator ≡ run.operator → run'.catalogue ≡ alone
        → station_number station' ≡ station_number station → IsHearing rules station' (next rules alone.version at.listener byte) → Holds rules run' (arrived rules refused scene (ForStation k byte))
    holds_heard refused station' run' stations operators catalogues numbers hears =
        subst (λ (s : Scene). Holds rules run' s) (sym (scene_heard refused)) (record {
          hears = subst (λ ss. AreHearing rules 0 ss (slice_set scene.listeners k (next rules (length scene.state.journal) at.listener byte))) (sym stations)
              (exchanged rules 0 run.stations.items scene.listeners k station' _ h.hears (subst (λ v. IsHearing rules station' (next rules v at.listener byte)) at_is hears) (numbers ∙ at.number));
          obeys = subst (λ o. IsObeying rules o (shelf_of run'.catalogue) scene.operator_stream scene.state) (sym operators)
              (subst (λ (v : ShelfView). IsObeying rules run.operator v scene.operator_stream scene.state) (sym (ap shelf_of catalogues ∙ shelf)) h.obeys);
        })

    pub adds_lines : (refused text : List ℕ) (w y : Option (List ℕ)) → text ≡ lines_gained rules (station_number station) alone.version alone.songs at.listener byte ++ [] → Wrote text w y
        → AddsScene scene (arrived rules refused scene (ForStation k byte)) w y
    adds_lines refused text w y is wrote = (
      reports rules k scene.state.journal at.listener (next rules (length scene.state.journal) at.listener byte),
      ap (λ (s : Scene). s.printed) (scene_heard refused),
      subst (λ (t : List ℕ). Wrote t w y) (is ∙ append-nil _ ∙ lines_are) wrote,
    )

    pub adds_front : (refused line : List ℕ) (w y : Option (List ℕ)) → line ≡ lines_gained rules (station_number station) alone.version alone.songs at.listener byte → WroteFront line w y
        → AddsSceneFront scene (arrived rules refused scene (ForStation k byte)) w y
    adds_front refused line w y is front = (
      reports rules k scene.state.journal at.listener (next rules (length scene.state.journal) at.listener byte),
      ap (λ (s : Scene). s.printed) (scene_heard refused),
      subst (λ (t : List ℕ). WroteFront t w y) (is ∙ lines_are) front,
    )

pub same_shelf : (p q : Single) → Some (shelf_of p) ≡ Some (shelf_of q) → shelf_of p ≡ shelf_of q
same_shelf p q is = cc

-- what a station's progress told, where the run goes on, and where a write failed
pub going_on : (p : Progress) (P : Type 0) → taken_of p ≡ takens.Going → UnlessTorn p P → P
going_on (Over ends.SinkFault) P is told = cc
going_on (Over ends.Ended) P is told = told
going_on (Over (ends.Wire fault)) P is told = told
going_on (Over (ends.FenceAhead asked seen)) P is told = told
going_on (Over ends.ReadFault) P is told = told
going_on (Over ends.GateFault) P is told = told
going_on Going P is told = told

-- the same where no write failed
pub no_write_failed : (p : Progress) (P : Type 0) → (taken_of p ≡ takens.SinkFault → ⊥) → UnlessTorn p P → P
no_write_failed (Over ends.SinkFault) P never told = absurd (never refl)
no_write_failed (Over ends.Ended) P never told = told
no_write_failed (Over (ends.Wire fault)) P never told = told
no_write_failed (Over (ends.FenceAhead asked seen)) P never told = told
no_write_failed (Over ends.ReadFault) P never told = told
no_write_failed (Over ends.GateFault) P never told = told
no_write_failed Going P never told = told

pub torn_off : (p : Progress) (P : Type 0) → taken_of p ≡ takens.SinkFault → OnTorn p P → P
torn_off (Over ends.SinkFault) P is told = told
torn_off (Over ends.Ended) P is told = cc
torn_off (Over (ends.Wire fault)) P is told = cc
torn_off (Over (ends.FenceAhead asked seen)) P is told = cc
torn_off (Over ends.ReadFault) P is told = cc
torn_off (Over ends.GateFault) P is told = cc
torn_off Going P is told = cc

pub never_stopped : (p : Progress) → (taken_of p ≡ takens.Going) ⊎ (taken_of p ≡ takens.SinkFault)
never_stopped (Over ends.SinkFault) = inr refl
never_stopped (Over ends.Ended) = inl refl
never_stopped (Over (ends.Wire fault)) = inl refl
never_stopped (Over (ends.FenceAhead asked seen)) = inl refl
never_stopped (Over ends.ReadFault) = inl refl
never_stopped (Over ends.GateFault) = inl refl
never_stopped Going = inl refl

-- an end that is there
pub some_end : (kept told : Option End) → told ≡ kept → is_some told ≡ true → (end : End) × (kept ≡ Some end)
some_end kept None same is = absurd (both_ways false refl is)
some_end kept (Some end) same is = (end, sym same)

pub no_end : (kept told : Option End) → told ≡ kept → is_some told ≡ false → kept ≡ None
no_end kept None same is = sym same
no_end kept (Some end) same is = absurd (both_ways true is refl)

-- a byte for a station that isn't there
pub absent : (rules : Rules) (refused : List ℕ) (scene : Scene) (stations : List Station) (k byte : ℕ) → AreHearing rules 0 stations scene.listeners → length stations ≤ k
    → arrived rules refused scene (ForStation k byte) ≡ scene
absent rules refused scene stations k byte h past =
    let many : length stations ≡ length scene.listeners = all_of rules 0 stations scene.listeners h in
    ap (for_station rules scene k byte) (slice_get_past scene.listeners k (omega (arith, many, past)))

pub adds_nothing : (scene : Scene) (w : Option (List ℕ)) → AddsScene scene scene w w
adds_nothing scene w = ([], sym (append-nil scene.printed), Wrote-nothing w)
