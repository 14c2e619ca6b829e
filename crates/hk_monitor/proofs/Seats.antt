-- What a station did, from what it did while it was served and the closing look.
use Rattle.std.proofs.Common.{◌≡◌, ◌≤◌, ℕ, Option, Some, None, List, [], ◌∷◌, ◌++◌, length, refl, sym, ◌∙◌, ap, subst, subst₂, arith, inl, inr}
use Rattle.std.specs.Prelude.{unwrap_or, option_map}
use Rattle.std.specs.List.{last_or}
use Rattle.hk_base.specs.Devices.{Took, Wrote}
use Rattle.hk_base.specs.declared.sink.Sink as sinks
use Rattle.hk_spec_matching.specs.Catalogue.{Journal, Rise, Limits}
use Rattle.hk_spec_settings.specs.Settings.{Rules}
use Rattle.hk_spec_runs.specs.Listening.{songs_in}
use Rattle.hk_outside.specs.Doors.{Pair}
use Rattle.hk_outside.specs.declared.door.Held.TheVariants.{Outside}
use Rattle.hk_outside.specs.declared.link.Link as links
use Rattle.hk_spec_monitor.specs.Looks.{last_version}
use Rattle.hk_spec_monitor.specs.Run.{Heard, HasLines, log_text, songs_seen}
use Rattle.hk_spec_monitor.specs.Causes.{CauseOf, StayedBut}
use Rattle.hk_spec_monitor.proofs.Legal.{some_of}
use Rattle.hk_block.specs.Looker.{LookerView}
use Rattle.hk_block.specs.declared.looker.Looker as lookers
use Rattle.hk_station.specs.Hearing.{station_number, lines_written, version_of, kept_end}
use Rattle.hk_station.specs.declared.station.Station.{Station}
use Rattle.hk_loop.specs.declared.seat.Seat.{Seat}
use Rattle.hk_loop.specs.Serving.{HasServed}
use Rattle.hk_served.specs.Served.{DidInSeat, gate_of}
use Rattle.hk_journal.proofs.Prefixes.{prefix_length}
use Rattle.hk_publish.specs.Journals.{past_of_journal}
use Rattle.hk_publish.specs.Known.{Known, looker_of, looker_home}
use Rattle.hk_publish.proofs.Telling.{homes_tell}
use Rattle.hk_monitor.specs.Seats.{DidInRun, devices_of}
use Rattle.hk_monitor.specs.Closing.{LooksAgain, ClosesSeat}
use Rattle.hk_monitor.proofs.Songs.{same_songs, other_songs}

-- the last look of those that rise to a version is no higher
last_low : (looks : List ℕ) (from to : ℕ) (o : Option ℕ) → unwrap_or o 0 ≤ from → Rise from looks to → unwrap_or (last_or o looks) 0 ≤ to
last_low [] from to o low rise = omega (arith, low, rise)
last_low (v ∷ looks) from to o low rise = last_low looks v to (Some v) (omega arith) rise.1

module _ {K S : Type 0} (link : links.Ghosts K) (sink : sinks.Ghosts S) where
  -- a link and a log that are out
  abbrev pair : K → S → Pair
  pair l g = record { held = Outside; gives = record { bytes = link.left l; faults = link.faults l }; takes = record { bytes = sink.written g; faults = sink.faults g } }

  module _ (looker : lookers.Ghosts Known) (tells : (r : Known) → looker.looker r ≡ looker_of r) where
    -- a reading that was looked through is still of its start
    pub home_stays : (gate gate' : ℕ) (first now : Seat K S Known) → HasServed link sink looker gate gate' first now
        → (now.view.limits ≡ first.view.limits) × (now.view.home ≡ first.view.home)
    home_stays gate gate' first now served =
        let same : (looker.looker now.view).home ≡ (looker.looker first.view).home = elim served.ends [
          | inl whole ↦ whole.hears.looks.home
          | inr torn ↦ torn.hears.tears.looks.home ∙ torn.hears.heard.looks.home
        ] in
        let homes : Some (looker_home now.view) ≡ Some (looker_home first.view) =
        sym (ap (λ (view : LookerView). view.home) (tells now.view)) ∙ same ∙ ap (λ (view : LookerView). view.home) (tells first.view) in
        homes_tell now.view.limits first.view.limits now.view.home first.view.home (some_of (looker_home now.view) (looker_home first.view) homes)

    module _ (rules : Rules) (journal : Journal) (gate gate' : ℕ) (first mid now : Seat K S Known) (h : Heard) (did : DidInSeat link sink looker rules gate gate' first mid h) (closes : ClosesSeat journal mid now) where
      -- the last look was made before the closing one
      last_look : last_version h.looks ≤ length mid.view.seen
      last_look =
          let low : last_version h.looks ≤ (looker.looker mid.view).at = last_low h.looks (looker.looker first.view).at (looker.looker mid.view).at None (omega arith) did.looks.rise in
          subst (λ (view : LookerView). last_version h.looks ≤ view.at) (tells mid.view) low

      -- what the reading knew while it was served
      known : rules.limits ≡ first.view.limits → mid.view.limits ≡ first.view.limits → (v : ℕ) → v ≤ last_version h.looks
          → songs_in (looker.looker mid.view).past v ≡ songs_seen rules journal (past_of_journal rules.limits now.view.seen) v
      known of_rules of_start v low =
          let limits : mid.view.limits ≡ rules.limits = of_start ∙ sym of_rules in
          let inside : v ≤ length mid.view.seen = omega (arith, low, last_look) in
          ap (λ (view : LookerView). songs_in view.past v) (tells mid.view)
          ∙ ap (λ (l : Limits). songs_in (past_of_journal l mid.view.seen) v) limits
          ∙ same_songs rules journal mid.view.seen now.view.seen closes.looks.told closes.looks.grows v inside

      shown_is : first.view.shown ≡ [] → now.view.shown ≡ h.looks ++ length now.view.seen ∷ []
      shown_is nothing =
          let seen : Some mid.view.shown ≡ Some (first.view.shown ++ h.looks) =
          sym (ap (λ (view : LookerView). view.shown) (tells mid.view)) ∙ did.looks.shown
          ∙ ap (λ (view : LookerView). option_map (λ versions. versions ++ h.looks) view.shown) (tells first.view) in
          closes.looks.shown ∙ ap (λ (vs : List ℕ). vs ++ length now.view.seen ∷ []) (some_of mid.view.shown (first.view.shown ++ h.looks) seen ∙ ap (λ (vs : List ℕ). vs ++ h.looks) nothing)

      pub did_in_run : rules.limits ≡ first.view.limits → mid.view.limits ≡ first.view.limits → first.view.shown ≡ [] → DidInRun link sink rules journal gate gate' first now h
      did_in_run of_rules of_start nothing = record {
        number = ap station_number closes.station ∙ did.number;
        taken = subst (λ l. Took h.taken (link.left first.link) (link.left l)) (sym closes.link) did.taken;
        log = subst (λ g. Wrote (log_text rules (station_number first.station) h) (sink.written first.log) (sink.written g)) (sym closes.log) did.log;
        lines = other_songs rules (songs_in (looker.looker mid.view).past) (songs_seen rules journal (past_of_journal rules.limits now.view.seen)) (station_number first.station) h (known of_rules of_start) did.lines;
        fences = did.fences;
        end = ap kept_end closes.station ∙ did.end;
        cause = subst₂ (λ l g. CauseOf rules (devices_of link sink first) (pair l g) (gate_of gate) (gate_of gate') h h.end) (sym closes.link) (sym closes.log) did.cause;
        stayed = subst₂ (λ l g. StayedBut (devices_of link sink first) (pair l g) h.end) (sym closes.link) (sym closes.log) did.stayed;
        count = ap lines_written closes.station ∙ did.count;
        version = ap version_of closes.station ∙ did.version;
        within = omega (arith, last_look, prefix_length mid.view.seen now.view.seen closes.looks.grows);
        shown = shown_is nothing;
      }
