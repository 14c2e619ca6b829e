-- One more in a row.
use Rattle.std.proofs.Common.{◌≡◌, ℕ, List, [], ◌∷◌, ◌++◌, length, Some, inl, inr, sym, ap, subst, ◌∙◌}
use Rattle.std.specs.Prelude.{slice_get}
use Rattle.std.specs.Option.{option_map_or}
use Rattle.hk_spec_settings.specs.Settings.{Rules}
use Rattle.hk_spec_runs.specs.Listening.{unheard}
use Rattle.hk_station.specs.Hearing.{IsHearing, station_number}
use Rattle.hk_station.specs.declared.station.Station.{Station}
use Rattle.hk_summary.specs.declared.ends.StationEnd.{StationEnd}
use Rattle.hk_opening.proofs.Out.{got_more}
use Rattle.hk_monitor_top.specs.Ready.{AreNumbered}
use Rattle.hk_monitor_top.specs.Ends.{TellsEnd}

pub numbered_more : (rules : Rules) (stations : List Station) (station : Station) → AreNumbered rules stations → station_number station ≡ length stations
    → IsHearing rules station unheard → AreNumbered rules (stations ++ station ∷ [])
numbered_more rules stations station before number hears n s at = elim (got_more stations station n s at) [
  | inl h ↦ before n s h.1
  | inr h ↦ subst (λ (x : Station). (station_number x ≡ n) × IsHearing rules x unheard) h.1 (number ∙ sym h.0, hears)
]

pub told_more : (stations : List Station) (station : Station) (ends : List StationEnd) (told : StationEnd)
    → ((n : ℕ) (s : Station) (e : StationEnd) → slice_get stations n ≡ Some s → slice_get ends n ≡ Some e → TellsEnd s e)
    → slice_get stations (length ends) ≡ Some station → TellsEnd station told
    → (n : ℕ) (s : Station) (e : StationEnd) → slice_get stations n ≡ Some s → slice_get (ends ++ told ∷ []) n ≡ Some e → TellsEnd s e
told_more stations station ends told before here tells n s e at_s at_e = elim (got_more ends told n e at_e) [
  | inl h ↦ before n s e at_s h.1
  | inr h ↦
      let same : Some station ≡ Some s = sym here ∙ subst (λ (k : ℕ). slice_get stations k ≡ Some s) h.0 at_s in
      let station_is : station ≡ s = ap (λ o. option_map_or (λ y. y) o station) same in
      subst (λ (x : Station). TellsEnd x e) station_is (subst (TellsEnd station) h.1 tells)
]
