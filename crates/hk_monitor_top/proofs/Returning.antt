-- What is back stays back.
use Rattle.std.proofs.Common.{◌≡◌, ◌∙◌, ℕ, List, sym, ap, subst}
use Rattle.std.specs.List.{All}
use Rattle.hk_base.specs.declared.sink.Sink as sinks
use Rattle.hk_outside.specs.declared.link.Link as links
use Rattle.hk_outside.specs.Doors.{Doorway, held_at}
use Rattle.hk_outside.specs.declared.door.Held.TheVariants.{Back}
use Rattle.hk_spec_monitor.specs.Devices.{AllAreBack, WasUsed}
use Rattle.hk_spec_monitor.specs.Setup.{Setup}
use Rattle.hk_opening.specs.Handing.{StationsAreBack, GatesAreBack}
use Rattle.hk_opening.proofs.Back.{IfGranted, opening_granted}

-- all that opened a run is back after it
pub used_back : (setup : Setup) (old door : Doorway) → WasUsed setup old door → AllAreBack door
used_back setup old door used =
    subst (All (IfGranted (λ ask. held_at ask door ≡ Back))) (sym used.calls)
    (opening_granted (λ ask. held_at ask door ≡ Back) setup.rules.stations setup.workers used.stations used.operator used.gates)

pub stations_stay : {K S : Type 0} (link : links.Ghosts K) (sink : sinks.Ghosts S) (pairs : List (K × S)) (old mid new : Doorway)
    → StationsAreBack link sink pairs old mid → ((n : ℕ) → new.stations n ≡ mid.stations n) → StationsAreBack link sink pairs old new
stations_stay link sink pairs old mid new back same = record {
  back = λ n pair at. ap (λ p. p.held) (same n) ∙ back.back n pair at;
  link_told = λ n pair at. ap (λ p. p.gives) (same n) ∙ back.link_told n pair at;
  log_told = λ n pair at. ap (λ p. p.takes) (same n) ∙ back.log_told n pair at;
  others = λ n le. same n ∙ back.others n le;
}

pub gates_stay : {G : Type 0} (faults : G → ℕ) (gates : List G) (old mid next new : Doorway) → ((w : ℕ) → mid.gates w ≡ old.gates w)
    → GatesAreBack faults gates mid next → ((w : ℕ) → new.gates w ≡ next.gates w) → GatesAreBack faults gates old new
gates_stay faults gates old mid next new first back same = record {
  back = λ w gate at. ap (λ h. h.held) (same w) ∙ back.back w gate at;
  told = λ w gate at. ap (λ h. h.faults) (same w) ∙ back.told w gate at;
  others = λ w le. same w ∙ back.others w le ∙ first w;
}
