-- What stations did, each by its number.
use Rattle.std.specs.Prelude.{◌≡◌, ◌<◌, ℕ, ◌%◌, false, List, length, slice_get, Some}
use Rattle.std.specs.List.{All}
use Rattle.hk_base.specs.declared.sink.Sink as sinks
use Rattle.hk_outside.specs.declared.link.Link as links
use Rattle.hk_spec_matching.specs.Catalogue.{Journal}
use Rattle.hk_spec_settings.specs.Settings.{Rules}
use Rattle.hk_spec_monitor.specs.Run.{Heard}
use Rattle.hk_spec_monitor.specs.Causes.{is_gate_fault}
use Rattle.hk_loop.specs.declared.seat.Seat.{Seat}
use Rattle.hk_loop.specs.Rows.{Each}
use Rattle.hk_publish.specs.Known.{Known}
use Rattle.hk_publish.specs.Holding.{Holding}
use Rattle.hk_monitor.specs.declared.crew.Crewman.{Crewman}
use Rattle.hk_monitor.specs.Rows.{EachOf, IsOneOf}
use Rattle.hk_monitor.specs.Seats.{DidInRun, HasSeenAll}
use Rattle.hk_monitor.specs.Crew.{DidAtGate}
use Rattle.hk_seating.specs.Seating.{AreSeated, gates_of}

module _ {K S G : Type 0} (link : links.Ghosts K) (sink : sinks.Ghosts S) (faults : G → ℕ) where
  -- What the stations of a crew did, from number 0 on. Each is still in its seat. Station n did so while the faults of the gate of
  -- worker n mod so many went from the one count to the other, and its view has seen all that the desk has published. The count of a
  -- gate that ended none of its stations stayed.
  pub record DidByNumber (rules : Rules) (journal : Journal) (desk : Holding) (crew crew' : List (Crewman K S G Known)) (stations : List (List Heard))
      (seats seats' : List (Seat K S Known)) (heard : List Heard) : Type 0 where
    pub workers : length crew' ≡ length crew
    pub seated : AreSeated seats' crew'
    pub as_many : length seats' ≡ length seats
    pub one_each : length heard ≡ length seats
    pub did : (n : ℕ) (first now : Seat K S Known) (h : Heard) (gate gate' : G)
        → slice_get seats n ≡ Some first → slice_get seats' n ≡ Some now → slice_get heard n ≡ Some h
        → slice_get (gates_of crew) (n % length crew) ≡ Some gate → slice_get (gates_of crew') (n % length crew) ≡ Some gate'
        → DidInRun link sink rules journal (faults gate) (faults gate') first now h
    pub seen : (n : ℕ) (first now : Seat K S Known) → slice_get seats n ≡ Some first → slice_get seats' n ≡ Some now
        → HasSeenAll desk first.view now.view
    pub gate_stayed : (w : ℕ) (gate gate' : G) → slice_get (gates_of crew) w ≡ Some gate → slice_get (gates_of crew') w ≡ Some gate'
        → ((n : ℕ) (h : Heard) → slice_get heard n ≡ Some h → n % length crew ≡ w → is_gate_fault h.end ≡ false)
        → faults gate' ≡ faults gate
    pub ours : All (IsOneOf stations) heard

  -- What the stations of each worker did in their seats, they did by their numbers.
  abbrev pub SeatedDidByNumber : Type 0
  SeatedDidByNumber = (rules : Rules) (journal : Journal) (desk : Holding) (crew crew' : List (Crewman K S G Known)) (stations : List (List Heard))
      (seats : List (Seat K S Known)) → 0 < length crew → AreSeated seats crew
      → EachOf (DidAtGate link sink faults rules journal) crew crew' stations
      → Each (λ old new. Each (λ first now. HasSeenAll desk first.view now.view) old.seats.items new.seats.items) crew crew'
      → (seats' : List (Seat K S Known)) × (heard : List Heard) × DidByNumber rules journal desk crew crew' stations seats seats' heard
