-- The seats of a worker, each at its place.
use Rattle.std.specs.Prelude.{◌≡◌, ◌⊎◌, ℕ, ◌<◌, Bool, true, false, List, length, slice_index_or, is_some, Some, None}
use Rattle.hk_base.specs.Devices.{Rose}
use Rattle.hk_base.specs.declared.plain.End.TheVariants as ends
use Rattle.hk_station.specs.Hearing.{kept_end}
use Rattle.hk_loop.specs.declared.seat.Seat.{Seat}

-- As many as before, and this of each before and after.
pub record Each {A : Type 0} (P : A → A → Type 0) (old new : List A) : Type 0 where
  pub as_many : length new ≡ length old
  pub each : (i : ℕ) (d : A) → i < length old → P (slice_index_or old i d) (slice_index_or new i d)

module _ {K S V : Type 0} where
  -- the station at this place isn't over
  abbrev pub GoesAt : List (Seat K S V) → ℕ → Type 0
  GoesAt seats i = (d : Seat K S V) → kept_end (slice_index_or seats i d).station ≡ None

  -- The gate's count of faults stayed; or it rose, and then some station ended by that.
  abbrev pub GateCounts : ℕ → ℕ → List (Seat K S V) → Type 0
  GateCounts gate gate' seats = (gate' ≡ gate)
      ⊎ (Rose gate gate' × (i : ℕ) × (i < length seats) × ((d : Seat K S V) → kept_end (slice_index_or seats i d).station ≡ Some ends.GateFault))

  -- whether all stations are over
  abbrev pub AreOver : Bool → List (Seat K S V) → Type 0
  AreOver true seats = (i : ℕ) (d : Seat K S V) → i < length seats → is_some (kept_end (slice_index_or seats i d).station) ≡ true
  AreOver false seats = (i : ℕ) × (i < length seats) × GoesAt seats i
