-- What is found over the seats of a crew.
use Rattle.std.proofs.Common.{◌≡◌, ◌⊎◌, inl, inr, ◌≤◌, ◌<◌, ℕ, zero, suc, Bool, true, false, cond, Option, Some, None, List, fold, slice_get, slice_index_or, length, refl, sym, ◌∙◌, ap, subst, arith}
use Rattle.std.specs.List.{All}
use Rattle.std.proofs.lemmas.Bool.Decides.{leb_tells}
use Rattle.hk_station.specs.Hearing.{station_number, version_of}
use Rattle.hk_station.specs.declared.station.Station.{Station}
use Rattle.hk_loop.specs.declared.seat.Seat.{Seat}
use Rattle.hk_publish.specs.Known.{Known}
use Rattle.hk_spec_monitor.proofs.Legal.{some_of}
use Rattle.hk_spec_monitor.proofs.Logs.{past_end}
use Rattle.hk_monitor.specs.declared.crew.Crewman.{Crewman}
use Rattle.hk_monitor.specs.declared.crew.Mismatch.{Mismatch}
use Rattle.hk_monitor.specs.Crew.{NoneIsOver, IsFirstOver}
use Rattle.hk_monitor.specs.Over.{over_of, earlier, with_seat, first_of_seats, first_of_crew}
use Rattle.hk_monitor.proofs.Picking.{Picks, AnyHas, AllLeast, fold_picks}

abbrev key : Mismatch → ℕ
key m = m.station

module _ (published : ℕ) where
  -- what is told of a station that is over so many
  record Tells (station : Station) (m : Mismatch) : Type 0 where
    pub station_is : m.station ≡ station_number station
    pub seen : m.seen ≡ version_of station
    pub desk : m.desk ≡ published
    pub over : m.desk < m.seen

  abbrev IsLeast : Station → Mismatch → Type 0
  IsLeast station m = published < version_of station → m.station ≤ station_number station

  abbrev IsNotOver : Station → Type 0
  IsNotOver station = version_of station ≤ published

  abbrev shown : Station → Mismatch
  shown station = record { station = station_number station; seen = version_of station; desk = published }

  -- a station that isn't over, or is
  looked_at : (station : Station) → ((over_of published station ≡ None) × IsNotOver station) ⊎ ((over_of published station ≡ Some (shown station)) × (published < version_of station))
  looked_at station = elim (leb_tells (version_of station) published) [
    | inl is ↦ inl (ap (λ (b : Bool). cond b None (Some (shown station))) is.0, is.1)
    | inr over ↦ inr (ap (λ (b : Bool). cond b None (Some (shown station))) over.0, over.1)
  ]

  told : (station : Station) (m : Mismatch) → over_of published station ≡ Some m → Tells station m
  told station m is = elim (looked_at station) [
    | inl low ↦ past_end m (Tells station m) (sym low.0 ∙ is)
    | inr high ↦ subst (Tells station) (some_of (shown station) m (sym high.0 ∙ is)) (record { station_is = refl; seen = refl; desk = refl; over = high.1 })
  ]

  -- of two the earlier one is one of them, and no later than either
  earlier_none : (found other : Option Mismatch) → earlier found other ≡ None → (found ≡ None) × (other ≡ None)
  earlier_none None other is = (refl, is)
  earlier_none (Some m) None is = past_end m ((Some m ≡ None) × (None ≡ None)) (sym is)
  earlier_none (Some m) (Some n) is = elim (leb_tells m.station n.station) [
    | inl less ↦ past_end m ((Some m ≡ None) × (Some n ≡ None)) (sym is ∙ ap (λ (b : Bool). cond b (Some m) (Some n)) less.0)
    | inr more ↦ past_end n ((Some m ≡ None) × (Some n ≡ None)) (sym is ∙ ap (λ (b : Bool). cond b (Some m) (Some n)) more.0)
  ]

  earlier_is : (found other : Option Mismatch) (m : Mismatch) → earlier found other ≡ Some m → (found ≡ Some m) ⊎ (other ≡ Some m)
  earlier_is None other m is = inr is
  earlier_is (Some f) None m is = inl is
  earlier_is (Some f) (Some n) m is = elim (leb_tells f.station n.station) [
    | inl less ↦ inl (sym (ap (λ (b : Bool). cond b (Some f) (Some n)) less.0) ∙ is)
    | inr more ↦ inr (sym (ap (λ (b : Bool). cond b (Some f) (Some n)) more.0) ∙ is)
  ]

  earlier_low : (found other : Option Mismatch) (m : Mismatch) → earlier found other ≡ Some m
      → ((f : Mismatch) → found ≡ Some f → m.station ≤ f.station) × ((n : Mismatch) → other ≡ Some n → m.station ≤ n.station)
  earlier_low None other m is = (
    λ f was. past_end f (m.station ≤ f.station) was,
    λ n was. let same : m ≡ n = some_of m n (sym is ∙ was) in omega (arith, ap key same),
  )
  earlier_low (Some f) None m is = (
    λ g was. let same : m ≡ g = some_of m g (sym is ∙ was) in omega (arith, ap key same),
    λ n was. past_end n (m.station ≤ n.station) was,
  )
  earlier_low (Some f) (Some n) m is = elim (leb_tells f.station n.station) [
    | inl less ↦
        let first : f ≡ m = some_of f m (sym (ap (λ (b : Bool). cond b (Some f) (Some n)) less.0) ∙ is) in (
          λ g was. let same : f ≡ g = some_of f g was in omega (arith, ap key first, ap key same),
          λ k was. let same : n ≡ k = some_of n k was in omega (arith, ap key first, ap key same, less.1),
        )
    | inr more ↦
        let second : n ≡ m = some_of n m (sym (ap (λ (b : Bool). cond b (Some f) (Some n)) more.0) ∙ is) in (
          λ g was. let same : f ≡ g = some_of f g was in omega (arith, ap key second, ap key same, more.1),
          λ k was. let same : n ≡ k = some_of n k was in omega (arith, ap key second, ap key same),
        )
  ]

  module _ {K S : Type 0} where
    abbrev Has : Seat K S Known → Mismatch → Type 0
    Has seat m = Tells seat.station m

    abbrev Least : Seat K S Known → Mismatch → Type 0
    Least seat m = IsLeast seat.station m

    abbrev Clear : Seat K S Known → Type 0
    Clear seat = IsNotOver seat.station

    -- of a seat that isn't over nothing is told
    clear_seat : (seat : Seat K S Known) → over_of published seat.station ≡ None → Clear seat
    clear_seat seat is = elim (looked_at seat.station) [
      | inl low ↦ low.1
      | inr high ↦ past_end (shown seat.station) (Clear seat) (sym is ∙ high.0)
    ]

    least_seat : (found : Option Mismatch) (seat : Seat K S Known) (m : Mismatch) → with_seat published found seat ≡ Some m → Least seat m
    least_seat found seat m is = elim (looked_at seat.station) [
      | inl low ↦ λ over. absurd (omega (arith, low.1, over))
      | inr high ↦ λ over. (earlier_low found (over_of published seat.station) m is).1 (shown seat.station) high.0
    ]

    seat_picks : Picks key Has Least Clear (with_seat published)
    seat_picks = record {
      none = λ found seat is. let both = earlier_none found (over_of published seat.station) is in (both.0, clear_seat seat both.1);
      some = λ found seat m is. elim (earlier_is found (over_of published seat.station) m is) [ inl was ↦ inl was | inr at ↦ inr (told seat.station m at) ];
      before = λ found seat m f is was. (earlier_low found (over_of published seat.station) m is).0 f was;
      least = λ found seat m is. least_seat found seat m is;
      lower = λ seat m n less low. λ over. let high = low over in omega (arith, less, high);
      clear = λ seat m low. λ over. absurd (omega (arith, low, over));
    }

    module _ {G : Type 0} where
      abbrev with_worker : Option Mismatch → Crewman K S G Known → Option Mismatch
      with_worker found worker = first_of_seats published found worker.seats.items

      -- so it is of a worker's seats, and of all workers
      worker_picks : Picks key (λ (worker : Crewman K S G Known) m. AnyHas key Has Least Clear (with_seat published) worker.seats.items m) (λ worker m. AllLeast key Has Least Clear (with_seat published) worker.seats.items m)
          (λ worker. All Clear worker.seats.items) with_worker
      worker_picks =
          let seats = fold_picks key Has Least Clear (with_seat published) seat_picks in
          record {
            none = λ found worker is. seats.none found worker.seats.items is;
            some = λ found worker m is. seats.some found worker.seats.items m is;
            before = λ found worker m f is was. seats.before found worker.seats.items m f is was;
            least = λ found worker m is. seats.least found worker.seats.items m is;
            lower = λ worker m n less low. seats.lower worker.seats.items m n less low;
            clear = λ worker m all. seats.clear worker.seats.items m all;
          }

      crew_picks : Picks key (AnyHas key (λ (worker : Crewman K S G Known) m. AnyHas key Has Least Clear (with_seat published) worker.seats.items m) (λ worker m. AllLeast key Has Least Clear (with_seat published) worker.seats.items m) (λ worker. All Clear worker.seats.items) with_worker)
          (AllLeast key (λ (worker : Crewman K S G Known) m. AnyHas key Has Least Clear (with_seat published) worker.seats.items m) (λ worker m. AllLeast key Has Least Clear (with_seat published) worker.seats.items m) (λ worker. All Clear worker.seats.items) with_worker)
          (All (λ worker. All Clear worker.seats.items)) (fold with_worker)
      crew_picks = fold_picks key (λ (worker : Crewman K S G Known) m. AnyHas key Has Least Clear (with_seat published) worker.seats.items m) (λ worker m. AllLeast key Has Least Clear (with_seat published) worker.seats.items m)
          (λ worker. All Clear worker.seats.items) with_worker worker_picks

      pub none_is_over : (crew : List (Crewman K S G Known)) → first_of_crew published None crew ≡ None → NoneIsOver published crew
      none_is_over crew is = (crew_picks.none None crew is).1

      pub is_first_over : (crew : List (Crewman K S G Known)) (m : Mismatch) → first_of_crew published None crew ≡ Some m → IsFirstOver published crew m
      is_first_over crew m is = elim (crew_picks.some None crew m is) [
        | inl found ↦ past_end m (IsFirstOver published crew m) found
        | inr there ↦
            let seat = there.3 in
            record {
              worker = there.1;
              seat = seat.1;
              w = there.0;
              k = seat.0;
              at_worker = there.2;
              at_seat = seat.2;
              station = seat.3.station_is;
              seen = seat.3.seen;
              desk = seat.3.desk;
              over = seat.3.over;
              least = crew_picks.least None crew m is;
            }
      ]
