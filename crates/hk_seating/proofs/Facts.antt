-- What is true of all stations is true in all seats, and what seats are made of.
use Rattle.std.proofs.Common.{◌≡◌, ◌∙◌, ◌+◌, ◌%◌, ◌≤◌, ◌<◌, ℕ, suc, List, [], ◌∷◌, length, Some, slice_get, slice_index_or, refl, sym, ap, subst, arith}
use Rattle.std.specs.List.{All}
use Rattle.std.proofs.lemmas.List.Elements.{All-nil, All-cons}
use Rattle.std.proofs.lemmas.Option.{slice_get-get_or, get_or_from_slice_get, slice_get_within}
use Rattle.hk_station.specs.declared.station.Station.{Station}
use Rattle.hk_loop.specs.declared.seat.Seat.{Seat}
use Rattle.hk_monitor.specs.declared.crew.Crewman.{Crewman}
use Rattle.hk_monitor.proofs.Gathering.{entry}
use Rattle.hk_seating.specs.Dealing.{dealt}
use Rattle.hk_seating.specs.Seating.{seats_of, AreOf, AreSeated}
use Rattle.hk_seating.proofs.Dealt.{row, has_place, has_number, short_rows}
use Rattle.hk_seating.proofs.Seats.{row_of}

-- it is true of the element at a place
pub at_place : {A : Type 0} (P : A → Type 0) (xs : List A) (i : ℕ) (x : A) → slice_get xs i ≡ Some x → All P xs → P x
at_place P xs i x at all = subst P (get_or_from_slice_get xs i x x at) (all i x (slice_get_within xs i x at))

module _ {K S G V : Type 0} (crew : List (Crewman K S G V)) (seats : List (Seat K S V)) (some : 0 < length crew) (seated : AreSeated seats crew) where
  -- the seats of a worker are the row that was dealt to it
  seats_at : (w : ℕ) (d : Crewman K S G V) → w < length crew → (slice_index_or crew w d).seats.items ≡ row (dealt (length crew) 0 seats) w
  seats_at w d inside = sym (row_of crew w d inside) ∙ ap (λ (rows : List (List (Seat K S V))). row rows w) seated

  -- a fact of all stations is one of each seat of the crew
  pub each_seat : (P : Seat K S V → Type 0) → All P seats → All (λ worker. All P worker.seats.items) crew
  each_seat P all w d inside = subst (All P) (sym (seats_at w d inside)) (λ k e there.
      let numbered = has_number (length crew) some 0 w seats k _ (slice_get-get_or (row (dealt (length crew) 0 seats) w) k e there) in
      at_place P seats numbered.0 _ numbered.1 all)

  -- and the other way round
  pub all_seats : (P : Seat K S V → Type 0) → All (λ worker. All P worker.seats.items) crew → All P seats
  all_seats P each n d inside =
      let w : ℕ = (0 + n) % length crew in
      let low : w < length crew = omega (arith, some) in
      let seat : Seat K S V = slice_index_or seats n d in
      let place = has_place (length crew) some 0 w seats n seat refl (slice_get-get_or seats n d inside) in
      let worker = entry crew w low in
      at_place P (row (dealt (length crew) 0 seats) w) place.0 seat place.1 (subst (All P) (seats_at w worker.0 low) (each w worker.0 low))

  -- no worker has more seats than there are stations
  pub few_seats : All (λ worker. length worker.seats.items ≤ length seats) crew
  few_seats w d inside = subst (λ (t : List (Seat K S V)). length t ≤ length seats) (sym (seats_at w d inside)) (short_rows (length crew) some 0 w seats)

-- a fact of all links and logs, of all stations, of all views is one of the seats that they are
module _ {K S V : Type 0} where
  pub all_pairs : (P : K × S → Type 0) (pairs : List (K × S)) (stations : List Station) (views : List V) → All P pairs
      → All (λ seat. P (seat.link, seat.log)) (seats_of pairs stations views)
  all_pairs P [] stations views all = All-nil (λ (seat : Seat K S V). P (seat.link, seat.log))
  all_pairs P (p ∷ ps) [] views all = All-nil (λ (seat : Seat K S V). P (seat.link, seat.log))
  all_pairs P (p ∷ ps) (s ∷ ss) [] all = All-nil (λ (seat : Seat K S V). P (seat.link, seat.log))
  all_pairs P (p ∷ ps) (s ∷ ss) (v ∷ vs) all =
      All-cons (λ (seat : Seat K S V). P (seat.link, seat.log)) (record { link = p.0; log = p.1; station = s; view = v }) (seats_of ps ss vs)
      (all 0 p (omega arith)) (all_pairs P ps ss vs (λ i d inside. all (suc i) d (omega (arith, inside))))

  pub all_stations : (P : Station → Type 0) (pairs : List (K × S)) (stations : List Station) (views : List V) → All P stations
      → All (λ seat. P seat.station) (seats_of pairs stations views)
  all_stations P [] stations views all = All-nil (λ (seat : Seat K S V). P seat.station)
  all_stations P (p ∷ ps) [] views all = All-nil (λ (seat : Seat K S V). P seat.station)
  all_stations P (p ∷ ps) (s ∷ ss) [] all = All-nil (λ (seat : Seat K S V). P seat.station)
  all_stations P (p ∷ ps) (s ∷ ss) (v ∷ vs) all =
      All-cons (λ (seat : Seat K S V). P seat.station) (record { link = p.0; log = p.1; station = s; view = v }) (seats_of ps ss vs)
      (all 0 s (omega arith)) (all_stations P ps ss vs (λ i d inside. all (suc i) d (omega (arith, inside))))

  pub all_views : (P : V → Type 0) (pairs : List (K × S)) (stations : List Station) (views : List V) → All P views
      → All (λ seat. P seat.view) (seats_of pairs stations views)
  all_views P [] stations views all = All-nil (λ (seat : Seat K S V). P seat.view)
  all_views P (p ∷ ps) [] views all = All-nil (λ (seat : Seat K S V). P seat.view)
  all_views P (p ∷ ps) (s ∷ ss) [] all = All-nil (λ (seat : Seat K S V). P seat.view)
  all_views P (p ∷ ps) (s ∷ ss) (v ∷ vs) all =
      All-cons (λ (seat : Seat K S V). P seat.view) (record { link = p.0; log = p.1; station = s; view = v }) (seats_of ps ss vs)
      (all 0 v (omega arith)) (all_views P ps ss vs (λ i d inside. all (suc i) d (omega (arith, inside))))

  pub length_seats : (pairs : List (K × S)) (stations : List Station) (views : List V) → length stations ≡ length pairs → length views ≡ length pairs
      → length (seats_of pairs stations views) ≡ length pairs
  length_seats [] stations views stations_long views_long = refl
  length_seats (p ∷ ps) [] views stations_long views_long = absurd (omega (arith, stations_long))
  length_seats (p ∷ ps) (s ∷ ss) [] stations_long views_long = absurd (omega (arith, views_long))
  length_seats (p ∷ ps) (s ∷ ss) (v ∷ vs) stations_long views_long = ap suc (length_seats ps ss vs (omega (arith, stations_long)) (omega (arith, views_long)))

  pub parts_of : (pairs : List (K × S)) (stations : List Station) (views : List V) → length stations ≡ length pairs → length views ≡ length pairs
      → AreOf (seats_of pairs stations views) pairs stations views
  parts_of [] [] [] stations_long views_long = record { pairs_are = refl; stations_are = refl; views_are = refl }
  parts_of [] (s ∷ ss) views stations_long views_long = absurd (omega (arith, stations_long))
  parts_of [] [] (v ∷ vs) stations_long views_long = absurd (omega (arith, views_long))
  parts_of (p ∷ ps) [] views stations_long views_long = absurd (omega (arith, stations_long))
  parts_of (p ∷ ps) (s ∷ ss) [] stations_long views_long = absurd (omega (arith, views_long))
  parts_of (p ∷ ps) (s ∷ ss) (v ∷ vs) stations_long views_long =
      let rest = parts_of ps ss vs (omega (arith, stations_long)) (omega (arith, views_long)) in
      record {
        pairs_are = ap (λ (t : List (K × S)). p ∷ t) rest.pairs_are;
        stations_are = ap (λ (t : List Station). s ∷ t) rest.stations_are;
        views_are = ap (λ (t : List V). v ∷ t) rest.views_are;
      }
