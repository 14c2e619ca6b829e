-- A worker's seats while stations come and go.
use Rattle.std.proofs.Common.{◌≡◌, ◌∙◌, ◌+◌, ◌%◌, ◌≤◌, ◌<◌, ℕ, List, [], ◌∷◌, ◌++◌, map, length, replicate, take, drop, slice_index_or, slice_set, refl, sym, ap, ap₂, subst, arith, append_assoc}
use Rattle.std.specs.List.{All}
use Rattle.std.proofs.Math.ListN.{length-map, get_or-map}
use Rattle.std.proofs.Math.Seq.{map-set_same}
use Rattle.std.proofs.lemmas.List.{length-set, map-set, map_push, get_or_default, set-set, set-get_or, same_from_push}
use Rattle.hk_station.specs.declared.station.Station.{Station}
use Rattle.hk_loop.specs.declared.seat.Seat.{Seat}
use Rattle.hk_monitor.specs.declared.crew.Crewman.{Crewman}
use Rattle.hk_seating.specs.Dealing.{dealt, with_last}
use Rattle.hk_seating.specs.Seating.{seats_of, AreOf, gates_of, rows_of}
use Rattle.hk_monitor.proofs.Gathering.{entry}
use Rattle.hk_seating.proofs.Lists.{next_of, one_longer}
use Rattle.hk_seating.proofs.Alike.{empty_is}
use Rattle.hk_seating.proofs.Dealt.{row, came, short_rows}

module _ {K S V : Type 0} where
  -- one more of each is one more seat
  pub seats_more : (pairs : List (K × S)) (pair : K × S) (stations : List Station) (station : Station) (views : List V) (view : V)
      → length stations ≡ length pairs → length views ≡ length pairs
      → seats_of (pairs ++ pair ∷ []) (stations ++ station ∷ []) (views ++ view ∷ [])
      ≡ seats_of pairs stations views ++ record { link = pair.0; log = pair.1; station = station; view = view } ∷ []
  seats_more [] pair [] station [] view stations_long views_long = refl
  seats_more [] pair (s ∷ ss) station views view stations_long views_long = absurd (omega (arith, stations_long))
  seats_more [] pair [] station (v ∷ vs) view stations_long views_long = absurd (omega (arith, views_long))
  seats_more (p ∷ ps) pair [] station views view stations_long views_long = absurd (omega (arith, stations_long))
  seats_more (p ∷ ps) pair (s ∷ ss) station [] view stations_long views_long = absurd (omega (arith, views_long))
  seats_more (p ∷ ps) pair (s ∷ ss) station (v ∷ vs) view stations_long views_long =
      ap (λ (t : List (Seat K S V)). record { link = p.0; log = p.1; station = s; view = v } ∷ t)
      (seats_more ps pair ss station vs view (omega (arith, stations_long)) (omega (arith, views_long)))

  -- it was the last that was left, and is now the first of the others
  pub seats_move : (pairs all_pairs : List (K × S)) (pair : K × S) (stations all_stations : List Station) (station : Station) (views all_views : List V) (view : V) (rest whole : List (Seat K S V))
      → all_pairs ≡ pairs ++ pair ∷ [] → all_stations ≡ stations ++ station ∷ [] → all_views ≡ views ++ view ∷ []
      → length stations ≡ length pairs → length views ≡ length pairs → seats_of all_pairs all_stations all_views ++ rest ≡ whole
      → seats_of pairs stations views ++ record { link = pair.0; log = pair.1; station = station; view = view } ∷ rest ≡ whole
  seats_move pairs all_pairs pair stations all_stations station views all_views view rest whole pairs_are stations_are views_are stations_long views_long is =
      let seat : Seat K S V = record { link = pair.0; log = pair.1; station = station; view = view } in
      let all : seats_of (pairs ++ pair ∷ []) (stations ++ station ∷ []) (views ++ view ∷ []) ≡ seats_of all_pairs all_stations all_views =
      ap₂ (λ (ps : List (K × S)) (ss : List Station). seats_of ps ss (views ++ view ∷ [])) (sym pairs_are) (sym stations_are)
      ∙ ap (λ (vs : List V). seats_of all_pairs all_stations vs) (sym views_are) in
      sym (append_assoc (seats_of pairs stations views) (seat ∷ []) rest)
      ∙ ap (λ (t : List (Seat K S V)). t ++ rest) (sym (seats_more pairs pair stations station views view stations_long views_long) ∙ all)
      ∙ is

  -- one more that came out
  out_more : (seats : List (Seat K S V)) (seat : Seat K S V) (pairs : List (K × S)) (stations : List Station) (views : List V) → AreOf seats pairs stations views
      → AreOf (seats ++ seat ∷ []) (pairs ++ (seat.link, seat.log) ∷ []) (stations ++ seat.station ∷ []) (views ++ seat.view ∷ [])
  out_more seats seat pairs stations views are = record {
    pairs_are = ap (λ (t : List (K × S)). t ++ (seat.link, seat.log) ∷ []) are.pairs_are ∙ sym (map_push (λ s. (s.link, s.log)) seats seat);
    stations_are = ap (λ (t : List Station). t ++ seat.station ∷ []) are.stations_are ∙ sym (map_push (λ s. s.station) seats seat);
    views_are = ap (λ (t : List V). t ++ seat.view ∷ []) are.views_are ∙ sym (map_push (λ s. s.view) seats seat);
  }

module _ {K S G V : Type 0} (crew : List (Crewman K S G V)) where
  -- the seats of a worker
  pub row_of : (p : ℕ) (d : Crewman K S G V) → p < length crew → row (rows_of crew) p ≡ (slice_index_or crew p d).seats.items
  row_of p d inside =
      let long = length-map crew (λ (w : Crewman K S G V). w.seats.items) in
      get_or_default (rows_of crew) p [] d.seats.items (omega (arith, long, inside)) ∙ get_or-map (λ (w : Crewman K S G V). w.seats.items) crew p d

  pub rows_empty : All (λ worker. length worker.seats.items ≡ 0) crew → rows_of crew ≡ replicate (length crew) []
  rows_empty none = empty_is (length crew) (rows_of crew) (length-map crew (λ (w : Crewman K S G V). w.seats.items)) (λ w inside.
      let worker = entry crew w inside in
      ap length (row_of w worker.0 inside) ∙ none w worker.0 inside)

  module _ (n m p : ℕ) (some : 0 < length crew) (place : p ≡ n % length crew) (next : m ≡ n + 1) where
    inside : p < length crew
    inside = omega (arith, some, place)

    module _ (rest : List (Seat K S V)) where
      -- no more sit at a worker than are seated
      pub room_at : (d : Crewman K S G V) → rows_of crew ≡ dealt (length crew) m rest → length (slice_index_or crew p d).seats.items ≤ length rest
      room_at d is =
          let short = short_rows (length crew) some m p rest in
          let now = ap (λ (rs : List (List (Seat K S V))). length (row rs p)) is in
          let here = ap length (row_of p d inside) in
          omega (arith, short, now, here)

      -- the next station is seated
      pub seated_more : (old new : Crewman K S G V) (seat : Seat K S V) → old ≡ slice_index_or crew p old → new.seats.items ≡ old.seats.items ++ seat ∷ []
          → rows_of crew ≡ dealt (length crew) m rest → rows_of (slice_set crew p new) ≡ dealt (length (slice_set crew p new)) n (seat ∷ rest)
      seated_more old new seat old_is new_is is =
          let W : ℕ = length crew in
          let before : List (List (Seat K S V)) = dealt W (n + 1) rest in
          let rows_are : rows_of crew ≡ before = is ∙ ap (λ (k : ℕ). dealt W k rest) next in
          let seats_are : new.seats.items ≡ row before p ++ seat ∷ [] =
          new_is ∙ ap (λ (w : Crewman K S G V). w.seats.items ++ seat ∷ []) old_is
          ∙ ap (λ (t : List (Seat K S V)). t ++ seat ∷ []) (sym (row_of p old inside) ∙ ap (λ (rs : List (List (Seat K S V))). row rs p) rows_are) in
          map-set (λ w. w.seats.items) crew p new
          ∙ ap₂ (λ (rs : List (List (Seat K S V))) (t : List (Seat K S V)). slice_set rs p t) rows_are seats_are
          ∙ ap (λ (q : ℕ). with_last before q seat) place
          ∙ ap (λ (k : ℕ). dealt k n (seat ∷ rest)) (sym (length-set crew p new))

    module _ (seats : List (Seat K S V)) (left : n < length seats) (is : rows_of crew ≡ dealt (length crew) n (drop n seats)) where
      following : List (List (Seat K S V))
      following = dealt (length crew) (n + 1) (drop (n + 1) seats)

      first : Seat K S V
      first = (next_of seats n left).0

      rows_are : rows_of crew ≡ with_last following (n % length crew) first
      unfolding following first
      rows_are = is ∙ ap (dealt (length crew) n) (next_of seats n left).1

      -- the last seat of the worker is the station of the least number that is left
      last_at : (d : Crewman K S G V) → (slice_index_or crew p d).seats.items ≡ row following p ++ first ∷ []
      unfolding following first
      last_at d = sym (row_of p d inside) ∙ ap (λ (rs : List (List (Seat K S V))). row rs p) rows_are ∙ came (length crew) some n p first (drop (n + 1) seats) place

      pub sits_there : (d : Crewman K S G V) → 0 < length (slice_index_or crew p d).seats.items
      sits_there d = let long = one_longer (slice_index_or crew p d).seats.items (row following p) first (last_at d) in omega (arith, long)

      module _ (old new : Crewman K S G V) (gone : Seat K S V) (old_is : old ≡ slice_index_or crew p old) (less : old.seats.items ≡ new.seats.items ++ gone ∷ []) where
        split : (row following p ≡ new.seats.items) × (first ≡ gone)
        split = same_from_push (row following p) new.seats.items first gone (sym (last_at old) ∙ ap (λ (w : Crewman K S G V). w.seats.items) (sym old_is) ∙ less)

        -- it leaves, and the others sit as they were dealt
        pub seated_less : rows_of (slice_set crew p new) ≡ dealt (length (slice_set crew p new)) m (drop m seats)
        unfolding following
        seated_less =
            let full : List (Seat K S V) = row following p ++ first ∷ [] in
            map-set (λ w. w.seats.items) crew p new
            ∙ ap₂ (λ (rs : List (List (Seat K S V))) (t : List (Seat K S V)). slice_set rs p t) (rows_are ∙ ap (λ (q : ℕ). with_last following q first) (sym place)) (sym split.0)
            ∙ set-set following p full (row following p)
            ∙ set-get_or following p []
            ∙ ap₂ (λ (k j : ℕ). dealt k j (drop j seats)) (sym (length-set crew p new)) (sym next)

        pub taken_more : take m seats ≡ take n seats ++ gone ∷ []
        unfolding first
        taken_more = ap (λ (j : ℕ). take j seats) next ∙ (next_of seats n left).2 ∙ ap (λ (s : Seat K S V). take n seats ++ s ∷ []) split.1

        pub out_next : (pairs pairs' : List (K × S)) (stations stations' : List Station) (views views' : List V) → AreOf (take n seats) pairs stations views
            → pairs' ≡ pairs ++ (gone.link, gone.log) ∷ [] → stations' ≡ stations ++ gone.station ∷ [] → views' ≡ views ++ gone.view ∷ []
            → AreOf (take m seats) pairs' stations' views'
        out_next pairs pairs' stations stations' views views' are pairs_are stations_are views_are =
            let more = out_more (take n seats) gone pairs stations views are in
            subst (λ (ss : List (Seat K S V)). AreOf ss pairs' stations' views') (sym taken_more) (record {
              pairs_are = pairs_are ∙ more.pairs_are;
              stations_are = stations_are ∙ more.stations_are;
              views_are = views_are ∙ more.views_are;
            })

  -- the gates stay where the seats of one worker change, and so do the scratches
  pub gates_stay : (p : ℕ) (old new : Crewman K S G V) → old ≡ slice_index_or crew p old → new.gate ≡ old.gate → gates_of (slice_set crew p new) ≡ gates_of crew
  gates_stay p old new old_is same = map-set_same (λ (w : Crewman K S G V). w.gate) crew p new old (same ∙ ap (λ (w : Crewman K S G V). w.gate) old_is)

  pub scratches_stay : (p : ℕ) (old new : Crewman K S G V) → old ≡ slice_index_or crew p old → new.scratch ≡ old.scratch
      → map (λ worker. worker.scratch) (slice_set crew p new) ≡ map (λ worker. worker.scratch) crew
  scratches_stay p old new old_is same = map-set_same (λ (w : Crewman K S G V). w.scratch) crew p new old (same ∙ ap (λ (w : Crewman K S G V). w.scratch) old_is)
