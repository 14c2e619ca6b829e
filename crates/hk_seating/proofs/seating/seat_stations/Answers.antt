use Rattle.std.proofs.Common.{◌≡◌, ◌∙◌, ◌+◌, ◌%◌, ◌<◌, ◌≤◌, ◌∷◌, [], ℕ, length, slice_index_or, slice_set, refl, sym, ap₂, subst, arith}
use Rattle.std.specs.Prelude.{vec_len, vec_capacity}
use Rattle.std.proofs.lemmas.List.{append-nil, length-set}
use Rattle.std.proofs.lemmas.List.Elements.{All-set}
use Rattle.hk_loop.specs.declared.seat.Seat.{Seat}
use Rattle.hk_monitor.specs.declared.crew.Crewman.{Crewman}
use Rattle.hk_seating.proofs.Seats.{seats_move, room_at, seated_more, gates_stay, scratches_stay}
use Rattle.hk_seating.proofs.seating.seat_stations.Goals as goal

pub loop-link-init : goal.loop-link-init
loop-link-init g c = record {
  seated = ([], append-nil _, c.requires.empty, omega arith);
  manned = c.requires.manned;
  room = c.requires.room;
  gates = refl;
  scratches = refl;
  stations = c.requires.stations;
  views = c.requires.views;
  pairs_room = refl;
  stations_room = refl;
  views_room = refl;
}

pub push_reserved-requires : goal.push_reserved-requires
push_reserved-requires g c =
    let before = c.loop-link.invariant in
    let crew = c.loop-link.crew.items in
    let n : ℕ = length c.pop.new.self.items in
    let m : ℕ = length c.loop-link.pairs.items in
    let p : ℕ = c.len.result % c.len-in-Some.result in
    let old = c.index_mut.result.now in
    let n_is : c.len.result ≡ n = c.len.ensures ∙ c.pop.new.self.ok.0 in
    let crew_is : c.len-in-Some.result ≡ length crew = c.len-in-Some.ensures ∙ c.loop-link.crew.ok.0 in
    let place : p ≡ n % length crew = ap₂ (λ (a b : ℕ). a % b) n_is crew_is in
    let next : m ≡ n + 1 = omega (arith, c.loop-link.pairs.ok.0, c.pop.new.self.ok.0, c.in-Some.ensures.len) in
    let inside : p < length crew = omega (arith, place, before.manned) in
    let short : length (slice_index_or crew p old).seats.items ≤ length before.seated.0 = room_at crew n m p before.manned place next before.seated.0 old before.seated.2 in
    let room = before.room p old inside in
    let total = before.seated.3 in
    let P : Crewman _ _ _ _ → Type 0 = λ w. vec_len w.seats < vec_capacity w.seats in
    subst P (sym c.index_mut.ensures.value) (omega (arith, short, room, total, next, (slice_index_or crew p old).seats.ok.0))

pub loop-link-preserved : goal.loop-link-preserved
loop-link-preserved g c =
    let before = c.loop-link.invariant in
    let crew = c.loop-link.crew.items in
    let n : ℕ = length c.pop.new.self.items in
    let m : ℕ = length c.loop-link.pairs.items in
    let p : ℕ = c.len.result % c.len-in-Some.result in
    let old = c.index_mut.result.now in
    let new : Crewman _ _ _ _ = record { seats = c.push_reserved.new.self; gate = old.gate; scratch = old.scratch } in
    let seat : Seat _ _ _ = record { link = c.in-Some.link; log = c.in-Some.log; station = c.in-Some-pop.station; view = c.in-Some-pop-2.view } in
    let n_is : c.len.result ≡ n = c.len.ensures ∙ c.pop.new.self.ok.0 in
    let crew_is : c.len-in-Some.result ≡ length crew = c.len-in-Some.ensures ∙ c.loop-link.crew.ok.0 in
    let place : p ≡ n % length crew = ap₂ (λ (a b : ℕ). a % b) n_is crew_is in
    let next : m ≡ n + 1 = omega (arith, c.loop-link.pairs.ok.0, c.pop.new.self.ok.0, c.in-Some.ensures.len) in
    let inside : p < length crew = omega (arith, place, before.manned) in
    let stations_long : length c.pop-in-Some.new.self.items ≡ n =
    omega (arith, next, before.stations, c.loop-link.stations.ok.0, c.pop-in-Some.new.self.ok.0, c.in-Some-pop.ensures.len) in
    let views_long : length c.pop-in-Some-2.new.self.items ≡ n =
    omega (arith, next, before.views, c.loop-link.views.ok.0, c.pop-in-Some-2.new.self.ok.0, c.in-Some-pop-2.ensures.len) in
    let rest = before.seated.0 in
    let total = before.seated.3 in
    let long : length (slice_set crew p new) ≡ length crew = length-set crew p new in
    let room : length c.args.pairs.now.items ≤ vec_capacity old.seats =
    subst (λ (w : Crewman _ _ _ _). length c.args.pairs.now.items ≤ vec_capacity w.seats) (sym c.index_mut.ensures.value) (before.room p old inside) in
    record {
      seated = (
        seat ∷ rest,
        seats_move c.pop.new.self.items c.loop-link.pairs.items (c.in-Some.link, c.in-Some.log)
            c.pop-in-Some.new.self.items c.loop-link.stations.items c.in-Some-pop.station c.pop-in-Some-2.new.self.items c.loop-link.views.items c.in-Some-pop-2.view rest _
            c.in-Some.ensures.items c.in-Some-pop.ensures.items c.in-Some-pop-2.ensures.items stations_long views_long before.seated.1,
        seated_more crew n m p before.manned place next rest old new seat c.index_mut.ensures.value c.push_reserved.ensures.items before.seated.2,
        omega (arith, total, next),
      );
      manned = omega (arith, long, before.manned);
      room = All-set (λ (w : Crewman _ _ _ _). length c.args.pairs.now.items ≤ vec_capacity w.seats) crew p new (omega (arith, room, c.push_reserved.ensures.capacity)) before.room;
      gates = gates_stay crew p old new c.index_mut.ensures.value refl ∙ before.gates;
      scratches = scratches_stay crew p old new c.index_mut.ensures.value refl ∙ before.scratches;
      stations = stations_long;
      views = views_long;
      pairs_room = c.in-Some.ensures.capacity ∙ before.pairs_room;
      stations_room = c.in-Some-pop.ensures.capacity ∙ before.stations_room;
      views_room = c.in-Some-pop-2.ensures.capacity ∙ before.views_room;
    }
