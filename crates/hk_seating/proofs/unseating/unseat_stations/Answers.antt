use Rattle.std.proofs.Common.{◌≡◌, ◌∙◌, ◌+◌, ◌%◌, ◌<◌, ℕ, length, slice_set, refl, sym, ap, subst, arith}
use Rattle.std.proofs.lemmas.List.{length-set}
use Rattle.hk_monitor.specs.declared.crew.Crewman.{Crewman}
use Rattle.hk_seating.proofs.Seats.{sits_there, seated_less, out_next, gates_stay}
use Rattle.hk_seating.proofs.unseating.unseat_stations.Goals as goal

pub unreachable-requires : goal.unreachable-requires
unreachable-requires g c =
    let before = c.loop-number.invariant in
    let crew = c.loop-number.crew.items in
    let n : ℕ = c.loop-number.number in
    let p : ℕ = n % c.len.result in
    let seats = c.requires.seated.0 in
    let counted = c.requires.seated.2 in
    let place : p ≡ n % length crew = ap (λ (k : ℕ). n % k) (c.len.ensures ∙ c.loop-number.crew.ok.0) in
    let left : n < length seats = omega (arith, counted, c.loop-number-test.true) in
    let there : 0 < length c.index_mut.result.now.seats.items =
    subst (λ (w : Crewman _ _ _ _). 0 < length w.seats.items) (sym c.index_mut.ensures.value)
    (sits_there crew n (n + 1) p before.manned place refl seats left (before.seated seats c.requires.seated.1 counted) c.index_mut.result.now) in
    omega (arith, there, c.in_default.ensures.cases.0, c.index_mut.result.now.seats.ok.0)

pub loop-number-preserved : goal.loop-number-preserved
loop-number-preserved g c =
    let before = c.loop-number.invariant in
    let crew = c.loop-number.crew.items in
    let n : ℕ = c.loop-number.number in
    let p : ℕ = n % c.len.result in
    let old = c.index_mut.result.now in
    let new : Crewman _ _ _ _ = record { seats = c.pop.new.self; gate = old.gate; scratch = old.scratch } in
    let place : p ≡ n % length crew = ap (λ (k : ℕ). n % k) (c.len.ensures ∙ c.loop-number.crew.ok.0) in
    let long : length (slice_set crew p new) ≡ length crew = length-set crew p new in
    record {
      seated = λ seats seated counted. seated_less crew n (n + 1) p before.manned place refl seats (omega (arith, counted, c.loop-number-test.true))
          (before.seated seats seated counted) old new c.in-Some.field-0 c.index_mut.ensures.value c.in-Some.ensures.items;
      out = λ seats seated counted. out_next crew n (n + 1) p before.manned place refl seats (omega (arith, counted, c.loop-number-test.true))
          (before.seated seats seated counted) old new c.in-Some.field-0 c.index_mut.ensures.value c.in-Some.ensures.items
          c.loop-number.pairs.items c.push_reserved.new.self.items c.loop-number.stations.items c.push_reserved-in-loop-number.new.self.items
          c.loop-number.views.items c.push_reserved-in-loop-number-2.new.self.items (before.out seats seated counted)
          c.push_reserved.ensures.items c.push_reserved-in-loop-number.ensures.items c.push_reserved-in-loop-number-2.ensures.items;
      manned = omega (arith, long, before.manned);
      gates = gates_stay crew p old new c.index_mut.ensures.value refl ∙ before.gates;
      pairs = omega (arith, before.pairs, c.push_reserved.ensures.len, c.push_reserved.new.self.ok.0, c.loop-number.pairs.ok.0);
      stations = omega (arith, before.stations, c.push_reserved-in-loop-number.ensures.len, c.push_reserved-in-loop-number.new.self.ok.0, c.loop-number.stations.ok.0);
      views = omega (arith, before.views, c.push_reserved-in-loop-number-2.ensures.len, c.push_reserved-in-loop-number-2.new.self.ok.0, c.loop-number.views.ok.0);
      pairs_room = omega (arith, before.pairs_room, c.push_reserved.ensures.capacity);
      stations_room = omega (arith, before.stations_room, c.push_reserved-in-loop-number.ensures.capacity);
      views_room = omega (arith, before.views_room, c.push_reserved-in-loop-number-2.ensures.capacity);
    }
