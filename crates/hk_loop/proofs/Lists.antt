-- Seats at their places.
use Rattle.std.proofs.Common.{◌≡◌, ◌≢◌, ◌⊎◌, inl, inr, ◌≤◌, ◌<◌, ℕ, List, length, slice_index_or, slice_set, refl, sym, ◌∙◌, ap, subst, arith, All, Bool, true, false, Option, Some, None, is_some}
use Rattle.std.proofs.lemmas.Bool.{cases_eq}
use Rattle.std.proofs.lemmas.List.{get_or-set_same, get_or-set_other, length-set}
use Rattle.hk_base.specs.Devices.{Rose}
use Rattle.hk_base.specs.declared.plain.End.{End}
use Rattle.hk_base.specs.declared.plain.End.TheVariants as ends
use Rattle.hk_base.specs.declared.sink.Sink as sinks
use Rattle.hk_outside.specs.declared.link.Link as links
use Rattle.hk_block.specs.declared.looker.Looker as lookers
use Rattle.hk_station.specs.Hearing.{kept_end}
use Rattle.hk_loop.specs.declared.seat.Seat.{Seat}
use Rattle.hk_loop.specs.Serving.{Serves, IsServed, HasServed, Keeps, Closes}
use Rattle.hk_loop.specs.Rows.{Each, GoesAt, GateCounts, AreOver}
use Rattle.hk_loop.proofs.Turns.{listens_first}

pub each_same : {A : Type 0} (P : A → A → Type 0) → ((x : A) → P x x) → (xs : List A) → Each P xs xs
each_same P same xs = record { as_many = refl; each = λ i d inside. same (slice_index_or xs i d) }

pub each_next : {A : Type 0} (P Q R : A → A → Type 0) → ((x y z : A) → P x y → Q y z → R x z) → (xs ys zs : List A) → Each P xs ys → Each Q ys zs → Each R xs zs
each_next P Q R join xs ys zs one two = record {
  as_many = two.as_many ∙ one.as_many;
  each = λ i d inside. join (slice_index_or xs i d) (slice_index_or ys i d) (slice_index_or zs i d) (one.each i d inside) (two.each i d (omega (arith, inside, one.as_many)));
}

-- one of them changes
pub each_set : {A : Type 0} (P : A → A → Type 0) → ((x : A) → P x x) → (xs : List A) (k : ℕ) (y : A) → k < length xs → ((d : A) → P (slice_index_or xs k d) y) → Each P xs (slice_set xs k y)
each_set P same xs k y within changed = record {
  as_many = length-set xs k y;
  each = λ i d inside. elim (cases_eq i k) [
    | inl is ↦ subst (λ (j : ℕ). P (slice_index_or xs j d) (slice_index_or (slice_set xs k y) j d)) (sym is) (subst (P (slice_index_or xs k d)) (sym (get_or-set_same xs k y d within)) (changed d))
    | inr other ↦ subst (P (slice_index_or xs i d)) (sym (get_or-set_other xs k i y d other)) (same (slice_index_or xs i d))
  ];
}

module _ {K S V : Type 0} (link : links.Ghosts K) (sink : sinks.Ghosts S) (looker : lookers.Ghosts V) where
  -- a seat that goes on has been served so far
  begins : (seat : Seat K S V) (gate gate' : ℕ) → kept_end seat.station ≡ None → Serves link sink looker seat seat gate gate'
  begins seat gate gate' going = subst (λ k. IsServed link sink looker k seat seat gate gate') (sym going) (listens_first seat)

module _ {K S V : Type 0} {link : links.Ghosts K} {sink : sinks.Ghosts S} {looker : lookers.Ghosts V} where
  pub keeps_same : (seat : Seat K S V) → Keeps link sink looker seat seat
  keeps_same seat = record { room = refl; serves = λ first gate gate' serves. serves }

  pub keeps_next : (a b c : Seat K S V) → Keeps link sink looker a b → Keeps link sink looker b c → Keeps link sink looker a c
  keeps_next a b c one two = record { room = two.room ∙ one.room; serves = λ first gate gate' serves. two.serves first gate gate' (one.serves first gate gate' serves) }

  -- the views of seats that were kept need as much room
  pub room_kept : (room : ℕ) (xs ys : List (Seat K S V)) → Each (Keeps link sink looker) xs ys → All (λ seat. (looker.looker seat.view).room ≤ room) xs → All (λ seat. (looker.looker seat.view).room ≤ room) ys
  room_kept room xs ys keeps fits = λ i d inside.
      let less = fits i d (omega (arith, inside, keeps.as_many)) in
      let same = (keeps.each i d (omega (arith, inside, keeps.as_many))).room in
      omega (arith, less, same)

  -- a station that is over and was served since it was new
  served_over : (gate gate' : ℕ) (first now : Seat K S V) (o : Option End) → kept_end now.station ≡ o → is_some o ≡ true → Serves link sink looker first now gate gate' → HasServed link sink looker gate gate' first now
  served_over gate gate' first now None is over serves = absurd (let no : false ≡ true = over in cc)
  served_over gate gate' first now (Some end) is over serves = record { end = end; over = is; ends = subst (λ k. IsServed link sink looker k first now gate gate') is serves }

  -- all were kept, and all are over
  pub all_served : (gate : ℕ) (xs ys : List (Seat K S V)) → All (λ seat. kept_end seat.station ≡ None) xs → Each (Keeps link sink looker) xs ys → AreOver true ys
      → Each (HasServed link sink looker gate gate) xs ys
  all_served gate xs ys going keeps over = record {
    as_many = keeps.as_many;
    each = λ i d inside.
        let first = slice_index_or xs i d in
        let now = slice_index_or ys i d in
        served_over gate gate first now (kept_end now.station) refl (over i d (omega (arith, inside, keeps.as_many)))
        ((keeps.each i d inside).serves first gate gate (begins link sink looker first gate gate (going i d inside)));
  }

  -- all were kept, and then the gate failed
  pub all_closed : (gate gate' : ℕ) (xs ys zs : List (Seat K S V)) → All (λ seat. kept_end seat.station ≡ None) xs → Each (Keeps link sink looker) xs ys → Each (Closes link sink looker) ys zs → Rose gate gate'
      → Each (HasServed link sink looker gate gate') xs zs
  all_closed gate gate' xs ys zs going keeps closes rose = record {
    as_many = closes.as_many ∙ keeps.as_many;
    each = λ i d inside.
        let first = slice_index_or xs i d in
        let mid = slice_index_or ys i d in
        let now = slice_index_or zs i d in
        let shut = closes.each i d (omega (arith, inside, keeps.as_many)) in
        served_over gate gate' first now (kept_end now.station) refl (ap is_some shut.over)
        (shut.serves first gate gate' rose ((keeps.each i d inside).serves first gate gate' (begins link sink looker first gate gate' (going i d inside))));
  }

  -- some station goes on when the gate fails
  pub gate_counts : (gate gate' i : ℕ) (ys zs : List (Seat K S V)) → i < length ys → GoesAt ys i → Each (Closes link sink looker) ys zs → Rose gate gate' → GateCounts gate gate' zs
  gate_counts gate gate' i ys zs inside going closes rose = inr (
    rose,
    i,
    (omega (arith, inside, closes.as_many)),
    λ d. let shut = closes.each i d inside in shut.over ∙ ap Some (shut.by_gate (going d)),
  )
