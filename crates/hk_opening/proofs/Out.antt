-- One object more is out.
use Rattle.std.proofs.Common.{◌≡◌, ◌∙◌, ◌⊎◌, ◌+◌, ◌≤◌, ◌<◌, ℕ, zero, suc, List, [], ◌∷◌, ◌++◌, length, Some, inl, inr, refl, sym, ap, subst, arith}
use Rattle.std.specs.Prelude.{slice_get}
use Rattle.std.specs.Option.{option_map_or}
use Rattle.std.proofs.lemmas.List.{length-append}
use Rattle.hk_base.specs.Devices.{IsNothing}
use Rattle.hk_base.specs.declared.sink.Sink as sinks
use Rattle.hk_outside.specs.declared.link.Link as links
use Rattle.hk_outside.specs.Doors.{Doorway, IsHandedOut}
use Rattle.hk_outside.specs.declared.door.Ask.TheVariants as asks
use Rattle.hk_outside.specs.declared.door.Held.TheVariants.{Outside}
use Rattle.hk_opening.specs.Handing.{StationsAreOut, GatesAreOut}
use Rattle.hk_opening.proofs.Order.{other_station, other_gate}

pub got_more : {X : Type 0} (xs : List X) (x : X) (m : ℕ) (p : X) → slice_get (xs ++ x ∷ []) m ≡ Some p
    → ((m < length xs) × (slice_get xs m ≡ Some p)) ⊎ ((m ≡ length xs) × (x ≡ p))
got_more [] x zero p is = inr (refl, ap (λ o. option_map_or (λ y. y) o x) is)
got_more [] x (suc m) p is = cc
got_more (y ∷ xs) x zero p is = inl (omega arith, is)
got_more (y ∷ xs) x (suc m) p is = elim (got_more xs x m p is) [
  | inl h ↦ inl (omega (arith, h.0), h.1)
  | inr h ↦ inr (omega (arith, h.0), h.1)
]

module _ {K S : Type 0} (link : links.Ghosts K) (sink : sinks.Ghosts S) where
  pub station_more : (pairs : List (K × S)) (pair : K × S) (old mid new : Doorway) (n : ℕ) → length pairs ≡ n → StationsAreOut link sink pairs old mid
      → IsHandedOut (asks.Station n) (asks.Station n) mid new
      → record { bytes = link.left pair.0; faults = link.faults pair.0 } ≡ (mid.stations n).gives
      → record { bytes = sink.written pair.1; faults = sink.faults pair.1 } ≡ (mid.stations n).takes
      → IsNothing (sink.written pair.1)
      → StationsAreOut link sink (pairs ++ pair ∷ []) old new
  station_more pairs pair old mid new n many before handed gives takes empty =
      let inside : mid.stations n ≡ old.stations n = before.others n (omega (arith, many)) in
      record {
        out = λ m p got. elim (got_more pairs pair m p got) [
          | inl h ↦ ap (λ q. q.held) (handed.others.stations m (other_station m n (λ same. omega (arith, same, many, h.0)))) ∙ before.out m p h.1
          | inr h ↦ subst (λ k. (new.stations k).held ≡ Outside) (sym (h.0 ∙ many)) handed.outside
        ];
        link_told = λ m p got. elim (got_more pairs pair m p got) [
          | inl h ↦ before.link_told m p h.1
          | inr h ↦
              subst (λ (q : K × S). record { bytes = link.left q.0; faults = link.faults q.0 } ≡ (old.stations m).gives) h.1
              (subst (λ k. record { bytes = link.left pair.0; faults = link.faults pair.0 } ≡ (old.stations k).gives) (sym (h.0 ∙ many)) (gives ∙ ap (λ q. q.gives) inside))
        ];
        log_told = λ m p got. elim (got_more pairs pair m p got) [
          | inl h ↦ before.log_told m p h.1
          | inr h ↦
              subst (λ (q : K × S). record { bytes = sink.written q.1; faults = sink.faults q.1 } ≡ (old.stations m).takes) h.1
              (subst (λ k. record { bytes = sink.written pair.1; faults = sink.faults pair.1 } ≡ (old.stations k).takes) (sym (h.0 ∙ many)) (takes ∙ ap (λ q. q.takes) inside))
        ];
        log_empty = λ m p got. elim (got_more pairs pair m p got) [
          | inl h ↦ before.log_empty m p h.1
          | inr h ↦ subst (λ (q : K × S). IsNothing (sink.written q.1)) h.1 empty
        ];
        others = λ m le.
            let more : length pairs + 1 ≤ m = omega (arith, le, length-append pairs (pair ∷ [])) in
            handed.others.stations m (other_station m n (λ same. omega (arith, same, many, more))) ∙ before.others m (omega (arith, more));
      }

module _ {G : Type 0} (faults : G → ℕ) where
  pub gates_stay : (gates : List G) (old mid new : Doorway) → GatesAreOut faults gates old mid → ((w : ℕ) → new.gates w ≡ mid.gates w) → GatesAreOut faults gates old new
  gates_stay gates old mid new before same = record {
    out = λ w gate got. ap (λ h. h.held) (same w) ∙ before.out w gate got;
    told = before.told;
    others = λ w le. same w ∙ before.others w le;
  }

  pub gate_more : (gates : List G) (gate : G) (old mid new : Doorway) (n : ℕ) → length gates ≡ n → GatesAreOut faults gates old mid
      → IsHandedOut (asks.Gate n) (asks.Gate n) mid new → faults gate ≡ (mid.gates n).faults → GatesAreOut faults (gates ++ gate ∷ []) old new
  gate_more gates gate old mid new n many before handed told =
      let inside : mid.gates n ≡ old.gates n = before.others n (omega (arith, many)) in
      record {
        out = λ m g got. elim (got_more gates gate m g got) [
          | inl h ↦ ap (λ q. q.held) (handed.others.gates m (other_gate m n (λ same. omega (arith, same, many, h.0)))) ∙ before.out m g h.1
          | inr h ↦ subst (λ k. (new.gates k).held ≡ Outside) (sym (h.0 ∙ many)) handed.outside
        ];
        told = λ m g got. elim (got_more gates gate m g got) [
          | inl h ↦ before.told m g h.1
          | inr h ↦
              subst (λ (q : G). faults q ≡ (old.gates m).faults) h.1
              (subst (λ k. faults gate ≡ (old.gates k).faults) (sym (h.0 ∙ many)) (told ∙ ap (λ q. q.faults) inside))
        ];
        others = λ m le.
            let more : length gates + 1 ≤ m = omega (arith, le, length-append gates (gate ∷ [])) in
            handed.others.gates m (other_gate m n (λ same. omega (arith, same, many, more))) ∙ before.others m (omega (arith, more));
      }
