-- Calls that were granted, and what they handed out.
use Rattle.std.proofs.Common.{◌≡◌, ◌∙◌, ◌+◌, ◌<◌, ℕ, zero, suc, true, false, List, [], ◌∷◌, ◌++◌, map, Result, Ok, Err, sym, ap, subst, arith}
use Rattle.std.specs.Prelude.{OnErr}
use Rattle.std.specs.List.{All, range_with_len}
use Rattle.std.proofs.lemmas.List.{map-append}
use Rattle.std.proofs.lemmas.List.Elements.{All-nil, All-cons, All-append}
use Rattle.hk_outside.specs.Doors.{Doorway, held_at}
use Rattle.hk_outside.specs.declared.door.Ask.{Ask}
use Rattle.hk_outside.specs.declared.door.Ask.TheVariants as asks
use Rattle.hk_outside.specs.declared.door.Call.{Call}
use Rattle.hk_outside.specs.declared.door.Held.TheVariants.{Back}
use Rattle.hk_spec_monitor.specs.Devices.{granted, refused, AllAreBack}
use Rattle.hk_opening.specs.Handing.{IsAmong, OnlyTheseAreOut, until_refused}

-- what a call asked for is so, where it was granted
abbrev pub IfGranted : (Ask → Type 0) → Call → Type 0
IfGranted P call = call.ok ≡ true → P call.ask

-- a fact of a failure follows of another
pub on_err : {T E P Q : Type 0} (r : Result T E) → OnErr r P → (P → Q) → OnErr r Q
on_err (Ok x) h f = h
on_err (Err e) h f = f h

-- nothing was asked for
pub none_asked : (door : Doorway) → door.calls ≡ [] → AllAreBack door
none_asked door none = subst (All (IfGranted (λ ask. held_at ask door ≡ Back))) (sym none) (All-nil (IfGranted (λ ask. held_at ask door ≡ Back)))

module _ (P : Ask → Type 0) where
  pub none_granted : (ask : Ask) → All (IfGranted P) (refused ask)
  none_granted ask = All-cons (IfGranted P) (record { ask = ask; ok = false }) [] (λ is. cc) (All-nil (IfGranted P))

  pub all_granted : (f : ℕ → Ask) (a n : ℕ) → ((k : ℕ) → k < a + n → P (f k)) → All (IfGranted P) (granted (map f (range_with_len a n)))
  all_granted f a zero each = All-nil (IfGranted P)
  all_granted f a (suc n) each =
      All-cons (IfGranted P) (record { ask = f a; ok = true }) (granted (map f (range_with_len (a + 1) n)))
      (λ is. each a (omega arith)) (all_granted f (a + 1) n (λ k less. each k (omega (arith, less))))

  pub first_granted : (f : ℕ → Ask) (n : ℕ) → ((k : ℕ) → k < n → P (f k)) → All (IfGranted P) (granted (map f (range_with_len 0 n)))
  first_granted f n each = all_granted f 0 n (λ k less. each k (omega (arith, less)))

  pub granted_until : (f : ℕ → Ask) (n : ℕ) → ((k : ℕ) → k < n → P (f k)) → All (IfGranted P) (until_refused f n)
  granted_until f n each = All-append (IfGranted P) (granted (map f (range_with_len 0 n))) (refused (f n)) (first_granted f n each) (none_granted (f n))

  pub operator_granted : P asks.Operator → All (IfGranted P) (granted (asks.Operator ∷ []))
  operator_granted operator = All-cons (IfGranted P) (record { ask = asks.Operator; ok = true }) [] (λ is. operator) (All-nil (IfGranted P))

  -- all that opens a run was granted
  pub opening_granted : (stations workers : ℕ) → ((n : ℕ) → n < stations → P (asks.Station n)) → P asks.Operator → ((w : ℕ) → w < workers → P (asks.Gate w))
      → All (IfGranted P) (granted (map asks.Station (range_with_len 0 stations) ++ asks.Operator ∷ map asks.Gate (range_with_len 0 workers)))
  opening_granted stations workers of_station operator of_gate =
      let first = map asks.Station (range_with_len 0 stations) in
      let gates = map asks.Gate (range_with_len 0 workers) in
      subst (All (IfGranted P)) (sym (map-append (λ ask. record { ask = ask; ok = true }) first (asks.Operator ∷ gates)))
      (All-append (IfGranted P) (granted first) (granted (asks.Operator ∷ gates)) (first_granted asks.Station stations of_station)
      (All-cons (IfGranted P) (record { ask = asks.Operator; ok = true }) (granted gates) (λ is. operator) (first_granted asks.Gate workers of_gate)))

module _ (many gates : ℕ) (door : Doorway) (calls : List Call) where
  abbrev Among : Ask → Type 0
  Among = IsAmong many gates door

  -- a station was refused
  pub only_stations : calls ≡ [] → door.calls ≡ calls ++ until_refused asks.Station many → OnlyTheseAreOut many gates door
  only_stations none is =
      subst (All (IfGranted Among)) (sym (is ∙ ap (λ (cs : List Call). cs ++ until_refused asks.Station many) none)) (granted_until Among asks.Station many (λ k less. less))

  module _ (before : calls ≡ granted (map asks.Station (range_with_len 0 many))) where
    abbrev stations : List Call
    stations = granted (map asks.Station (range_with_len 0 many))

    all_stations : All (IfGranted Among) stations
    all_stations = first_granted Among asks.Station many (λ k less. less)

    -- the operator was refused
    pub no_operator : door.calls ≡ calls ++ refused asks.Operator → OnlyTheseAreOut many gates door
    no_operator is =
        subst (All (IfGranted Among)) (sym (is ∙ ap (λ (cs : List Call). cs ++ refused asks.Operator) before))
        (All-append (IfGranted Among) stations (refused asks.Operator) all_stations (none_granted Among asks.Operator))

    -- a gate was refused, and the operator is back
    pub only_gates : (mid then_ : List Call) → mid ≡ calls ++ granted (asks.Operator ∷ []) → then_ ≡ mid ++ until_refused asks.Gate gates → door.calls ≡ then_
        → door.operator.held ≡ Back → OnlyTheseAreOut many gates door
    only_gates mid then_ first is same back =
        subst (All (IfGranted Among)) (sym (same ∙ is ∙ ap (λ (cs : List Call). cs ++ until_refused asks.Gate gates) (first ∙ ap (λ (cs : List Call). cs ++ granted (asks.Operator ∷ [])) before)))
        (All-append (IfGranted Among) (stations ++ granted (asks.Operator ∷ [])) (until_refused asks.Gate gates)
        (All-append (IfGranted Among) stations (granted (asks.Operator ∷ [])) all_stations (operator_granted Among back))
        (granted_until Among asks.Gate gates (λ k less. less)))
