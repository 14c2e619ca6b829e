-- Calls that ask for one object after another.
use Rattle.std.proofs.Common.{◌≡◌, ◌≢◌, ◌∙◌, ◌+◌, ◌≤◌, ◌<◌, ℕ, zero, suc, Bool, true, ◌&&◌, List, [], ◌∷◌, ◌++◌, map, length, filter, Result, Ok, Err, refl, sym, ap, subst, arith, append_assoc}
use Rattle.std.specs.List.{range_with_len}
use Rattle.std.proofs.lemmas.List.{map-append, length-append}
use Rattle.std.proofs.lemmas.List.Elements.{All-nil, All-cons, filter-append}
use Rattle.std.proofs.lemmas.List.FromFn.{map-range_with_len_more}
use Rattle.hk_outside.specs.Doors.{Doorway, IsHandedOut, IsUnasked, gates_asked, gates_given, is_gate}
use Rattle.hk_outside.specs.declared.door.Ask.{Ask}
use Rattle.hk_outside.specs.declared.door.Ask.TheVariants as asks
use Rattle.hk_outside.specs.declared.door.Call.{Call}
use Rattle.hk_spec_monitor.specs.Devices.{granted, refused, UpToRefused}
use Rattle.hk_opening.specs.Handing.{AskedFor, until_refused}

split_at : (a k n : ℕ) → k < n → (later : List ℕ) × (range_with_len a n ≡ range_with_len a k ++ (a + k) ∷ later)
split_at a k zero lt = absurd (omega arith)
split_at a zero (suc m) lt =
    let e : a ≡ a + 0 = omega arith in
    (range_with_len (a + 1) m, ap (λ x. x ∷ range_with_len (a + 1) m) e)
split_at a (suc k) (suc m) lt =
    let h = split_at (a + 1) k m (omega arith) in
    let e : (a + 1) + k ≡ a + suc k = omega arith in
    (h.0, ap (λ t. a ∷ t) (h.1 ∙ ap (λ x. range_with_len (a + 1) k ++ x ∷ h.0) e))

-- one more was handed out
pub one_more : (f : ℕ → Ask) (k : ℕ) (calls now then_ : List Call) → now ≡ calls ++ granted (map f (range_with_len 0 k)) → then_ ≡ now ++ record { ask = f k; ok = true } ∷ []
    → then_ ≡ calls ++ granted (map f (range_with_len 0 (k + 1)))
one_more f k calls now then_ before is =
    let e : 0 + k ≡ k = omega arith in
    let last : List Call = record { ask = f k; ok = true } ∷ [] in
    is ∙ ap (λ (cs : List Call). cs ++ last) before ∙ append_assoc calls (granted (map f (range_with_len 0 k))) last
    ∙ ap (λ (t : List Call). calls ++ t)
    (sym (ap granted (map-range_with_len_more f 0 k k e) ∙ map-append (λ ask. record { ask = ask; ok = true }) (map f (range_with_len 0 k)) (f k ∷ [])))

-- the next one was refused
pub refused_next : (f : ℕ → Ask) (n k : ℕ) (calls now then_ : List Call) → k < n → now ≡ calls ++ granted (map f (range_with_len 0 k)) → then_ ≡ now ++ refused (f k)
    → UpToRefused (map f (range_with_len 0 n)) calls then_
refused_next f n k calls now then_ lt before is =
    let h = split_at 0 k n lt in
    let e : 0 + k ≡ k = omega arith in
    record {
      given = map f (range_with_len 0 k);
      ask = f k;
      later = map f h.0;
      order = ap (map f) h.1 ∙ map-append f (range_with_len 0 k) ((0 + k) ∷ h.0) ∙ ap (λ x. map f (range_with_len 0 k) ++ f x ∷ map f h.0) e;
      made = is ∙ ap (λ (cs : List Call). cs ++ refused (f k)) before ∙ append_assoc calls (granted (map f (range_with_len 0 k))) (refused (f k));
    }

-- so many were handed out, and the next one was refused
pub until_next : (f : ℕ → Ask) (k many : ℕ) (calls now then_ : List Call) → many ≡ k → now ≡ calls ++ granted (map f (range_with_len 0 k)) → then_ ≡ now ++ refused (f k)
    → then_ ≡ calls ++ until_refused f many
until_next f k many calls now then_ count before is =
    is ∙ ap (λ (cs : List Call). cs ++ refused (f k)) before ∙ append_assoc calls (granted (map f (range_with_len 0 k))) (refused (f k))
    ∙ ap (λ (n : ℕ). calls ++ until_refused f n) (sym count)

station_of : Ask → ℕ
station_of (asks.Station n) = n
station_of asks.Operator = 0
station_of (asks.Gate w) = 0

pub other_station : (m n : ℕ) → (m ≡ n → ⊥) → asks.Station m ≢ asks.Station n
unfolding station_of
other_station m n other same = other (ap station_of same)

gate_of : Ask → ℕ
gate_of (asks.Gate w) = w
gate_of asks.Operator = 0
gate_of (asks.Station n) = 0

pub other_gate : (m n : ℕ) → (m ≡ n → ⊥) → asks.Gate m ≢ asks.Gate n
unfolding gate_of
other_gate m n other same = other (ap gate_of same)

pub new_station : (a n k : ℕ) → a + n ≤ k → IsUnasked (asks.Station k) (granted (map asks.Station (range_with_len a n)))
new_station a zero k le = All-nil (λ (call : Call). call.ask ≢ asks.Station k)
new_station a (suc n) k le =
    All-cons (λ (call : Call). call.ask ≢ asks.Station k) (record { ask = asks.Station a; ok = true }) (granted (map asks.Station (range_with_len (a + 1) n)))
    (other_station a k (λ same. omega (arith, same))) (new_station (a + 1) n k (omega arith))

-- the next station wasn't asked for, where all that were are those before it
pub next_station : (k : ℕ) (calls now : List Call) → calls ≡ [] → now ≡ calls ++ granted (map asks.Station (range_with_len 0 k)) → IsUnasked (asks.Station k) now
next_station k calls now none is =
    subst (IsUnasked (asks.Station k)) (sym (is ∙ ap (λ (cs : List Call). cs ++ granted (map asks.Station (range_with_len 0 k))) none)) (new_station 0 k k (omega arith))

pub new_operator : (a n : ℕ) → IsUnasked asks.Operator (granted (map asks.Station (range_with_len a n)))
new_operator a zero = All-nil (λ (call : Call). call.ask ≢ asks.Operator)
new_operator a (suc n) =
    All-cons (λ (call : Call). call.ask ≢ asks.Operator) (record { ask = asks.Station a; ok = true }) (granted (map asks.Station (range_with_len (a + 1) n)))
    (λ same. cc) (new_operator (a + 1) n)

-- ---- gates are counted

pub more_asked : (w : ℕ) (ok : Bool) (calls then_ : List Call) → then_ ≡ calls ++ record { ask = asks.Gate w; ok = ok } ∷ [] → gates_asked then_ ≡ gates_asked calls + 1
more_asked w ok calls then_ is =
    ap gates_asked is ∙ ap length (filter-append (λ (call : Call). is_gate call.ask) calls (record { ask = asks.Gate w; ok = ok } ∷ []))
    ∙ length-append (filter (λ (call : Call). is_gate call.ask) calls) (record { ask = asks.Gate w; ok = ok } ∷ [])

pub more_given : (w : ℕ) (calls then_ : List Call) → then_ ≡ calls ++ record { ask = asks.Gate w; ok = true } ∷ [] → gates_given then_ ≡ gates_given calls + 1
more_given w calls then_ is =
    ap gates_given is ∙ ap length (filter-append (λ (call : Call). is_gate call.ask && call.ok) calls (record { ask = asks.Gate w; ok = true } ∷ []))
    ∙ length-append (filter (λ (call : Call). is_gate call.ask && call.ok) calls) (record { ask = asks.Gate w; ok = true } ∷ [])

none_asked : (a n : ℕ) → gates_asked (granted (map asks.Station (range_with_len a n)) ++ granted (asks.Operator ∷ [])) ≡ 0
none_asked a zero = refl
none_asked a (suc n) = none_asked (a + 1) n

none_given : (a n : ℕ) → gates_given (granted (map asks.Station (range_with_len a n)) ++ granted (asks.Operator ∷ [])) ≡ 0
none_given a zero = refl
none_given a (suc n) = none_given (a + 1) n

-- no gate was asked for among stations and the operator
module _ (n : ℕ) (calls now : List Call) (before : calls ≡ granted (map asks.Station (range_with_len 0 n))) (is : now ≡ calls ++ record { ask = asks.Operator; ok = true } ∷ []) where
  abbrev with_operator : List Call → List Call
  with_operator cs = cs ++ granted (asks.Operator ∷ [])

  pub no_gate_asked : gates_asked now ≡ 0
  no_gate_asked = ap gates_asked (is ∙ ap with_operator before) ∙ none_asked 0 n

  pub no_gate_given : gates_given now ≡ 0
  no_gate_given = ap gates_given (is ∙ ap with_operator before) ∙ none_given 0 n

pub operator_unasked : (n : ℕ) (calls : List Call) → calls ≡ granted (map asks.Station (range_with_len 0 n)) → IsUnasked asks.Operator calls
operator_unasked n calls is = subst (IsUnasked asks.Operator) (sym is) (new_operator 0 n)

-- the operator was asked for before the others
pub operator_first : (others : List Ask) (calls mid then_ last : List Call) → mid ≡ calls ++ record { ask = asks.Operator; ok = true } ∷ [] → UpToRefused others mid then_
    → last ≡ then_ → UpToRefused (asks.Operator ∷ others) calls last
operator_first others calls mid then_ last first h same = record {
  given = asks.Operator ∷ h.given;
  ask = h.ask;
  later = h.later;
  order = ap (λ (t : List Ask). asks.Operator ∷ t) h.order;
  made = same ∙ h.made ∙ ap (λ (cs : List Call). cs ++ (granted h.given ++ refused h.ask)) first
      ∙ append_assoc calls (record { ask = asks.Operator; ok = true } ∷ []) (granted h.given ++ refused h.ask);
}

-- a call for a gate, by the gate's number
pub gate_handed : (n asked given : ℕ) (mid new : Doorway) → IsHandedOut (asks.Gate asked) (asks.Gate given) mid new → asked ≡ n → given ≡ n → IsHandedOut (asks.Gate n) (asks.Gate n) mid new
gate_handed n asked given mid new handed counted out =
    subst (λ w. IsHandedOut (asks.Gate n) (asks.Gate w) mid new) out (subst (λ w. IsHandedOut (asks.Gate w) (asks.Gate given) mid new) counted handed)

pub gate_refused : (n asked : ℕ) (now then_ : List Call) → then_ ≡ now ++ refused (asks.Gate asked) → asked ≡ n → then_ ≡ now ++ refused (asks.Gate n)
gate_refused n asked now then_ is counted = is ∙ ap (λ w. now ++ refused (asks.Gate w)) counted

-- these were asked for behind others
pub asked_behind : {T E : Type 0} (first others : List Ask) (r : Result T E) (calls mid then_ : List Call) → mid ≡ calls ++ granted first → AskedFor others r mid then_
    → AskedFor (first ++ others) r calls then_
asked_behind first others (Ok x) calls mid then_ before is =
    is ∙ ap (λ (cs : List Call). cs ++ granted others) before ∙ append_assoc calls (granted first) (granted others)
    ∙ ap (λ (t : List Call). calls ++ t) (sym (map-append (λ ask. record { ask = ask; ok = true }) first others))
asked_behind first others (Err e) calls mid then_ before h = record {
  given = first ++ h.given;
  ask = h.ask;
  later = h.later;
  order = ap (λ (t : List Ask). first ++ t) h.order ∙ sym (append_assoc first h.given (h.ask ∷ h.later));
  made = h.made ∙ ap (λ (cs : List Call). cs ++ (granted h.given ++ refused h.ask)) before
      ∙ append_assoc calls (granted first) (granted h.given ++ refused h.ask)
      ∙ ap (λ (t : List Call). calls ++ t)
      (sym (append_assoc (granted first) (granted h.given) (refused h.ask))
      ∙ ap (λ (t : List Call). t ++ refused h.ask) (sym (map-append (λ ask. record { ask = ask; ok = true }) first h.given)));
}

-- some of the first were refused
pub refused_before : (first others : List Ask) (calls then_ : List Call) → UpToRefused first calls then_ → UpToRefused (first ++ others) calls then_
refused_before first others calls then_ h = record {
  given = h.given;
  ask = h.ask;
  later = h.later ++ others;
  order = ap (λ (t : List Ask). t ++ others) h.order ∙ append_assoc h.given (h.ask ∷ h.later) others;
  made = h.made;
}
