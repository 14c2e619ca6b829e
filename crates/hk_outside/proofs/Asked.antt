-- What was never asked for has a number of its own, so that no more can be asked for than there are numbers.
use Rattle.std.proofs.Common.{◌≡◌, ◌≢◌, ◌<◌, ◌≤◌, ◌+◌, ℕ, List, [], ◌∷◌, ◌++◌, length, refl, sym, ◌∙◌, ap, ⊎_elim, subst, arith, cond, filter, ◌&&◌, Bool, true, false, nat_eq}
use Rattle.std.specs.List.{list_any, IsDistinct}
use Rattle.std.proofs.lemmas.List.{map-append, length-map, length-append}
use Rattle.std.proofs.lemmas.List.Elements.{All-head, All-tail, All-push}
use Rattle.std.proofs.lemmas.Bool.{cases_Bool}
use Rattle.std.proofs.lemmas.Bool.Decides.{nat_tests}
use Rattle.std.proofs.lemmas.List.Elements.{filter-append}
use Rattle.std.specs.Cmp.{nat_eq_equiv}
use Rattle.std.proofs.lemmas.Map.Keys.{IsDistinct-push}
use Rattle.std.proofs.lemmas.Map.Steps.{length-le_from_distinct_below}
use Rattle.hk_outside.specs.declared.door.Ask.{Ask}
use Rattle.hk_outside.specs.declared.door.Ask.TheVariants as asks
use Rattle.hk_outside.specs.declared.door.Call.{Call}
use Rattle.hk_outside.specs.Doors.{IsUnasked, is_gate, gates_asked, gates_given}
use Rattle.hk_outside.specs.Calls.{code_of, codes_of, AreDistinct, AreNumbered, GatesBelow, MOST_ASKS}

same_code : (a b : Ask) → code_of a ≡ code_of b → a ≡ b
same_code asks.Operator asks.Operator same = refl
same_code asks.Operator (asks.Station n) same = absurd (omega (arith, same))
same_code asks.Operator (asks.Gate n) same = absurd (omega (arith, same))
same_code (asks.Station m) asks.Operator same = absurd (omega (arith, same))
same_code (asks.Station m) (asks.Station n) same = ap asks.Station (omega (arith, same))
same_code (asks.Station m) (asks.Gate n) same = absurd (omega (arith, same))
same_code (asks.Gate m) asks.Operator same = absurd (omega (arith, same))
same_code (asks.Gate m) (asks.Station n) same = absurd (omega (arith, same))
same_code (asks.Gate m) (asks.Gate n) same = ap asks.Gate (omega (arith, same))

new_code : (ask : Ask) (calls : List Call) → IsUnasked ask calls → list_any (nat_eq (code_of ask)) (codes_of calls) ≡ false
new_code ask [] new = refl
new_code ask (call ∷ calls) new =
    let other : code_of ask ≢ code_of call.ask = λ same. All-head (λ c. c.ask ≢ ask) call calls new (sym (same_code ask call.ask same)) in
    let test : nat_eq (code_of ask) (code_of call.ask) ≡ false = grind (arith, nat_tests) in
    rw test (new_code ask calls (All-tail (λ c. c.ask ≢ ask) call calls new))

small_code : (q : ℕ) (calls : List Call) → AreNumbered calls → list_any (nat_eq q) (codes_of calls) ≡ true → q < MOST_ASKS
small_code q [] small has = absurd (let no : false ≡ true = has in cc)
small_code q (call ∷ calls) small has = ⊎_elim
    (λ t. let same : q ≡ code_of call.ask = grind (arith, nat_tests) in omega (arith, same, All-head (λ c. code_of c.ask < MOST_ASKS) call calls small))
    (λ f. small_code q calls (All-tail (λ c. code_of c.ask < MOST_ASKS) call calls small) (rw f at has))
    (cases_Bool (nat_eq q (code_of call.ask)))

codes_more : (ask : Ask) (ok : Bool) (calls : List Call) → codes_of (calls ++ record { ask = ask; ok = ok } ∷ []) ≡ codes_of calls ++ code_of ask ∷ []
codes_more ask ok calls = map-append (λ call. code_of call.ask) calls (record { ask = ask; ok = ok } ∷ [])

pub still_distinct : (ask : Ask) (ok : Bool) (calls : List Call) → IsUnasked ask calls → AreDistinct calls → AreDistinct (calls ++ record { ask = ask; ok = ok } ∷ [])
still_distinct ask ok calls new distinct = subst (IsDistinct nat_eq) (sym (codes_more ask ok calls)) (IsDistinct-push nat_eq_equiv (codes_of calls) (code_of ask) distinct (new_code ask calls new))

pub few_calls : (ask : Ask) (calls : List Call) → IsUnasked ask calls → code_of ask < MOST_ASKS → AreDistinct calls → AreNumbered calls → length calls < MOST_ASKS
few_calls ask calls new small distinct numbered =
    let more : List Call = calls ++ record { ask = ask; ok = true } ∷ [] in
    let all : AreNumbered more = All-push (λ call. code_of call.ask < MOST_ASKS) calls (record { ask = ask; ok = true }) numbered small in
    let most : length (codes_of more) ≤ MOST_ASKS = length-le_from_distinct_below (codes_of more) MOST_ASKS (still_distinct ask true calls new distinct) (λ q has. small_code q more all has) in
    omega (arith, most, length-map more (λ (call : Call). code_of call.ask), length-append calls (record { ask = ask; ok = true } ∷ []))

pub none_distinct : (calls : List Call) → calls ≡ [] → AreDistinct calls
unfolding IsDistinct
none_distinct calls none = subst AreDistinct (sym none) tt

one_if : {X : Type 0} (b : Bool) (x : X) → length (cond b (x ∷ []) []) ≡ cond b 1 0
one_if true x = refl
one_if false x = refl

count_more : {X : Type 0} (p : X → Bool) (xs : List X) (x : X) → length (filter p (xs ++ x ∷ [])) ≡ length (filter p xs) + cond (p x) 1 0
count_more p xs x = ap length (filter-append p xs (x ∷ [])) ∙ length-append (filter p xs) (filter p (x ∷ [])) ∙ ap (λ n. length (filter p xs) + n) (one_if (p x) x)

pub asked_more : (ask : Ask) (ok : Bool) (calls : List Call) → gates_asked (calls ++ record { ask = ask; ok = ok } ∷ []) ≡ gates_asked calls + cond (is_gate ask) 1 0
asked_more ask ok calls = count_more (λ (call : Call). is_gate call.ask) calls (record { ask = ask; ok = ok })

pub given_more : (ask : Ask) (ok : Bool) (calls : List Call) → gates_given (calls ++ record { ask = ask; ok = ok } ∷ []) ≡ gates_given calls + cond (is_gate ask && ok) 1 0
given_more ask ok calls = count_more (λ (call : Call). is_gate call.ask && call.ok) calls (record { ask = ask; ok = ok })

pub below_more : (count : ℕ) (ask : Ask) (ok : Bool) (calls : List Call) → GatesBelow count calls → ((w : ℕ) → ask ≡ asks.Gate w → w < count) → GatesBelow count (calls ++ record { ask = ask; ok = ok } ∷ [])
below_more count ask ok calls below one = All-push (λ call. (w : ℕ) → call.ask ≡ asks.Gate w → w < count) calls (record { ask = ask; ok = ok }) below one

-- a gate with the next number wasn't asked for
pub next_unasked : (count : ℕ) (calls : List Call) → GatesBelow count calls → IsUnasked (asks.Gate count) calls
next_unasked count calls below = λ i d inside same. let less : count < count = below i d inside count same in omega (arith, less)

-- those below a number are below the next
pub below_next : (count next : ℕ) (calls : List Call) → GatesBelow count calls → count ≤ next → GatesBelow next calls
below_next count next calls below less = λ i d inside w same. omega (arith, less, below i d inside w same)

abbrev gate_number : Ask → ℕ
gate_number (asks.Station n) = 0
gate_number asks.Operator = 0
gate_number (asks.Gate w) = w

-- the next gate's number is below the one after it
pub next_below : (count w : ℕ) → asks.Gate count ≡ asks.Gate w → w < count + 1
next_below count w same = let is : count ≡ w = ap gate_number same in omega (arith, is)
