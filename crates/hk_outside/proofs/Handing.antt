-- An object that changes its place, and all others.
use Rattle.std.proofs.Common.{◌≡◌, ◌≢◌, ◌<◌, ℕ, zero, suc, List, [], ◌∷◌, map, length, refl, sym, ◌∙◌, ap, subst, arith, Bool, true, false, cond, Option, Some, None, slice_get, slice_set}
use Rattle.std.specs.Option.{option_map_or}
use Rattle.std.specs.List.{All}
use Rattle.std.proofs.lemmas.List.Elements.{All-head, All-tail, All-map, All-weaker}
use Rattle.hk_base.specs.declared.memory.MemorySink.{MemorySink}
use Rattle.hk_outside.specs.Doors.{Pair, HeldGate}
use Rattle.hk_outside.specs.Places.{inside_of, IfInside}
use Rattle.hk_outside.specs.MemoryDoors.{pair_at, gate_at, told_link, told_sink, nothing_told}
use Rattle.hk_outside.specs.declared.door.Held.TheVariants as held
use Rattle.hk_outside.specs.declared.memory_link.MemoryLink.{MemoryLink}
use Rattle.hk_outside.specs.declared.memory_gate.MemoryGate.{MemoryGate}
use Rattle.hk_outside.specs.declared.place.Place.{Place}
use Rattle.hk_outside.specs.declared.place.Place.TheVariants as places

set_at : {P Q : Type 0} (f : P → Q) (d : Q) (xs : List P) (n : ℕ) (x : P) → n < length xs → option_map_or f (slice_get (slice_set xs n x) n) d ≡ f x
set_at f d [] n x less = absurd (omega (arith, less))
set_at f d (y ∷ ys) zero x less = refl
set_at f d (y ∷ ys) (suc n) x less = set_at f d ys n x (omega (arith, less))

set_other : {P Q : Type 0} (f : P → Q) (d : Q) (xs : List P) (n k : ℕ) (x : P) → k ≢ n → option_map_or f (slice_get (slice_set xs n x) k) d ≡ option_map_or f (slice_get xs k) d
set_other f d [] n k x other = refl
set_other f d (y ∷ ys) zero zero x other = absurd (other refl)
set_other f d (y ∷ ys) zero (suc k) x other = refl
set_other f d (y ∷ ys) (suc n) zero x other = refl
set_other f d (y ∷ ys) (suc n) (suc k) x other = set_other f d ys n k x (λ same. other (ap suc same))

pub all_at : {P : Type 0} (F : P → Type 0) (xs : List P) (n : ℕ) (x : P) → All F xs → slice_get xs n ≡ Some x → F x
all_at F [] n x all is = absurd (let no : None ≡ Some x = is in cc)
all_at F (y ∷ ys) zero x all is = let same : y ≡ x = cc in subst F same (All-head F y ys all)
all_at F (y ∷ ys) (suc n) x all is = all_at F ys n x (All-tail F y ys all) is

-- an object that was taken was inside
pub taken_from : {T : Type 0} (fails : Bool) (place : Option (Place T)) (x : T) → Some x ≡ cond fails None (option_map_or inside_of place None) → place ≡ Some (places.Inside x)
taken_from true place x is = absurd (let no : Some x ≡ None = is in cc)
taken_from false None x is = absurd (let no : Some x ≡ None = is in cc)
taken_from false (Some (places.Inside y)) x is = let same : x ≡ y = cc in ap (λ z. Some (places.Inside z)) (sym same)
taken_from false (Some places.Outside) x is = absurd (let no : Some x ≡ None = is in cc)
taken_from false (Some (places.Back y)) x is = absurd (let no : Some x ≡ None = is in cc)

abbrev pub station_told : List (Place (MemoryLink × MemorySink)) → ℕ → Pair
station_told items n = option_map_or (pair_at told_link told_sink) (slice_get items n) (record { held = held.Inside; gives = nothing_told; takes = nothing_told })

pub station_at : (new old : List (Place (MemoryLink × MemorySink))) (n : ℕ) (x : Place (MemoryLink × MemorySink)) → new ≡ slice_set old n x → n < length old
    → station_told new n ≡ pair_at told_link told_sink x
station_at new old n x is less = ap (λ items. station_told items n) is ∙ set_at (pair_at told_link told_sink) _ old n x less

pub station_other : (new old : List (Place (MemoryLink × MemorySink))) (n k : ℕ) (x : Place (MemoryLink × MemorySink)) → new ≡ slice_set old n x → k ≢ n
    → station_told new k ≡ station_told old k
station_other new old n k x is other = ap (λ items. station_told items k) is ∙ set_other (pair_at told_link told_sink) _ old n k x other

pub station_outside : (items : List (Place (MemoryLink × MemorySink))) (n : ℕ) → (station_told items n).held ≡ held.Outside → n < length items
station_outside [] n is = absurd (let no : held.Inside ≡ held.Outside = is in cc)
station_outside (y ∷ ys) zero is = omega arith
station_outside (y ∷ ys) (suc n) is = let less = station_outside ys n is in omega (arith, less)

-- what is told of a gate
abbrev pub gate_told : List (Place MemoryGate) → ℕ → HeldGate
gate_told items w = option_map_or gate_at (slice_get items w) (record { held = held.Inside; faults = 0 })

pub gate_is_at : (new old : List (Place MemoryGate)) (n : ℕ) (x : Place MemoryGate) → new ≡ slice_set old n x → n < length old → gate_told new n ≡ gate_at x
gate_is_at new old n x is less = ap (λ items. gate_told items n) is ∙ set_at gate_at _ old n x less

pub gate_other : (new old : List (Place MemoryGate)) (n k : ℕ) (x : Place MemoryGate) → new ≡ slice_set old n x → k ≢ n → gate_told new k ≡ gate_told old k
gate_other new old n k x is other = ap (λ items. gate_told items k) is ∙ set_other gate_at _ old n k x other

-- what is true of objects is true of them where they are inside
abbrev object_or : {T : Type 0} → T → Place T → T
object_or d (places.Inside x) = x
object_or d places.Outside = d
object_or d (places.Back x) = d

pub is_inside : {T : Type 0} (F : T → Type 0) (x : T) → F x → IfInside F (places.Inside x)
is_inside F x holds y same = subst F (ap (object_or x) same) holds

pub all_inside : {T : Type 0} (F : T → Type 0) (xs : List T) (all : List (Place T)) → all ≡ map places.Inside xs → All F xs → All (IfInside F) all
all_inside F xs all is holds = subst (All (IfInside F)) (sym is) (All-map (IfInside F) places.Inside xs (All-weaker F (λ x. IfInside F (places.Inside x)) (is_inside F) xs holds))
