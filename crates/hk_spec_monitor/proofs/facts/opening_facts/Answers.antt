use Rattle.std.proofs.Common.{◌≡◌, ◌∙◌, List, [], ◌∷◌, ◌++◌, length, Bool, refl, sym, ap, cond, arith, true, false, inl, inr}
use Rattle.std.specs.List.{list_any}
use Rattle.std.proofs.lemmas.List.{length-append}
use Rattle.hk_outside.specs.declared.door.Ask.{Ask}
use Rattle.hk_outside.specs.declared.door.Ask.TheVariants as asks
use Rattle.hk_outside.specs.declared.door.Call.{Call}
use Rattle.hk_spec_monitor.specs.Devices.{granted, refused}
use Rattle.hk_spec_monitor.proofs.OneLine.{differ}
use Rattle.hk_spec_monitor.proofs.facts.opening_facts.Goals as goal

pub returns-clause-start : goal.returns-clause-start
returns-clause-start c = inl (refl, refl)

pub returns-clause-station : goal.returns-clause-station
returns-clause-station c = inr (refl, record { given = asks.Station 0 ∷ []; ask = asks.Station 1; later = asks.Operator ∷ asks.Gate 0 ∷ []; order = refl; made = refl })

none_refused : (given : List Ask) (ask : Ask) → [] ≡ granted given ++ refused ask → ⊥
none_refused given ask made = let many = ap length made in omega (arith, many, length-append (granted given) (refused ask))

pub returns-clause-nothing_asked : goal.returns-clause-nothing_asked
returns-clause-nothing_asked c = λ h. elim h [
  | inl at_start ↦ let other = at_start.0 in cc (other)
  | inr up ↦ none_refused up.1.given up.1.ask up.1.made
]

abbrev some_refused : List Call → Bool
some_refused calls = list_any (λ (call : Call). cond call.ok false true) calls

last_refused : (given : List Ask) (ask : Ask) → some_refused (granted given ++ refused ask) ≡ true
last_refused [] ask = refl
last_refused (first ∷ given) ask = last_refused given ask

pub returns-clause-all : goal.returns-clause-all
returns-clause-all c = λ h. elim h [
  | inl at_start ↦ let other = at_start.0 in cc (other)
  | inr up ↦ differ ⊥ (sym (ap some_refused up.1.made ∙ last_refused up.1.given up.1.ask))
]
