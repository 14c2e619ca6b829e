-- What the links and gates in memory hold.
use Rattle.std.specs.Prelude.{◌≡◌, ℕ, ◌+◌, ◌==◌, Bool, true, false, List, min, replicate, is_some}
use Rattle.std.specs.List.{list_any}
use Rattle.hk_base.specs.Devices.{LAST_COUNT}
use Rattle.hk_base.specs.Memory.{SameReading, IsNewSource}
use Rattle.hk_outside.specs.declared.failing.Failing.{Failing}
use Rattle.hk_outside.specs.declared.memory_link.MemoryLink.{MemoryLink}
use Rattle.hk_outside.specs.declared.memory_gate.MemoryGate.{MemoryGate}

-- the next call is one of those that are to fail
abbrev pub call_fails : Failing → Bool
call_fails calls = list_any (λ n. n == calls.next) calls.numbers.items

-- one call more was counted
abbrev pub IsNextCall : Failing → Failing → Type 0
IsNextCall old new = (new.next ≡ min (old.next + 1) LAST_COUNT) × (new.numbers ≡ old.numbers)

-- no call was counted yet, and those with these numbers are to fail
abbrev pub IsNewFailing : List ℕ → Failing → Type 0
IsNewFailing numbers calls = (calls.numbers.items ≡ numbers) × (calls.next ≡ 0)

-- which read of a held link fails
abbrev pub LAST_WAIT : ℕ
LAST_WAIT = 10000000

-- the link's flag wasn't raised, and all that the call did is to count itself
abbrev pub HasWaited : MemoryLink → MemoryLink → Type 0
HasWaited old new = (is_some old.hold ≡ true) × (new.waited ≡ min (old.waited + 1) LAST_COUNT) × (new.source ≡ old.source) × (new.hold ≡ old.hold)

-- the call went on to the link's bytes
abbrev pub HasRead : MemoryLink → MemoryLink → Type 0
HasRead old new = SameReading old.source new.source × (new.waited ≡ old.waited) × (new.hold ≡ old.hold)

-- a new link of these bytes, with these cuts and failing reads, held by this flag
abbrev pub IsNewLink : List ℕ → List ℕ → List ℕ → MemoryLink → Type 0
IsNewLink bytes cuts failing link = IsNewSource bytes cuts failing link.source × (link.waited ≡ 0) × (link.faults ≡ 0)

-- a new gate, whose calls with these numbers fail
abbrev pub IsNewGate : List ℕ → MemoryGate → Type 0
IsNewGate failing gate = IsNewFailing failing gate.calls × (gate.watched ≡ replicate 64 false) × (gate.faults ≡ 0)
