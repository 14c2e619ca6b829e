-- What was played, and what a step of it writes. The first list of a step tells which commands were refused for memory.
use Rattle.std.specs.Prelude.{◌≡◌, ⊤, ℕ, ◌<◌, ◌^◌, Bool, true, List, ◌∷◌, ◌++◌, length, Option, Some, None}
use Rattle.hk_base.specs.Devices.{Wrote, WroteFront}
use Rattle.hk_base.specs.declared.plain.Trouble.{Trouble}
use Rattle.hk_spec_runs.specs.Outcome.{Task}
use Rattle.hk_player.specs.declared.player.Taken.{Taken}
use Rattle.hk_player.specs.declared.player.Taken.TheVariants as takens
use Rattle.hk_player.specs.declared.player.Finished.{Finished}
use Rattle.hk_player.specs.declared.player.Finished.TheVariants as finished

-- these bytes have no fault so far, and are fewer than 2^63
pub record IsInForm (task : Task) (text : List ℕ) : Type 0 where
  pub reads : task.reads ≡ true
  pub no_fault : task.met text ≡ None
  pub few : length text < 2 ^ 63

-- the bytes meet this fault
pub record Meets (task : Task) (text : List ℕ) (trouble : Trouble) : Type 0 where
  pub met : task.met text ≡ Some trouble
  pub wrong : task.wrong text ≡ Some trouble

-- what is printed for the longer bytes and not for the bytes was written
abbrev pub Adds : Task → List ℕ → List ℕ → List ℕ → List ℕ → Option (List ℕ) → Option (List ℕ) → Type 0
Adds task refused text refused' longer old new = (o : List ℕ) × (task.text longer refused' ≡ task.text text refused ++ o) × Wrote o old new

-- a front of it was written
abbrev pub AddsFront : Task → List ℕ → List ℕ → List ℕ → List ℕ → Option (List ℕ) → Option (List ℕ) → Type 0
AddsFront task refused text refused' longer old new =
    (o : List ℕ) × (missing : List ℕ) × (task.text longer refused' ≡ task.text text refused ++ (o ++ missing)) × Wrote o old new

-- behind the text the byte meets this fault, and nothing more is printed, whatever bytes follow
abbrev pub StopsBehind : Task → List ℕ → List ℕ → ℕ → Trouble → Type 0
StopsBehind task refused text byte trouble = (more : List ℕ)
    → Meets task (text ++ byte ∷ more) trouble × (task.text (text ++ byte ∷ more) refused ≡ task.text text refused)

-- a front of what is printed for the text and the byte was written, whatever bytes follow
abbrev pub TearsBehind : Task → List ℕ → List ℕ → ℕ → Option (List ℕ) → Option (List ℕ) → Type 0
TearsBehind task refused text byte old new =
    (refused' : List ℕ) × ((more : List ℕ) → AddsFront task refused text refused' (text ++ byte ∷ more) old new)

-- nothing is wrong with the text's end, and the last lines were written
abbrev pub Ends : Task → List ℕ → List ℕ → Bool → Option (List ℕ) → Option (List ℕ) → Type 0
Ends task refused text in_order old new = (task.wrong text ≡ None) × (task.ended text refused ≡ in_order)
    × ((last : List ℕ) × (task.whole text refused ≡ task.text text refused ++ last) × Wrote last old new)

-- a front of the last lines was written
abbrev pub TearsEnd : Task → List ℕ → List ℕ → Option (List ℕ) → Option (List ℕ) → Type 0
TearsEnd task refused text old new = (task.wrong text ≡ None)
    × ((last : List ℕ) × (task.whole text refused ≡ task.text text refused ++ last) × WroteFront last old new)

-- a fact of the fault that a byte met
abbrev pub IfStopped : Taken → (Trouble → Type 0) → Type 0
IfStopped (takens.Stopped trouble) P = P trouble
IfStopped takens.Going P = ⊤
IfStopped takens.SinkFault P = ⊤

-- a fact of an input that was finished whole, and whether its streams ended in order
abbrev pub IfWhole : Finished → (Bool → Type 0) → Type 0
IfWhole (finished.Whole in_order) P = P in_order
IfWhole (finished.Wrong trouble) P = ⊤
IfWhole finished.Torn P = ⊤

-- a fact of what was wrong with the input's end
abbrev pub IfWrong : Finished → (Trouble → Type 0) → Type 0
IfWrong (finished.Wrong trouble) P = P trouble
IfWrong (finished.Whole in_order) P = ⊤
IfWrong finished.Torn P = ⊤
