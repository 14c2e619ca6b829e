-- What was made of pieces of the input.
use Rattle.std.specs.Prelude.{◌≡◌, ⊤, ℕ, List, ◌++◌, Option}
use Rattle.hk_base.specs.declared.plain.Trouble.{Trouble}
use Rattle.hk_spec_runs.specs.Outcome.{Task}
use Rattle.hk_player.specs.Playing.{Adds, AddsFront, Meets}
use Rattle.hk_player.specs.declared.piece.Played.{Played}
use Rattle.hk_player.specs.declared.piece.Played.TheVariants as played
use Rattle.hk_player.specs.declared.input.Stop.{Stop}
use Rattle.hk_player.specs.declared.input.Stop.TheVariants as stops

-- a fact of the fault that a piece met
abbrev pub IfPlayed : Played → (Trouble → Type 0) → Type 0
IfPlayed (played.Stopped trouble) P = P trouble
IfPlayed played.All P = ⊤
IfPlayed played.SinkFault P = ⊤

-- a fact of the fault that an input met
abbrev pub IfLeft : Stop → (Trouble → Type 0) → Type 0
IfLeft (stops.Stopped trouble) P = P trouble
IfLeft stops.End P = ⊤
IfLeft stops.ReadFault P = ⊤
IfLeft stops.SinkFault P = ⊤

-- the longer bytes meet this fault, and what is printed up to there was written
abbrev pub StopsAt : Task → List ℕ → List ℕ → List ℕ → Trouble → Option (List ℕ) → Option (List ℕ) → Type 0
StopsAt task refused text longer trouble old new = Meets task longer trouble × ((refused' : List ℕ) × Adds task refused text refused' longer old new)

-- a front of what is printed for the longer bytes was written
abbrev pub IsTorn : Task → List ℕ → List ℕ → List ℕ → Option (List ℕ) → Option (List ℕ) → Type 0
IsTorn task refused text longer old new = (refused' : List ℕ) × AddsFront task refused text refused' longer old new

-- all bytes that were read were played, and all that is printed for them was written
abbrev pub WasPlayed : (List ℕ → List ℕ → Type 0) → Task → List ℕ → List ℕ → Type 0
WasPlayed played task b o = (refused : List ℕ) × played refused b × (o ≡ task.text b refused)

-- the bytes that were read meet this fault, and what is printed up to there was written
abbrev pub HasLeft : Task → Trouble → List ℕ → List ℕ → Type 0
HasLeft task trouble b o = (refused : List ℕ) × Meets task b trouble × (o ≡ task.text b refused)

-- what was written begins what is printed for the bytes that were read
abbrev pub HasTorn : Task → List ℕ → List ℕ → Type 0
HasTorn task b o = (refused : List ℕ) × (missing : List ℕ) × (o ++ missing ≡ task.text b refused)
