-- The statuses of the top call, and what its words ask for.
use Rattle.std.specs.Prelude.{◌≡◌, ◌⊎◌, ℕ, List, String, Option, option_map, true, false, Result, Ok, Err}
use Rattle.std.specs.Option.{IfSome}
use Rattle.hk_base.specs.declared.plain.NoMemory.{NoMemory}
use Rattle.hk_spec_runs.specs.Words.{order_of}
use Rattle.hk_spec_runs.specs.Outcome.{Task, task_of}
use Rattle.hk_player.specs.declared.ending.Ending.{Ending}
use Rattle.hk_player.specs.declared.ending.Ending.TheVariants.{Whole, Stopped, ReadFault, SinkFault}
use Rattle.hk_words.specs.Options.{word_texts}

-- what the words ask to be made of the input
abbrev pub task_asked : {A : Type 0} → List (String A) → Option Task
task_asked words = option_map task_of (order_of (word_texts words))

-- a fact of what the words ask for, where they ask for something
abbrev pub IfAsked : {A : Type 0} → List (String A) → (Task → Type 0) → Type 0
IfAsked words P = IfSome (task_asked words) P

abbrev pub ENDED : ℕ
ENDED = 0

abbrev pub USAGE : ℕ
USAGE = 2

abbrev pub IN_DISORDER : ℕ
IN_DISORDER = 3

abbrev pub NO_MEMORY : ℕ
NO_MEMORY = 4

abbrev pub READ_FAULT : ℕ
READ_FAULT = 5

abbrev pub WRITE_FAULT : ℕ
WRITE_FAULT = 6

abbrev pub STOPPED : ℕ
STOPPED = 7

-- the status of an order that was carried out
abbrev pub code_of : Result Ending NoMemory → ℕ
code_of (Ok (Whole true)) = ENDED
code_of (Ok (Whole false)) = IN_DISORDER
code_of (Ok Stopped) = STOPPED
code_of (Ok ReadFault) = READ_FAULT
code_of (Ok SinkFault) = WRITE_FAULT
code_of (Err none) = NO_MEMORY

-- the statuses of the top call
abbrev pub IsStatus : ℕ → Type 0
IsStatus code = (code ≡ ENDED) ⊎ (code ≡ USAGE) ⊎ (code ≡ IN_DISORDER) ⊎ (code ≡ NO_MEMORY) ⊎ (code ≡ READ_FAULT) ⊎ (code ≡ WRITE_FAULT) ⊎ (code ≡ STOPPED)
