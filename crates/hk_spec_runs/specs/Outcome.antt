-- What a call that reads an input and writes a text leaves, by its status.
use Rattle.std.specs.Prelude.{◌≡◌, ◌⊎◌, ℕ, Bool, true, false, ◌&&◌, nat_lt, if◌then◌else◌, List, [], ◌++◌, length, take, flat_map, Option, Some, None}
use Rattle.std.specs.Option.{is_none}
use Rattle.std.specs.List.{enumerate_from, list_all}
use Rattle.hk_base.specs.declared.plain.Trouble.{Trouble}
use Rattle.hk_base.specs.declared.plain.Trouble.TheVariants.{ReadFault, TooLong}
use Rattle.hk_base.specs.Devices.{Took, Wrote, IsNothing}
use Rattle.hk_spec_sound.specs.Prints.{full_analysis, prints_of_sound}
use Rattle.hk_spec_streams.specs.Records.{input_fault, input_wrong}
use Rattle.hk_spec_streams.specs.Station.{station_wrong}
use Rattle.hk_spec_streams.specs.Operator.{operator_wrong}
use Rattle.hk_spec_lines.specs.Lines.{print_line, trouble_line}
use Rattle.hk_spec_settings.specs.Settings.{Rules}
use Rattle.hk_spec_runs.specs.Replay.{Scene, scene_of, out, replay}
use Rattle.hk_spec_runs.specs.Options.{Printing}
use Rattle.hk_spec_runs.specs.Words.{Order, Replay, Print, Make}
use Rattle.hk_spec_runs.specs.Make.{make_line}

-- What an order makes of the input's bytes. The last argument of a text, and of its end, lists the commands that were refused for
-- memory.
pub record Task : Type 0 where
  -- whether it reads its input at all
  pub reads : Bool
  -- the fault that a byte meets, and what is wrong with the whole input
  pub met : List ℕ → Option Trouble
  pub wrong : List ℕ → Option Trouble
  -- the text up to the fault or the end, and all of the text where nothing is wrong
  pub text : List ℕ → List ℕ → List ℕ
  pub whole : List ℕ → List ℕ → List ℕ
  -- whether every stream ended in order
  pub ended : List ℕ → List ℕ → Bool

abbrev pub has_ended : Rules → Scene → Bool
has_ended rules scene =
    list_all (λ l. is_none l.end) scene.listeners && list_all (λ l. is_none (station_wrong rules.bytes l.used)) scene.listeners
    && is_none scene.operator_stream.end && is_none (operator_wrong rules.bytes scene.operator_stream.used)

abbrev pub over_limit : Printing → List ℕ → Option Trouble
over_limit p input = if nat_lt p.bytes (length input) then Some (TooLong p.bytes) else None

-- a line for each print of the bytes as one segment
abbrev pub print_text : Printing → List ℕ → List ℕ
print_text p input = flat_map (λ n. print_line n.0 n.1) (enumerate_from 0 (prints_of_sound full_analysis p.flips p.channels p.factor (take p.bytes input)))

abbrev pub task_of : Order → Task
task_of (Replay rules) = record {
  reads = true;
  met = input_fault rules.stations rules.bytes;
  wrong = input_wrong rules.stations rules.bytes;
  text = out rules;
  whole = replay rules;
  ended = λ input refused. has_ended rules (scene_of rules input refused);
}
task_of (Print p) = record {
  reads = true;
  met = over_limit p;
  wrong = over_limit p;
  text = λ input refused. print_text p input;
  whole = λ input refused. print_text p input;
  ended = λ input refused. true;
}
task_of (Make seed rules) = record {
  reads = false;
  met = λ input. None;
  wrong = λ input. None;
  text = λ input refused. make_line rules seed;
  whole = λ input refused. make_line rules seed;
  ended = λ input refused. true;
}

-- The call took the bytes b from what was left and appended o to what was written, with P b o.
abbrev pub Trades : Option (List ℕ) → Option (List ℕ) → Option (List ℕ) → Option (List ℕ) → (List ℕ → List ℕ → Type 0) → Type 0
Trades left rest before now P = (b : List ℕ) × (o : List ℕ) × Took b left rest × Wrote o before now × P b o

-- The input was read to its end and is in order, and all was written. The status says whether every stream ended in order.
pub record IsWhole (task : Task) (rest : Option (List ℕ)) (in_order : Bool) (b o : List ℕ) : Type 0 where
  pub to_the_end : task.reads ≡ true → IsNothing rest
  pub unread : task.reads ≡ false → b ≡ []
  pub refused : List ℕ
  pub right : task.wrong b ≡ None
  pub text : o ≡ task.whole b refused
  pub ended : task.ended b refused ≡ in_order

-- The input's first fault stopped the call, at a byte or with nothing left to read.
pub record IsStopped (task : Task) (rest : Option (List ℕ)) (b o : List ℕ) : Type 0 where
  pub trouble : Trouble
  pub refused : List ℕ
  pub first : task.wrong b ≡ Some trouble
  pub at_the_end : task.met b ≡ None → IsNothing rest
  pub text : o ≡ task.text b refused ++ trouble_line trouble

-- Reading failed, at bytes that have no fault.
pub record IsReadFault (task : Task) (b o : List ℕ) : Type 0 where
  pub reads : task.reads ≡ true
  pub refused : List ℕ
  pub no_fault : task.met b ≡ None
  pub text : o ≡ task.text b refused ++ trouble_line ReadFault

-- Writing failed: what was written begins the text so far, or one of the texts above; the last only where reading failed too.
pub record IsWriteFault (task : Task) (read_failed : Type 0) (rest : Option (List ℕ)) (b o : List ℕ) : Type 0 where
  pub unread : task.reads ≡ false → b ≡ []
  pub more : List ℕ
  pub text : ((refused : List ℕ) × (o ++ more ≡ task.text b refused))
      ⊎ ((in_order : Bool) × IsWhole task rest in_order b (o ++ more))
      ⊎ IsStopped task rest b (o ++ more)
      ⊎ (read_failed × IsReadFault task b (o ++ more))
