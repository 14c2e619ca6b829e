-- What carrying out an order leaves.
use Rattle.std.specs.Prelude.{◌≡◌, List, ℕ, true, false, Result, Ok, Err}
use Rattle.hk_base.specs.declared.source.Source.{Ghosts as Sources}
use Rattle.hk_base.specs.declared.sink.Sink.{Ghosts as Sinks}
use Rattle.hk_base.specs.declared.plain.NoMemory.{NoMemory}
use Rattle.hk_base.specs.Writing.{HasWritten, HasFailed}
use Rattle.hk_spec_runs.specs.Outcome.{Task}
use Rattle.hk_player.specs.Endings.{Does}
use Rattle.hk_player.specs.declared.ending.Ending.{Ending}
use Rattle.hk_player.specs.declared.ending.Ending.TheVariants.{Whole, Stopped, ReadFault, SinkFault}

-- what the task does, or all as it was where memory was wanted
abbrev pub CarriesOut : {S K : Type 0} → Sources S → Sinks K → Task → Result Ending NoMemory → S → S → K → K → Type 0
CarriesOut source sink task (Ok ending) input input' out out' = Does source sink task ending input input' out out'
CarriesOut source sink task (Err none) input input' out out' = (input' ≡ input) × (out' ≡ out)

-- this line was written, or a write of it failed; or the sink is as it was where memory was wanted
abbrev pub HasMade : {K : Type 0} → Sinks K → List ℕ → Result Ending NoMemory → K → K → Type 0
HasMade sink text (Ok (Whole true)) old new = HasWritten sink text old new
HasMade sink text (Ok SinkFault) old new = HasFailed sink text old new
HasMade sink text (Ok (Whole false)) old new = ⊥
HasMade sink text (Ok Stopped) old new = ⊥
HasMade sink text (Ok ReadFault) old new = ⊥
HasMade sink text (Err none) old new = new ≡ old
