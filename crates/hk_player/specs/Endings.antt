-- How an input that was played has ended.
use Rattle.std.specs.Prelude.{◌≡◌, ◌≤◌, ℕ, List}
use Rattle.hk_base.specs.Devices.{Rose}
use Rattle.hk_base.specs.declared.source.Source.{Ghosts as Sources}
use Rattle.hk_base.specs.declared.sink.Sink.{Ghosts as Sinks}
use Rattle.hk_spec_runs.specs.Outcome.{Task, Trades, IsWhole, IsStopped, IsReadFault, IsWriteFault}
use Rattle.hk_player.specs.declared.ending.Ending.{Ending}
use Rattle.hk_player.specs.declared.ending.Ending.TheVariants.{Whole, Stopped, ReadFault, SinkFault}

module _ {S K : Type 0} (source : Sources S) (sink : Sinks K) where
  -- bytes were taken from the input and others were appended to what is written, of which P holds
  abbrev pub Between : S → S → K → K → (List ℕ → List ℕ → Type 0) → Type 0
  Between input input' out out' P = Trades (source.left input) (source.left input') (sink.written out) (sink.written out') P

  -- What the task made of the input: what was read and written, and which count of faults is one more.
  abbrev pub Does : Task → Ending → S → S → K → K → Type 0
  Does task (Whole in_order) input input' out out' = Between input input' out out' (IsWhole task (source.left input') in_order)
      × (source.faults input' ≡ source.faults input) × (sink.faults out' ≡ sink.faults out)
  Does task Stopped input input' out out' = Between input input' out out' (IsStopped task (source.left input'))
      × (source.faults input' ≡ source.faults input) × (sink.faults out' ≡ sink.faults out)
  Does task ReadFault input input' out out' = Between input input' out out' (IsReadFault task)
      × Rose (source.faults input) (source.faults input') × (sink.faults out' ≡ sink.faults out)
  Does task SinkFault input input' out out' =
      Between input input' out out' (IsWriteFault task (Rose (source.faults input) (source.faults input')) (source.left input'))
      × (source.faults input ≤ source.faults input') × Rose (sink.faults out) (sink.faults out')
