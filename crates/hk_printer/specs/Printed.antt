-- A printer and the sound that it has printed.
use Rattle.std.specs.Prelude.{◌≡◌, ℕ, ◌≤◌, ◌<◌, ◌^◌, if◌then◌else◌, List, length, Option, Some, None}
use Rattle.hk_base.specs.declared.plain.Trouble.{Trouble}
use Rattle.hk_base.specs.declared.plain.Trouble.TheVariants.{TooLong}
use Rattle.hk_spec_runs.specs.Options.{Printing}
use Rattle.hk_spec_runs.specs.Words.{Print}
use Rattle.hk_spec_runs.specs.Outcome.{task_of}
use Rattle.hk_front.specs.Hearing as fronts
use Rattle.hk_player.specs.Playing.{IsInForm}
use Rattle.hk_printer.specs.declared.printer.Printer.{Printer}

-- what the printer is set to
abbrev pub printing_of : Printer → Printing
printing_of printer = record {
  channels = fronts.channels_of printer.front;
  factor = fronts.factor_of printer.front;
  flips = printer.front.flips;
  bytes = printer.limit;
}

-- the fault that the printer has met: a byte came past its limit
abbrev pub fault_met : Printer → Option Trouble
fault_met printer = if printer.is_over then Some (TooLong printer.limit) else None

-- The printer has taken these bytes, which are no more than its limit, and has written a line for each of their prints.
pub record HasPrinted (printer : Printer) (bytes : List ℕ) : Type 0 where
  pub some_channels : 1 ≤ fronts.channels_of printer.front
  pub some_factor : 1 ≤ fronts.factor_of printer.front
  pub heard : fronts.HasAnalysed printer.front bytes
  pub taken : printer.taken ≡ length bytes
  pub in_form : IsInForm (task_of (Print (printing_of printer))) bytes
  pub within : length bytes ≤ printer.limit
  pub most : printer.limit < 2 ^ 63
  pub lines : printer.lines ≡ length (fronts.prints_in printer.front bytes)
  pub none_met : fault_met printer ≡ None
