use Rattle.std.proofs.Common.{◌≤◌, ◌-◌, length, take}
use Rattle.hk_base.specs.Writing.{HasWritten}
use Rattle.hk_report.proofs.pieces.write_text.Given as goal

abbrev pub invariant-loop-done : goal.invariant-loop-done
invariant-loop-done g l = record {
  within : l.done ≤ length l.text;
  written : HasWritten g.K.Sink (take l.done l.text) l.fn.sink l.sink;
}

abbrev pub decreases-loop-done : goal.decreases-loop-done
decreases-loop-done g l = length l.text - l.done
