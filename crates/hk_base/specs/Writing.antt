-- What a call did with the sink that it was lent. The first argument tells what a sink has: K.Sink in a contract.
use Rattle.std.specs.Prelude.{◌≡◌, ℕ, List, Result, OnOk, OnErr}
use Rattle.hk_base.specs.Devices.{Wrote, WroteFront, Rose}
use Rattle.hk_base.specs.declared.sink.Sink.{Ghosts}

-- the text was appended, and no write failed
pub record HasWritten {K : Type 0} (sink : Ghosts K) (text : List ℕ) (old new : K) : Type 0 where
  pub appended : Wrote text (sink.written old) (sink.written new)
  pub stays : sink.faults new ≡ sink.faults old

-- a write failed, behind a proper front of the text
pub record HasFailed {K : Type 0} (sink : Ghosts K) (text : List ℕ) (old new : K) : Type 0 where
  pub front : WroteFront text (sink.written old) (sink.written new)
  pub cause : Rose (sink.faults old) (sink.faults new)

-- The frame of a writer of this text: at Ok all of it was written, and at Err a write failed before its end.
pub record Writes {K : Type 0} (sink : Ghosts K) {T E : Type 0} (text : List ℕ) (result : Result T E) (old new : K) : Type 0 where
  pub whole : OnOk result (HasWritten sink text old new)
  pub torn : OnErr result (HasFailed sink text old new)
