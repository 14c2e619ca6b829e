-- What a clerk did at its desk: it read the operator's calls to an end, obeyed them and replied.
use Rattle.std.specs.Prelude.{◌≡◌, length, Some}
use Rattle.hk_base.specs.Devices.{Took, Wrote}
use Rattle.hk_base.specs.declared.source.Source as sources
use Rattle.hk_base.specs.declared.sink.Sink as sinks
use Rattle.hk_spec_settings.specs.Settings.{Rules}
use Rattle.hk_spec_runs.specs.OperatorState.{new_state}
use Rattle.hk_spec_monitor.specs.Run.{Obeyed, HasReplies, answers_text}
use Rattle.hk_spec_monitor.specs.Causes.{OperatorCauseOf, OperatorStayedBut}
use Rattle.hk_outside.specs.Doors.{Pair}
use Rattle.hk_outside.specs.declared.door.Held.{Held}
use Rattle.hk_operator.specs.Obeying.{IsObeying, new_stream}
use Rattle.hk_publish.specs.Holding.{Holding, shelf_of}
use Rattle.hk_clerk.specs.Course.{HasCounted, staged_by}
use Rattle.hk_clerk.specs.declared.office.Office.{Office}

module _ {C P : Type 0} (source : sources.Ghosts C) (sink : sinks.Ghosts P) where
  -- what is told of an office's calls and replies, wherever a door has them
  abbrev pub pair_of : Held → Office C P → Pair
  pair_of held office = record {
    held = held;
    gives = record { bytes = source.left office.calls; faults = source.faults office.calls };
    takes = record { bytes = sink.written office.replies; faults = sink.faults office.replies };
  }

  -- The clerk took bytes from the calls, did their whole commands one after another, and wrote the replies. What the desk has
  -- published is what the replies publish, and what they left staged is staged still. The end has its cause, and no failure was passed
  -- over.
  pub record HasObeyedAll (rules : Rules) (old new : Office C P) (desk : Holding) (o : Obeyed) : Type 0 where
    pub taken : Took o.taken (source.left old.calls) (source.left new.calls)
    pub written : Wrote (answers_text rules o) (sink.written old.replies) (sink.written new.replies)
    pub replies : HasReplies rules desk.published o
    pub staged : desk.staged ≡ staged_by rules o
    pub counted : HasCounted rules new.operator desk (length o.replies)
    pub end : new.end ≡ Some o.end
    pub cause : (held held' : Held) → OperatorCauseOf rules (pair_of held old) (pair_of held' new) o o.end
    pub stayed : (held held' : Held) → OperatorStayedBut (pair_of held old) (pair_of held' new) o.end

  -- That is so for all rules for which the operator and the desk were new: no byte was taken, and nothing was published or staged.
  -- The desk is of the same start, with the same limits.
  pub record HasAttended (old : Office C P) (desk : Holding) (new : Office C P) (desk' : Holding) : Type 0 where
    pub home : desk'.home ≡ desk.home
    pub limits : desk'.limits ≡ desk.limits
    pub obeyed : (rules : Rules) → IsObeying rules old.operator (shelf_of desk) new_stream new_state
        → (o : Obeyed) × HasObeyedAll rules old new desk' o
