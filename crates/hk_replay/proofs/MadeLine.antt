-- The order to make an input, from the line that is written.
use Rattle.std.proofs.Common.{◌≡◌, ◌++◌, ℕ, List, [], refl, sym, ◌∙◌, ap, arith, inl, Bool, true, false, Option, Some}
use Rattle.std.specs.Prelude.{Result, Ok, Err, option_map}
use Rattle.hk_base.specs.Devices.{Took, Wrote}
use Rattle.hk_base.specs.declared.source.Source.{Ghosts as Sources}
use Rattle.hk_base.specs.declared.sink.Sink.{Ghosts as Sinks}
use Rattle.hk_base.specs.declared.plain.NoMemory.{NoMemory}
use Rattle.hk_base.proofs.Taking.{Took-nothing}
use Rattle.hk_spec_settings.specs.Settings.{Rules}
use Rattle.hk_spec_runs.specs.Make.{make_line}
use Rattle.hk_spec_runs.specs.Replay.{replay}
use Rattle.hk_spec_runs.specs.Outcome.{Task, task_of, IsWhole, IsWriteFault}
use Rattle.hk_spec_runs.specs.Words.{Replay, Make}
use Rattle.hk_player.specs.declared.ending.Ending.{Ending}
use Rattle.hk_player.specs.declared.ending.Ending.TheVariants.{Whole, Stopped, ReadFault, SinkFault}
use Rattle.hk_replay.specs.Orders.{CarriesOut, HasMade}
use Rattle.hk_replay.proofs.Doing.{whole_input}

-- the order is carried out where its line was written, and nothing read
pub line_carries_out : {S K : Type 0} (source : Sources S) (sink : Sinks K) (seed : ℕ) (rules : Rules) (input : S) (out out' : K) (result : Result Ending NoMemory)
    → HasMade sink (make_line rules seed) result out out' → CarriesOut source sink (task_of (Make seed rules)) result input input out out'
line_carries_out source sink seed rules input out out' (Ok (Whole true)) made = (
  (
    [],
    make_line rules seed,
    Took-nothing (source.left input),
    made.appended,
    record {
      to_the_end = λ reads. cc;
      unread = λ is. refl;
      refused = [];
      right = refl;
      text = refl;
      ended = refl;
    },
  ),
  refl,
  made.stays,
)
line_carries_out source sink seed rules input out out' (Ok SinkFault) made = (
  (
    [],
    made.front.0,
    Took-nothing (source.left input),
    made.front.4,
    record {
      unread = λ is. refl;
      more = made.front.1;
      text = inl ([], sym made.front.2);
    },
  ),
  omega arith,
  made.cause,
)
line_carries_out source sink seed rules input out out' (Ok (Whole false)) made = absurd made
line_carries_out source sink seed rules input out out' (Ok Stopped) made = absurd made
line_carries_out source sink seed rules input out out' (Ok ReadFault) made = absurd made
line_carries_out source sink seed rules input out out' (Err none) same = (refl, same)

-- what a replay of made bytes wrote into an empty text
pub replayed : (rules : Rules) (made b o text : List ℕ) (left : Option (List ℕ)) (in_order : Bool) → Took b (Some made) left → Wrote o (Some []) (Some text)
    → IsWhole (task_of (Replay rules)) left in_order b o → (refused : List ℕ) × (text ≡ replay rules made refused)
replayed rules made b o text left in_order took wrote whole =
    let same : b ≡ made = whole_input b made (Some made) left took refl (whole.to_the_end refl) in
    let all : text ≡ o = cc in
    (whole.refused, all ∙ whole.text ∙ ap (λ t. replay rules t whole.refused) same)
