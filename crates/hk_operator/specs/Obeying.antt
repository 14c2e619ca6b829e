-- An operator, its shelf, and the stream and the state that they stand for.
use Rattle.std.specs.Prelude.{◌≡◌, ℕ, ◌+◌, ◌-◌, ◌^◌, ◌<◌, ◌≤◌, min, Bool, true, false, if◌then◌else◌, List, [], ◌∷◌, ◌++◌, length, Option, Some, None, is_some}
use Rattle.std.specs.Option.{option_map_or}
use Rattle.hk_base.specs.declared.plain.OpEnd.{OpEnd}
use Rattle.hk_base.specs.declared.plain.OpEnd.TheVariants as ends
use Rattle.hk_base.specs.declared.plain.WireFault.{WireFault}
use Rattle.hk_spec_streams.specs.Pieces.{completed}
use Rattle.hk_spec_streams.specs.Operator.{Command, Publish, operator_met, operator_fault, commands}
use Rattle.hk_spec_runs.specs.OperatorState.{OperatorState, UnfinishedSong, IsReply, after}
use Rattle.hk_spec_settings.specs.Settings.{Rules}
use Rattle.hk_spec_runs.specs.Replay.{OperatorStream}
use Rattle.hk_block.specs.Looker.{ShelfView}
use Rattle.hk_operator_wire.specs.Items.{last_command}
use Rattle.hk_operator_wire.specs.Taken.{HasTaken, limit_of, fault_met}
use Rattle.hk_operator.specs.Draft.{IsDraft}
use Rattle.hk_operator.specs.Sound.{IsFixed, IsRecording, sound_ahead}
use Rattle.hk_operator.specs.OnShelf.{IsOnShelf}
use Rattle.hk_operator.specs.declared.done.Done.{Done}
use Rattle.hk_operator.specs.declared.done.Done.TheVariants.{More, Reply, Publish as Published, Over}
use Rattle.hk_operator.specs.declared.operator.Operator.{Operator}
use Rattle.hk_operator.specs.declared.recorder.Recorder.{Recorder}

-- The operator has taken these bytes, which have no fault, and keeps the open command, and the open song's words.
pub record HasObeyed (rules : Rules) (operator : Operator) (used : List ℕ) (song : Option UnfinishedSong) : Type 0 where
  pub taken : HasTaken operator.wire used
  pub no_fault : operator_fault rules.bytes used ≡ None
  pub draft : IsDraft operator.draft (last_command used)
  pub recording : IsRecording rules operator.recorder song (sound_ahead (last_command used))
  pub few : length (commands used) ≤ length used

-- The operator's stream is over by a fault that it has met, behind the bytes that it used.
pub record HasMet (rules : Rules) (operator : Operator) (end : OpEnd) : Type 0 where
  pub fault : WireFault
  pub is : end ≡ ends.Wire fault
  pub kept : fault_met operator.wire ≡ Some fault
  pub text : List ℕ
  pub taken : HasTaken operator.wire text
  pub met : operator_fault rules.bytes text ≡ Some fault

abbrev pub IsAtEnd : Rules → Operator → List ℕ → Option UnfinishedSong → Option OpEnd → Type 0
IsAtEnd rules operator used song None = HasObeyed rules operator used song
IsAtEnd rules operator used song (Some end) = HasMet rules operator end

-- The operator and its shelf stand for a stream and a state.
pub record IsObeying (rules : Rules) (operator : Operator) (view : ShelfView) (operator_stream : OperatorStream) (state : OperatorState) : Type 0 where
  pub fixed : IsFixed rules
  pub stream : IsAtEnd rules operator operator_stream.used state.song operator_stream.end
  pub shelf : IsOnShelf rules view state
  pub number : operator.commands ≡ length (commands operator_stream.used)
  pub limit : limit_of operator.wire ≡ rules.bytes
  pub short : rules.bytes < 2 ^ 64
  pub room : operator.draft.words.room ≡ rules.limits.positions
  pub song_room : operator.recorder.words.room ≡ rules.limits.positions

-- What stands of a state where a command is whole: the recorder has heard the command's sound, and the shelf has what was staged.
pub record IsAtCommand (rules : Rules) (operator : Operator) (view : ShelfView) (state : OperatorState) (sound : List ℕ) : Type 0 where
  pub fixed : IsFixed rules
  pub recording : IsRecording rules operator.recorder state.song sound
  pub shelf : IsOnShelf rules view state
  pub room : operator.draft.words.room ≡ rules.limits.positions
  pub song_room : operator.recorder.words.room ≡ rules.limits.positions

abbrev pub new_stream : OperatorStream
new_stream = record { used = []; end = None }

-- the stream after a byte: over by the fault that it meets, or with the byte used; one that is over stays
abbrev pub stream_after : Rules → OperatorStream → ℕ → OperatorStream
stream_after rules operator_stream byte =
    let used = operator_stream.used ++ byte ∷ [] in
    if is_some operator_stream.end then operator_stream else
    option_map_or (λ fault. record { used = operator_stream.used; end = Some (ends.Wire fault) }) (operator_met rules.bytes used) (record { used = used; end = None })

-- the command that a byte ends, none where the stream is over then
abbrev pub new_commands : Rules → OperatorStream → ℕ → List Command
new_commands rules operator_stream byte = if is_some (stream_after rules operator_stream byte).end then [] else completed commands (operator_stream.used ++ byte ∷ [])

abbrev pub end_in : Done → Option OpEnd
end_in (Over end) = Some end
end_in More = None
end_in (Reply reply) = None
end_in (Published number) = None

abbrev pub is_publish : Command → Bool
is_publish Publish = true
is_publish command = false

-- A command's reply is given with its number, and what the definitions leave of the state is left. A publish is handed out with its
-- number, and leaves the state as it is. Where no command ends nothing is given, and the state stays.
abbrev pub IsAnswered : Rules → OperatorState → ℕ → List Command → Done → (OperatorState → Type 0) → Type 0
IsAnswered rules state number [] More Leaves = Leaves state
IsAnswered rules state number [] (Over end) Leaves = Leaves state
IsAnswered rules state number [] (Reply reply) Leaves = ⊥
IsAnswered rules state number [] (Published n) Leaves = ⊥
IsAnswered rules state number (command ∷ more) (Reply reply) Leaves =
    (more ≡ []) × (is_publish command ≡ false) × (reply.number ≡ number) × IsReply rules state command reply.what × Leaves (after rules state command reply.what)
IsAnswered rules state number (command ∷ more) (Published n) Leaves = (more ≡ []) × (command ≡ Publish) × (n ≡ number) × Leaves state
IsAnswered rules state number (command ∷ more) More Leaves = ⊥
IsAnswered rules state number (command ∷ more) (Over end) Leaves = ⊥

-- the number of the next command
abbrev pub next_number : Operator → ℕ
next_number operator = min (operator.commands + 1) (2 ^ 64 - 1)

-- the operator with one command more, and this recorder
abbrev pub counted : Operator → Recorder → Operator
counted operator recorder = record operator { commands = next_number operator; recorder = recorder }
