-- The operator's machine: what is answered to each command, and what stands after it.
use Rattle.std.specs.Prelude.{◌≡◌, ◌⊎◌, ℕ, ◌+◌, Bool, true, List, [], ◌∷◌, ◌++◌, map, length, Option, Some, None, is_some, is_none, option_map}
use Rattle.std.specs.Option.{option_map_or}
use Rattle.hk_base.specs.declared.plain.Form.{Form}
use Rattle.hk_base.specs.declared.plain.Reason.{Reason}
use Rattle.hk_base.specs.declared.plain.Reason.TheVariants.{Unknown, VersionsFull, SongOpen, NoSongOpen, NoMemory}
use Rattle.hk_base.specs.declared.plain.What.{What}
use Rattle.hk_base.specs.declared.plain.What.TheVariants.{Done, Published, Refused}
use Rattle.hk_spec_sound.specs.Prints.{prints_of_sound}
use Rattle.hk_spec_streams.specs.Pieces.{first_that_holds}
use Rattle.hk_spec_streams.specs.Operator.{Command, AddWords, OpenSong, Audio, Close, Withdraw, Publish, commands, operator_seen}
use Rattle.hk_spec_matching.specs.Catalogue.{Song, Songs, Edit, Add, Journal, has_song, positions_of, edited_by, version}
use Rattle.hk_spec_matching.specs.Catalogue as edits
use Rattle.hk_spec_settings.specs.Settings.{Rules}
use Rattle.hk_spec_settings.specs.Refusals.{add_refusals, withdraw_tests, publish_tests}

-- a song on its way, with the sound that came
pub record UnfinishedSong : Type 0 where
  pub id : ℕ
  pub form : Form
  pub audio : List ℕ

-- what was published, what is staged, and the open song
pub record OperatorState : Type 0 where
  pub journal : Journal
  pub staged : List Edit
  pub song : Option UnfinishedSong

abbrev pub with_audio : List ℕ → UnfinishedSong → UnfinishedSong
with_audio bytes song = record song { audio = song.audio ++ bytes }

abbrev pub new_state : OperatorState
new_state = record { journal = []; staged = []; song = None }

-- What stands once the operator's stream is over: what was published. An open song and edits that are staged are dropped.
abbrev pub at_end : OperatorState → OperatorState
at_end state = record state { staged = []; song = None }

module _ (rules : Rules) where
  -- the songs that a publish now would give: the last version with the staged edits
  abbrev pub present : OperatorState → Songs
  present state = edited_by rules.limits (version rules.limits state.journal (length state.journal)) state.staged

  -- the words of a recording as one segment
  abbrev pub words_heard : UnfinishedSong → List ℕ
  words_heard song =
      map (λ print. print.word) (prints_of_sound rules.setting.analysis rules.setting.flips song.form.channels song.form.factor song.audio)

  -- Why a command is refused, in the order in which it is tested.
  abbrev pub close_refusals : Songs → Option UnfinishedSong → List (Bool × Reason)
  close_refusals songs None = (true, NoSongOpen) ∷ []
  close_refusals songs (Some song) = add_refusals rules songs song.id (length (words_heard song))

  abbrev pub refusals : OperatorState → Command → List (Bool × Reason)
  refusals state (AddWords id words) = add_refusals rules (present state) id (length words)
  refusals state (OpenSong id form) = (is_some state.song, SongOpen) ∷ []
  refusals state (Audio bytes) = (is_none state.song, NoSongOpen) ∷ []
  refusals state Close = close_refusals (present state) state.song
  refusals state (Withdraw id) = withdraw_tests (has_song (present state) id) Unknown
  refusals state Publish = publish_tests rules.limits (length state.journal) VersionsFull

  abbrev pub success : OperatorState → Command → What
  success state Publish = Published (length state.journal + 1)
  success state command = Done

  -- the first refusal that holds, and else success
  unfoldable pub answer : OperatorState → Command → What
  answer state command = option_map_or (λ reason. Refused reason) (first_that_holds (refusals state command)) (success state command)

  -- A reply is the answer, or want of memory where the answer is no refusal.
  abbrev pub IsReply : OperatorState → Command → What → Type 0
  IsReply state command reply = (reply ≡ answer state command)
      ⊎ ((reply ≡ Refused NoMemory) × (first_that_holds (refusals state command) ≡ None))

  abbrev pub added_song : List ℕ → Song
  added_song words = record { words = words; limit = rules.errors }

  abbrev pub with_edit : OperatorState → Edit → OperatorState
  with_edit state edit = record state { staged = state.staged ++ edit ∷ [] }

  -- the song is staged and no song is open
  abbrev pub closed : OperatorState → Option UnfinishedSong → OperatorState
  closed state None = state
  closed state (Some song) = record state { staged = state.staged ++ Add song.id (added_song (words_heard song)) ∷ []; song = None }

  -- what stands after a command with this reply
  unfoldable pub after : OperatorState → Command → What → OperatorState
  after state (AddWords id words) Done = with_edit state (Add id (added_song words))
  after state (OpenSong id form) Done = record state { song = Some (record { id = id; form = form; audio = [] }) }
  after state (Audio bytes) Done = record state { song = option_map (with_audio bytes) state.song }
  after state (Audio bytes) (Refused NoMemory) = record state { song = None }
  after state Close Done = closed state state.song
  after state Close (Refused reason) = record state { song = None }
  after state (Withdraw id) Done = with_edit state (edits.Withdraw id)
  after state Publish (Published v) = record state { journal = state.journal ++ state.staged ∷ []; staged = [] }
  after state command reply = state

  -- these replies are given to these commands, one after another
  abbrev pub Replies : OperatorState → List Command → List What → Type 0
  Replies state [] [] = Unit {0}
  Replies state (command ∷ commands) (reply ∷ replies) = IsReply state command reply × Replies (after state command reply) commands replies
  Replies state [] (reply ∷ replies) = ⊥
  Replies state (command ∷ commands) [] = ⊥

  -- the state after commands with these replies
  abbrev pub state_after : OperatorState → List Command → List What → OperatorState
  state_after state (command ∷ commands) (reply ∷ replies) = state_after (after state command reply) commands replies
  state_after state commands replies = state

  -- what the operator's bytes publish with these replies
  abbrev pub journal_of : List ℕ → List What → Journal
  journal_of bytes replies = (at_end (state_after new_state (commands (operator_seen rules.bytes bytes)) replies)).journal
