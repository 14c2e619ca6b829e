-- The open song, and the sound that came.
use Rattle.std.specs.Prelude.{◌≡◌, ℕ, true, if◌then◌else◌, List, [], ◌∷◌, ◌++◌, drop, slice_index, Option, Some, None}
use Rattle.hk_base.specs.declared.plain.Form.{Form}
use Rattle.hk_spec_sound.specs.Prints.{full_analysis}
use Rattle.hk_spec_sound.specs.Limits.{CHANNELS, FACTORS}
use Rattle.hk_spec_streams.specs.Pieces.{is_one_of}
use Rattle.hk_spec_streams.specs.Commands.{Content, Sound, content_of}
use Rattle.hk_spec_streams.specs.Operator.{Command, Audio}
use Rattle.hk_spec_matching.specs.Matching.{MOST_ERRORS}
use Rattle.hk_spec_runs.specs.OperatorState.{UnfinishedSong, words_heard}
use Rattle.hk_spec_settings.specs.Settings.{Rules}
use Rattle.hk_operator_wire.specs.declared.item.Part.{Part}
use Rattle.hk_operator_wire.specs.declared.item.Part.TheVariants as parts
use Rattle.hk_operator_wire.specs.Items.{is_whole_command}
use Rattle.hk_front.specs.Hearing.{channels_of, factor_of}
use Rattle.hk_front.specs.Hearing as front
use Rattle.hk_operator.specs.WordBuffer.{KeepsWords}
use Rattle.hk_operator.specs.declared.recorder.Recorder.{Recorder}

-- the rules that are built in
pub record IsFixed (rules : Rules) : Type 0 where
  pub block_size : rules.setting.block.size ≡ 256
  pub errors : rules.errors ≡ MOST_ERRORS
  pub analysis : rules.setting.analysis ≡ full_analysis

abbrev pub IsAllowedForm : Form → Type 0
IsAllowedForm form = (is_one_of CHANNELS form.channels ≡ true) × (is_one_of FACTORS form.factor ≡ true)

-- the sound that a byte brings, that a command has, and that a command's bytes have
abbrev pub sound_in : Part → List ℕ
sound_in (parts.Byte byte) = byte ∷ []
sound_in parts.Nothing = []
sound_in (parts.Begin kind) = []
sound_in (parts.Id id) = []
sound_in (parts.Word word) = []
sound_in (parts.Form form) = []

abbrev pub sound_of : Command → List ℕ
sound_of (Audio bytes) = bytes
sound_of command = []

abbrev pub sound_if : Content → List ℕ → List ℕ
sound_if Sound payload = payload
sound_if content payload = []

abbrev pub sound_there : List ℕ → List ℕ
sound_there bytes = sound_if (content_of (slice_index bytes 0)) (drop 5 bytes)

-- the sound of a command that isn't whole yet
abbrev pub sound_ahead : List ℕ → List ℕ
sound_ahead bytes = if is_whole_command bytes then [] else sound_there bytes

-- The recorder has heard this sound of the song.
pub record Hears (rules : Rules) (recorder : Recorder) (song : UnfinishedSong) (heard : List ℕ) : Type 0 where
  pub id : recorder.song ≡ Some song.id
  pub channels : channels_of recorder.front ≡ song.form.channels
  pub factor : factor_of recorder.front ≡ song.form.factor
  pub taken : front.HasAnalysed recorder.front heard
  pub words : KeepsWords recorder.words (words_heard rules (record song { audio = heard }))

-- The recorder has heard the open song's sound, and the sound behind it.
abbrev pub IsRecording : Rules → Recorder → Option UnfinishedSong → List ℕ → Type 0
IsRecording rules recorder None sound = recorder.song ≡ None
IsRecording rules recorder (Some song) sound = Hears rules recorder song (song.audio ++ sound)
