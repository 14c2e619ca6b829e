-- The last samples of a segment, as contracts see them.
use Rattle.std.specs.Prelude.{◌≡◌, ℕ, ◌+◌, ◌-◌, ◌%◌, ◌==◌, Bool, ◌&&◌, nat_le, ℤ, List, length, drop}
use Rattle.hk_spec_sound.specs.Windows.{windows, begun}

-- how many samples a frame has
abbrev pub FRAME_LEN : ℕ
FRAME_LEN = 2048

-- how many samples later each next frame begins
abbrev pub FRAME_STEP : ℕ
FRAME_STEP = 64

-- the last samples of the present segment, and how many more complete the next frame
pub record Recent : Type 0 where
  pub last : List ℤ
  pub missing : ℕ

-- The ring has taken these samples: it has the last 2048 of them, and the next frame lacks what the one that has begun lacks.
pub record HasLastSamples (recent : Recent) (samples : List ℤ) : Type 0 where
  pub last : recent.last ≡ drop (length samples - FRAME_LEN) samples
  pub missing : length (begun FRAME_LEN FRAME_STEP samples) + recent.missing ≡ FRAME_LEN

-- as many samples as a frame has came
abbrev pub is_full : Recent → Bool
is_full recent = nat_le FRAME_LEN (length recent.last)

-- the last of so many samples completes a frame
abbrev pub completes_frame : ℕ → Bool
completes_frame count = nat_le FRAME_LEN count && ((count - FRAME_LEN) % FRAME_STEP == 0)

-- the frames of a segment's samples
abbrev pub frames_of : List ℤ → List (List ℤ)
frames_of samples = windows FRAME_LEN FRAME_STEP samples
