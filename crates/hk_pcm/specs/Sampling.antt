-- A reader of sound, as contracts see it.
use Rattle.std.specs.Prelude.{◌≡◌, ℕ, ◌*◌, List}
use Rattle.hk_spec_sound.specs.Windows.{begun}

-- how many channels there are, and the bytes of the group that has begun
pub record Sampling : Type 0 where
  pub channels : ℕ
  pub group : List ℕ

-- The reader has taken these bytes since its last reset. It keeps those of the group that has begun.
abbrev pub HasSampled : Sampling → List ℕ → Type 0
HasSampled reading bytes = reading.group ≡ begun (2 * reading.channels) (2 * reading.channels) bytes
