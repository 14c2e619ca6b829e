-- A decimator, as contracts see it.
use Rattle.std.specs.Prelude.{◌≡◌, ℕ, ◌-◌, ◌*◌, ℤ, List}
use Rattle.hk_spec_sound.specs.Windows.{begun}

-- by which factor it decimates, and the samples of the mean that has begun
pub record Line : Type 0 where
  pub factor : ℕ
  pub window : List ℤ

-- The decimator has taken these samples since its last reset. It keeps those of the mean that has begun.
abbrev pub HasDecimated : Line → List ℤ → Type 0
HasDecimated line samples = line.window ≡ begun (2 * line.factor - 1) line.factor samples
