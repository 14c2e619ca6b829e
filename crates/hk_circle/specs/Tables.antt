-- Tables of the circle's numbers.
use Rattle.std.specs.Prelude.{◌≡◌, ◌<◌, ◌+◌, ◌*◌, ◌/◌, ◌^◌, ℕ, ℤ, pos, List, length, slice_index_or}
use Rattle.hk_spec_sound.specs.Spectrum.{AreBelow}

-- the first numbers of a function of the parts of the circle
pub record IsTable (count : ℕ) (f : ℕ → ℤ) (items : List ℤ) : Type 0 where
  pub len : length items ≡ count
  pub each : (k : ℕ) → k < count → slice_index_or items k (pos 0) ≡ f k
  pub below : AreBelow 32769 items

-- The numbers by which so many stages of a transform turn: from place 2 ^ s on those of the stage that joins halves of 2 ^ s
-- items, whose item k is turned by k times 1024 / 2 ^ s of 2048 parts of the circle.
pub record HasStages (stages : ℕ) (f : ℕ → ℤ) (items : List ℤ) : Type 0 where
  pub len : length items ≡ 2 ^ stages
  pub each : (s k : ℕ) → s < stages → k < 2 ^ s → slice_index_or items (2 ^ s + k) (pos 0) ≡ f (k * (1024 / 2 ^ s))
  pub below : AreBelow 32769 items

-- the numbers of one stage, which joins halves of so many items
pub record TurnsOf (f : ℕ → ℤ) (half : ℕ) (numbers : List ℤ) : Type 0 where
  pub len : length numbers ≡ half
  pub each : (k : ℕ) → k < half → slice_index_or numbers k (pos 0) ≡ f (k * (1024 / half))
  pub below : AreBelow 32769 numbers
