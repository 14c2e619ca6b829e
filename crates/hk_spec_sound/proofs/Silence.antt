-- Nothing comes of nothing.
use Rattle.std.proofs.Common.{◌≡◌, ℕ, zero, suc, ◌-◌, ◌*◌, ◌/◌, ◌+◌, ◌^◌, ◌<◌, ◌≤◌, cond, [], map, ap, arith, inl, inr, ℤ}
use Rattle.std.specs.List.{range_with_len}
use Rattle.std.proofs.lemmas.Bool.Decides.{leb_tells}
use Rattle.hk_spec_sound.specs.Windows.{windows, window}
use Rattle.hk_spec_sound.specs.Samples.{samples_of, mono_of, decimated, weighted_mean}
use Rattle.hk_spec_sound.specs.Prints.{Analysis, energies_of, frame_energies}

pub windows-nil : {A : Type 0} (size step : ℕ) → 0 < size → windows {A = A} size step [] ≡ []
unfolding windows
windows-nil {A} size step some = elim (leb_tells 1 size) [
  | inl positive ↦ ap (λ b. map (window {A = A} size step []) (range_with_len 0 (cond b 0 ((0 - size) / step + 1)))) positive.0
  | inr none ↦ absurd (omega (arith, none.1, some))
]

pub samples_of-nil : (channels : ℕ) → 1 ≤ channels → samples_of channels [] ≡ []
unfolding samples_of
samples_of-nil channels some = ap (map (mono_of channels)) (windows-nil {A = ℕ} (2 * channels) (2 * channels) (omega (arith, some)))

pub decimated-nil : (factor : ℕ) → 1 ≤ factor → decimated factor [] ≡ []
unfolding decimated
decimated-nil factor some = ap (map (weighted_mean factor)) (windows-nil {A = ℤ} (2 * factor - 1) factor (omega (arith, some)))

some_power : (n : ℕ) → 0 < 2 ^ n
some_power zero = omega arith
some_power (suc n) = let power : 2 ^ suc n ≡ 2 * 2 ^ n = omega arith in omega (arith, power, some_power n)

pub frame_energies-nil : (a : Analysis) → frame_energies a [] ≡ []
unfolding frame_energies
frame_energies-nil a = ap (map (energies_of a)) (windows-nil {A = ℤ} (2 ^ a.stages) a.step (some_power a.stages))
