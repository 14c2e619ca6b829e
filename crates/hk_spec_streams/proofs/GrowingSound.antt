-- More bytes of sound have more samples, frames and prints: those of the bytes before stay in front.
use Rattle.std.proofs.Common.{◌≡◌, ℕ, zero, suc, ◌+◌, ◌-◌, ◌*◌, ◌^◌, ℤ, List, [], ◌∷◌, ◌++◌, length, map, sym, ◌∙◌, ap, arith, cond, append-nil, inl, inr}
use Rattle.std.specs.Prelude.{option_map, option_to_list, nat_lt}
use Rattle.std.specs.List.{enumerate_from}
use Rattle.std.proofs.lemmas.List.{map-append}
use Rattle.std.proofs.lemmas.Bool.Decides.{leb_tells}
use Rattle.std.proofs.Math.Nat.{div-zero}
use Rattle.hk_spec_sound.specs.Windows.{windows, window, window_count, adjacent, last_of}
use Rattle.hk_spec_sound.specs.Samples.{samples_of, mono_of, decimated, weighted_mean}
use Rattle.hk_spec_sound.specs.Prints.{Analysis, energies_of, frame_energies, differences, print_of, prints_of_samples, prints_of_sound}
use Rattle.hk_spec_sound.proofs.Growing.{Grows, by_one, after}
use Rattle.hk_spec_sound.proofs.GrowingWindows.{windows-append, windows-append_none, windows-append_one, completes}
use Rattle.hk_spec_sound.proofs.GrowingPrints.{adjacent-append}
use Rattle.hk_spec_streams.proofs.GrowingBlocks.{enumerate-append}

pub mapped : {A B : Type 0} (f : A → B) → Grows (map f)
unfolding Grows
mapped f xs ys = (map f ys, map-append f xs ys)

pub numbered : (A : Type 0) (n : ℕ) → Grows {A = A} {B = ℕ × A} (enumerate_from n)
unfolding Grows
numbered A n xs ys = (enumerate_from (n + length xs) ys, enumerate-append n xs ys)

-- windows that all begin at 0 are one, once there are so many items
all_at_start : (size n : ℕ) → window_count size 0 n ≡ cond (nat_lt n size) 0 1
all_at_start size n = ap (λ q. cond (nat_lt n size) 0 (q + 1)) (div-zero (n - size))

at_start : (A : Type 0) (size : ℕ) → Grows (windows {A = A} size 0)
at_start A size = by_one (windows {A = A} size 0) (λ xs x.
    let none_more : window_count size 0 (length xs + 1) ≡ window_count size 0 (length xs) → (more : List (List A)) × (windows size 0 (xs ++ x ∷ []) ≡ windows size 0 xs ++ more) =
    λ same. ([], windows-append_none size 0 xs x same ∙ sym (append-nil (windows size 0 xs))) in
    let now : window_count size 0 (length xs + 1) ≡ cond (nat_lt (length xs + 1) size) 0 1 = all_at_start size (length xs + 1) in
    let before : window_count size 0 (length xs) ≡ cond (nat_lt (length xs) size) 0 1 = all_at_start size (length xs) in
    elim (leb_tells (suc (length xs)) size) [
      | inl few ↦ elim (leb_tells (suc (length xs + 1)) size) [
        | inl fewer ↦ none_more (now ∙ ap (λ c. cond c 0 1) fewer.0 ∙ sym (before ∙ ap (λ c. cond c 0 1) few.0))
        | inr reaches ↦ (
          window size 0 (xs ++ x ∷ []) (window_count size 0 (length xs)) ∷ [],
          windows-append_one size 0 xs x (now ∙ ap (λ c. cond c 0 1) reaches.0 ∙ sym (ap (λ n. n + 1) (before ∙ ap (λ c. cond c 0 1) few.0))),
        )
      ]
      | inr many ↦ elim (leb_tells (suc (length xs + 1)) size) [
        | inl fewer ↦ absurd (omega (arith, many.1, fewer.1))
        | inr more ↦ none_more (now ∙ ap (λ c. cond c 0 1) more.0 ∙ sym (before ∙ ap (λ c. cond c 0 1) many.0))
      ]
    ])

pub windowed_by : (A : Type 0) (size step : ℕ) → Grows (windows {A = A} size step)
windowed_by A size zero = at_start A size
windowed_by A size (suc step) = by_one (windows {A = A} size (suc step)) (λ xs x. (
  cond (completes size (suc step) (length xs + 1)) (window size (suc step) (xs ++ x ∷ []) (window_count size (suc step) (length xs)) ∷ []) [],
  windows-append size (suc step) xs x (omega arith),
))

side_by_side : (A : Type 0) → Grows (adjacent {A = A})
side_by_side A = by_one (adjacent {A = A}) (λ xs x. (option_to_list (option_map (λ w. (w, x)) (last_of xs)), adjacent-append xs x))

sounds_grow : (channels : ℕ) → Grows (samples_of channels)
unfolding samples_of
sounds_grow channels = after (map (mono_of channels)) (windows (2 * channels) (2 * channels)) (mapped (mono_of channels)) (windowed_by ℕ (2 * channels) (2 * channels))

means_grow : (factor : ℕ) → Grows (decimated factor)
unfolding decimated
means_grow factor = after (map (weighted_mean factor)) (windows (2 * factor - 1) factor) (mapped (weighted_mean factor)) (windowed_by ℤ (2 * factor - 1) factor)

energies_grow : (a : Analysis) → Grows (frame_energies a)
unfolding frame_energies
energies_grow a = after (map (energies_of a)) (windows (2 ^ a.stages) a.step) (mapped (energies_of a)) (windowed_by ℤ (2 ^ a.stages) a.step)

samples_print : (a : Analysis) (flips : ℕ) → Grows (prints_of_samples a flips)
unfolding prints_of_samples
samples_print a flips = after (map (λ e. print_of flips (differences e.0 e.1))) (λ ys. adjacent (frame_energies a ys)) (mapped (λ e. print_of flips (differences e.0 e.1)))
    (after adjacent (frame_energies a) (side_by_side (List ℕ)) (energies_grow a))

pub sound_prints : (a : Analysis) (flips channels factor : ℕ) → Grows (prints_of_sound a flips channels factor)
unfolding prints_of_sound
sound_prints a flips channels factor = after (prints_of_samples a flips) (λ bytes. decimated factor (samples_of channels bytes)) (samples_print a flips)
    (after (decimated factor) (samples_of channels) (means_grow factor) (sounds_grow channels))
