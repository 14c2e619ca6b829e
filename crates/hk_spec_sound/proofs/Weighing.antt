-- The weighted samples of a frame, one by one.
use Rattle.std.proofs.Common.{◌≡◌, ℕ, ◌+◌, ◌<◌, List, length, get_or, ◌∙◌, ap, arith, ℤ, pos, ◌*ℤ◌}
use Rattle.std.specs.List.{enumerate_from}
use Rattle.std.proofs.lemmas.List.{length-map, get_or-map}
use Rattle.std.proofs.lemmas.List.FromFn.{length-enumerate_from, get_or-enumerate_from}
use Rattle.hk_spec_sound.specs.Numbers.{scaled_down}
use Rattle.hk_spec_sound.specs.Circle.{hann_of}
use Rattle.hk_spec_sound.specs.Spectrum.{Complex}
use Rattle.hk_spec_sound.specs.Prints.{windowed}

-- a sample at a place, weighted
abbrev pub weighted_at : List (ℕ × ℕ) → ℕ × ℤ → Complex
weighted_at points y = record { re = scaled_down (y.1 *ℤ hann_of points y.0); im = pos 0 }

pub length-windowed : (points : List (ℕ × ℕ)) (ys : List ℤ) → length (windowed points ys) ≡ length ys
unfolding windowed
length-windowed points ys = length-map (enumerate_from 0 ys) (weighted_at points) ∙ length-enumerate_from 0 ys

pub get_or-windowed : (points : List (ℕ × ℕ)) (ys : List ℤ) (k : ℕ) (d : Complex) → k < length ys
    → get_or (windowed points ys) k d ≡ record { re = scaled_down (get_or ys k (pos 0) *ℤ hann_of points k); im = pos 0 }
unfolding windowed
get_or-windowed points ys k d inside =
    let place : 0 + k ≡ k = omega arith in
    get_or-map (weighted_at points) (enumerate_from 0 ys) k (0, pos 0) d (omega (arith, length-enumerate_from 0 ys))
    ∙ ap (weighted_at points) (get_or-enumerate_from 0 ys k (0, pos 0) inside)
    ∙ ap (λ p. weighted_at points (p, get_or ys k (pos 0))) place
