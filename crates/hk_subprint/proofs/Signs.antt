-- The bits of the word.
use Rattle.std.proofs.Common.{◌≡◌, ℕ, ◌<◌, ℤ, pos, int_lt, List, map, length, get_or, Bool, refl}
use Rattle.std.proofs.lemmas.List.{length-map, get_or-map}
use Rattle.hk_spec_sound.specs.Numbers.{number_of_bits}
use Rattle.hk_spec_sound.specs.Prints.{word_of}

-- whether each difference is over 0
abbrev pub signs : List ℤ → List Bool
signs ds = map (λ d. int_lt (pos 0) d) ds

pub word_of-signs : (ds : List ℤ) → word_of ds ≡ number_of_bits (signs ds)
unfolding word_of
word_of-signs ds = refl

pub length-signs : (ds : List ℤ) → length (signs ds) ≡ length ds
length-signs ds = length-map ds (λ d. int_lt (pos 0) d)

pub get_or-signs : (ds : List ℤ) (m : ℕ) (e : Bool) → m < length ds → get_or (signs ds) m e ≡ int_lt (pos 0) (get_or ds m (pos 0))
get_or-signs ds m e inside = get_or-map (λ d. int_lt (pos 0) d) ds m (pos 0) e inside
