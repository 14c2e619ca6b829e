-- The edges of the bands in use: 34, rising, within the spectrum.
use Rattle.std.proofs.Common.{◌≡◌, ℕ, ◌+◌, ◌<◌, ◌&&◌, nat_lt, get_or, drop, length, refl, ◌∙◌, ap, sym, arith, Bool, true}
use Rattle.std.proofs.lemmas.List.{get_or-drop, length-drop}
use Rattle.std.proofs.lemmas.List.Sums.{AllPass-from_list_all}
use Rattle.std.proofs.lemmas.Slice.Zip.{get_or-zip}
use Rattle.std.proofs.lemmas.Bool.Decides.{nat_tests}
use Rattle.hk_spec_sound.specs.Windows.{adjacent}
use Rattle.hk_spec_sound.specs.Prints.{full_analysis}

pub length-edges : length full_analysis.edges ≡ 34
unfolding full_analysis
length-edges = refl

-- a band has some bins, and they lie within the spectrum
abbrev is_band : ℕ × ℕ → Bool
is_band e = nat_lt e.0 e.1 && nat_lt e.1 2048

bands_pass : (m : ℕ) → m < 33 → is_band (get_or (adjacent full_analysis.edges) m (0, 0)) ≡ true
unfolding full_analysis
bands_pass m low = AllPass-from_list_all is_band (adjacent full_analysis.edges) refl m (0, 0) low

pub edges_rise : (m : ℕ) → m < 33 → (get_or full_analysis.edges m 0 < get_or full_analysis.edges (m + 1) 0) × (get_or full_analysis.edges (m + 1) 0 < 2048)
edges_rise m low =
    let edges = full_analysis.edges in
    let place : 1 + m ≡ m + 1 = omega arith in
    let pair : get_or (adjacent edges) m (0, 0) ≡ (get_or edges m 0, get_or edges (m + 1) 0) =
    get_or-zip edges (drop 1 edges) m (0, 0) (omega (arith, length-edges)) (omega (arith, length-edges, length-drop 1 edges))
    ∙ ap (λ h. (get_or edges m 0, h)) (get_or-drop 1 edges m 0 ∙ ap (λ k. get_or edges k 0) place) in
    let passes : is_band (get_or edges m 0, get_or edges (m + 1) 0) ≡ true = sym (ap is_band pair) ∙ bands_pass m low in
    grind (arith, nat_tests)
