-- The energies hang on the bins of the bands alone.
use Rattle.std.proofs.Common.{◌≡◌, ℕ, ◌+◌, ◌-◌, ◌<◌, ◌≤◌, ◌&&◌, nat_le, Bool, true, refl, ap, sym, ◌∙◌, arith, List, length, drop, get_or}
use Rattle.std.specs.Prelude.{slice_range}
use Rattle.std.proofs.lemmas.Bool.Decides.{nat_tests}
use Rattle.std.proofs.lemmas.List.{same_lists, length-drop, length-take-le, get_or-take, get_or-drop}
use Rattle.std.proofs.lemmas.List.Sums.{AllPass-from_list_all}
use Rattle.hk_spec_sound.specs.Spectrum.{Complex, energy, energies}
use Rattle.hk_spec_sound.specs.Prints.{full_analysis}
use Rattle.hk_spec_sound.proofs.Edges.{length-edges}
use Rattle.hk_spec_sound.proofs.Spectra.{length-energies, get_or-energies}

-- these bins are the same
abbrev pub HaveSame : ℕ → ℕ → List Complex → List Complex → Type 0
HaveSame low high xs ys = (k : ℕ) (d : Complex) → low ≤ k → k < high → get_or xs k d ≡ get_or ys k d

same_range : (low high a b : ℕ) (xs ys : List Complex) → length xs ≡ length ys → b ≤ length xs → low ≤ a → b ≤ high
    → HaveSame low high xs ys → slice_range xs a b ≡ slice_range ys a b
same_range low high a b xs ys len inside from upto same =
    let xs_len : length (slice_range xs a b) ≡ b - a = length-take-le (b - a) (drop a xs) (omega (arith, length-drop a xs, inside)) in
    let ys_len : length (slice_range ys a b) ≡ b - a = length-take-le (b - a) (drop a ys) (omega (arith, length-drop a ys, inside, len)) in
    same_lists (slice_range xs a b) (slice_range ys a b) (xs_len ∙ sym ys_len) (λ k d in_k.
    get_or-take (b - a) (drop a xs) k d (omega (arith, in_k, xs_len))
    ∙ get_or-drop a xs k d
    ∙ same (a + k) d (omega (arith, from)) (omega (arith, in_k, xs_len, upto))
    ∙ sym (get_or-drop a ys k d)
    ∙ sym (get_or-take (b - a) (drop a ys) k d (omega (arith, in_k, xs_len))))

abbrev is_edge : ℕ → Bool
is_edge e = nat_le 111 e && nat_le e 743

edge_within : (m : ℕ) → m < 34 → (111 ≤ get_or full_analysis.edges m 0) × (get_or full_analysis.edges m 0 ≤ 743)
unfolding full_analysis
edge_within m inside =
    let passes : is_edge (get_or full_analysis.edges m 0) ≡ true = AllPass-from_list_all is_edge full_analysis.edges refl m 0 inside in
    grind (arith, nat_tests)

pub same_energies : (xs ys : List Complex) → length xs ≡ 2048 → length ys ≡ 2048 → HaveSame 111 743 xs ys
    → energies full_analysis.edges xs ≡ energies full_analysis.edges ys
same_energies xs ys xs_len ys_len same =
    let edges = full_analysis.edges in
    same_lists (energies edges xs) (energies edges ys) (length-energies edges xs ∙ sym (length-energies edges ys)) (λ m d inside.
    let here : m < 33 = omega (arith, inside, length-energies edges xs, length-edges) in
    let low = edge_within m (omega (arith, here)) in
    let high = edge_within (m + 1) (omega (arith, here)) in
    get_or-energies edges xs m d (omega (arith, here, length-edges))
    ∙ ap energy (same_range 111 743 (get_or edges m 0) (get_or edges (m + 1) 0) xs ys (xs_len ∙ sym ys_len) (omega (arith, xs_len, high.1)) low.0 high.1 same)
    ∙ sym (get_or-energies edges ys m d (omega (arith, here, length-edges))))
