-- A frame more: its energies, and the print of these and those before.
use Rattle.std.proofs.Common.{◌≡◌, ℕ, ◌^◌, List, [], ◌∷◌, ◌++◌, map, refl, ◌∙◌, ap, Option, Some, None, ℤ}
use Rattle.std.specs.Prelude.{option_map, option_to_list}
use Rattle.std.proofs.lemmas.List.{map-append}
use Rattle.hk_base.specs.declared.plain.Print.{Print}
use Rattle.hk_spec_sound.specs.Windows.{windows, adjacent, last_of}
use Rattle.hk_spec_sound.specs.Prints.{Analysis, energies_of, frame_energies, differences, print_of, prints_of_samples}

-- an item more stands beside the one that was last
pub adjacent-append : {A : Type 0} (xs : List A) (x : A) → adjacent (xs ++ x ∷ []) ≡ adjacent xs ++ option_to_list (option_map (λ w. (w, x)) (last_of xs))
adjacent-append [] x = refl
adjacent-append (w ∷ []) x = refl
adjacent-append (v ∷ w ∷ xs) x = ap (λ ps. (v, w) ∷ ps) (adjacent-append (w ∷ xs) x)

pub frame_energies-more : (a : Analysis) (samples longer : List ℤ) (frames : List (List ℤ))
    → windows (2 ^ a.stages) a.step longer ≡ windows (2 ^ a.stages) a.step samples ++ frames
    → frame_energies a longer ≡ frame_energies a samples ++ map (energies_of a) frames
unfolding frame_energies
frame_energies-more a samples longer frames more = ap (map (energies_of a)) more ∙ map-append (energies_of a) (windows (2 ^ a.stages) a.step samples) frames

-- what the energies now add to the prints, with those before
abbrev pub next_print : ℕ → Option (List ℕ) → List ℕ → Option Print
next_print flips before now = option_map (λ e. print_of flips (differences e now)) before

-- the print of the energies of two frames
abbrev print_between : ℕ → List ℕ × List ℕ → Print
print_between flips e = print_of flips (differences e.0 e.1)

print_beside : (flips : ℕ) (before : Option (List ℕ)) (now : List ℕ)
    → map (print_between flips) (option_to_list (option_map (λ w. (w, now)) before)) ≡ option_to_list (next_print flips before now)
print_beside flips None now = refl
print_beside flips (Some before) now = refl

pub prints-more : (a : Analysis) (flips : ℕ) (samples longer : List ℤ) (now : List ℕ) → frame_energies a longer ≡ frame_energies a samples ++ now ∷ []
    → prints_of_samples a flips longer
    ≡ prints_of_samples a flips samples ++ option_to_list (next_print flips (last_of (frame_energies a samples)) now)
unfolding prints_of_samples
prints-more a flips samples longer now more =
    let before = frame_energies a samples in
    let print = print_between flips in
    ap (λ es. map print (adjacent es)) more
    ∙ ap (map print) (adjacent-append before now)
    ∙ map-append print (adjacent before) (option_to_list (option_map (λ w. (w, now)) (last_of before)))
    ∙ ap (λ ps. map print (adjacent before) ++ ps) (print_beside flips (last_of before) now)

pub prints-same : (a : Analysis) (flips : ℕ) (samples longer : List ℤ) → frame_energies a longer ≡ frame_energies a samples
    → prints_of_samples a flips longer ≡ prints_of_samples a flips samples
unfolding prints_of_samples
prints-same a flips samples longer same = ap (λ es. map (print_between flips) (adjacent es)) same

pub last_of-append : {A : Type 0} (xs : List A) (x : A) → last_of (xs ++ x ∷ []) ≡ Some x
last_of-append [] x = refl
last_of-append (w ∷ []) x = refl
last_of-append (v ∷ w ∷ xs) x = last_of-append (w ∷ xs) x
