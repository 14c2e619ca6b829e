-- Each fall of the energy and each difference of two falls.
use Rattle.std.proofs.Common.{◌≡◌, ◌∙◌, ℕ, ◌+◌, ◌<◌, ℤ, pos, ◌-ℤ◌, List, drop, length, get_or, ap, arith}
use Rattle.std.specs.List.{zip}
use Rattle.std.proofs.lemmas.List.{length-map, length-drop, get_or-map, get_or-drop}
use Rattle.std.proofs.lemmas.Slice.Zip.{length-zip, get_or-zip}
use Rattle.hk_spec_sound.specs.Windows.{adjacent}
use Rattle.hk_spec_sound.specs.Prints.{falls, differences}

-- from band m to the next
abbrev pub fall_at : List ℕ → ℕ → ℤ
fall_at energies m = pos (get_or energies m 0) -ℤ pos (get_or energies (m + 1) 0)

length-adjacent : (energies : List ℕ) (n : ℕ) → length energies ≡ n + 1 → length (adjacent energies) ≡ n
length-adjacent energies n all = length-zip energies (drop 1 energies) ∙ omega (arith, length-drop 1 energies)

length-falls : (energies : List ℕ) (n : ℕ) → length energies ≡ n + 1 → length (falls energies) ≡ n
length-falls energies n all = length-map (adjacent energies) (λ e. pos e.0 -ℤ pos e.1) ∙ length-adjacent energies n all

get_or-falls : (energies : List ℕ) (n m : ℕ) → length energies ≡ n + 1 → m < n → get_or (falls energies) m (pos 0) ≡ fall_at energies m
get_or-falls energies n m all inside =
    let fall : ℕ × ℕ → ℤ = λ e. pos e.0 -ℤ pos e.1 in
    let place : 1 + m ≡ m + 1 = omega arith in
    get_or-map fall (adjacent energies) m (0, 0) (pos 0) (omega (arith, length-adjacent energies n all))
    ∙ ap fall (get_or-zip energies (drop 1 energies) m (0, 0) (omega arith) (omega (arith, length-drop 1 energies)))
    ∙ ap (λ e. pos (get_or energies m 0) -ℤ pos e) (get_or-drop 1 energies m 0 ∙ ap (λ k. get_or energies k 0) place)

pub length-differences : (before now : List ℕ) (n : ℕ) → length before ≡ n + 1 → length now ≡ n + 1 → length (differences before now) ≡ n
unfolding differences
length-differences before now n all_before all_now =
    length-map (zip (falls now) (falls before)) (λ d. d.0 -ℤ d.1)
    ∙ length-zip (falls now) (falls before) ∙ omega (arith, length-falls now n all_now, length-falls before n all_before)

pub get_or-differences : (before now : List ℕ) (n m : ℕ) → length before ≡ n + 1 → length now ≡ n + 1 → m < n
    → get_or (differences before now) m (pos 0) ≡ fall_at now m -ℤ fall_at before m
unfolding differences
get_or-differences before now n m all_before all_now inside =
    let change : ℤ × ℤ → ℤ = λ d. d.0 -ℤ d.1 in
    let now_inside : m < length (falls now) = omega (arith, length-falls now n all_now) in
    let before_inside : m < length (falls before) = omega (arith, length-falls before n all_before) in
    get_or-map change (zip (falls now) (falls before)) m (pos 0, pos 0) (pos 0) (omega (arith, length-zip (falls now) (falls before)))
    ∙ ap change (get_or-zip (falls now) (falls before) m (pos 0, pos 0) now_inside before_inside)
    ∙ ap (λ z. z -ℤ get_or (falls before) m (pos 0)) (get_or-falls now n m all_now inside)
    ∙ ap (λ z. fall_at now m -ℤ z) (get_or-falls before n m all_before inside)
