-- Lists of complex numbers by their parts, and the energy of one bin more.
use Rattle.std.proofs.Common.{◌≡◌, ℕ, zero, suc, ◌+◌, ◌-◌, ◌*◌, ◌<◌, List, [], ◌∷◌, length, map, take, drop, get_or, refl, ◌∙◌, ap, sym, arith, nat_abs, ℤ, pos, min, replicate}
use Rattle.std.specs.List.{zip, slice_range}
use Rattle.std.proofs.lemmas.List.{length-map, length-drop, get_or-map, get_or-drop, take-map, drop-map}
use Rattle.std.proofs.lemmas.List.Sums.{sum_by_more}
use Rattle.std.proofs.lemmas.Slice.Zip.{length-zip, get_or-zip}
use Rattle.hk_spec_sound.specs.Windows.{adjacent}
use Rattle.std.proofs.lemmas.List.Elements.{All-replicate}
use Rattle.hk_spec_sound.specs.Spectrum.{Complex, complexes, energy, energies, AreBelow}

-- with the parts of two numbers
abbrev pub paired : ℤ × ℤ → Complex
paired p = record { re = p.0; im = p.1 }

pub length-complexes : (re im : List ℤ) → length (complexes re im) ≡ min (length re) (length im)
unfolding complexes
length-complexes re im = length-map (zip re im) paired ∙ length-zip re im

pub get_or-complexes : (re im : List ℤ) (i : ℕ) (d : Complex) → i < length re → i < length im
    → get_or (complexes re im) i d ≡ record { re = get_or re i d.re; im = get_or im i d.im }
unfolding complexes
get_or-complexes re im i d in_re in_im =
    get_or-map paired (zip re im) i (d.re, d.im) d (omega (arith, length-zip re im)) ∙ ap paired (get_or-zip re im i (d.re, d.im) in_re in_im)

take-zip : {A B : Type 0} (n : ℕ) (xs : List A) (ys : List B) → take n (zip xs ys) ≡ zip (take n xs) (take n ys)
take-zip zero xs ys = refl
take-zip (suc n) [] ys = refl
take-zip (suc n) (x ∷ xs) [] = refl
take-zip (suc n) (x ∷ xs) (y ∷ ys) = ap (λ ps. (x, y) ∷ ps) (take-zip n xs ys)

zip-nil : {A B : Type 0} (xs : List A) → ◌≡◌ {A = List (A × B)} (zip xs []) []
zip-nil [] = refl
zip-nil (x ∷ xs) = refl

drop-zip : {A B : Type 0} (n : ℕ) (xs : List A) (ys : List B) → drop n (zip xs ys) ≡ zip (drop n xs) (drop n ys)
drop-zip zero xs ys = refl
drop-zip (suc n) [] ys = refl
drop-zip (suc n) (x ∷ xs) [] = sym (zip-nil (drop n xs))
drop-zip (suc n) (x ∷ xs) (y ∷ ys) = drop-zip n xs ys

pub take-complexes : (n : ℕ) (re im : List ℤ) → take n (complexes re im) ≡ complexes (take n re) (take n im)
unfolding complexes
take-complexes n re im = take-map paired n (zip re im) ∙ ap (map paired) (take-zip n re im)

pub drop-complexes : (n : ℕ) (re im : List ℤ) → drop n (complexes re im) ≡ complexes (drop n re) (drop n im)
unfolding complexes
drop-complexes n re im = drop-map paired n (zip re im) ∙ ap (map paired) (drop-zip n re im)

-- a band's bins
pub range-complexes : (re im : List ℤ) (low high : ℕ) → slice_range (complexes re im) low high ≡ complexes (slice_range re low high) (slice_range im low high)
range-complexes re im low high = ap (take (high - low)) (drop-complexes low re im) ∙ take-complexes (high - low) (drop low re) (drop low im)

-- one bin more
pub energy-more : (re im : List ℤ) (i : ℕ) (d : ℤ) → i < length re → i < length im
    → energy (take (i + 1) (complexes re im))
    ≡ energy (take i (complexes re im)) + (nat_abs (get_or re i d) * nat_abs (get_or re i d) + nat_abs (get_or im i d) * nat_abs (get_or im i d))
unfolding energy
energy-more re im i d in_re in_im =
    let z : Complex = paired (d, d) in
    let inside : i < length (complexes re im) = omega (arith, length-complexes re im) in
    sum_by_more (λ b. nat_abs b.re * nat_abs b.re + nat_abs b.im * nat_abs b.im) (complexes re im) i z inside
    ∙ ap (λ b. energy (take i (complexes re im)) + (nat_abs b.re * nat_abs b.re + nat_abs b.im * nat_abs b.im)) (get_or-complexes re im i z in_re in_im)

pub length-energies : (edges : List ℕ) (spectrum : List Complex) → length (energies edges spectrum) ≡ length edges - 1
unfolding energies
length-energies edges spectrum =
    length-map (adjacent edges) (λ e. energy (slice_range spectrum e.0 e.1)) ∙ length-zip edges (drop 1 edges) ∙ omega (arith, length-drop 1 edges)

-- the energy of one band
pub get_or-energies : (edges : List ℕ) (spectrum : List Complex) (m d : ℕ) → m + 1 < length edges
    → get_or (energies edges spectrum) m d ≡ energy (slice_range spectrum (get_or edges m 0) (get_or edges (m + 1) 0))
unfolding energies
get_or-energies edges spectrum m d inside =
    let band : ℕ × ℕ → ℕ = λ e. energy (slice_range spectrum e.0 e.1) in
    let next : m < length (drop 1 edges) = omega (arith, length-drop 1 edges) in
    let place : 1 + m ≡ m + 1 = omega arith in
    get_or-map band (adjacent edges) m (0, 0) d (omega (arith, length-zip edges (drop 1 edges)))
    ∙ ap band (get_or-zip edges (drop 1 edges) m (0, 0) (omega arith) next)
    ∙ ap (λ high. energy (slice_range spectrum (get_or edges m 0) high)) (get_or-drop 1 edges m 0 ∙ ap (λ k. get_or edges k 0) place)

-- silence is below each limit
pub zeros_are_below : (limit n : ℕ) → 0 < limit → AreBelow limit (replicate n (pos 0))
zeros_are_below limit n some = All-replicate (λ z. nat_abs z < limit) n (pos 0) some
