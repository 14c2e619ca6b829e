-- A byte more makes the group whole, or not yet.
use Rattle.std.proofs.Common.{◌≡◌, ℕ, zero, suc, ◌+◌, ◌-◌, ◌*◌, ◌/◌, ◌<◌, List, [], ◌∷◌, ◌++◌, length, map, drop, ap, sym, ◌∙◌, arith, ℤ, pos, negsuc, ◌+ℤ◌, take, get_or, append_assoc, append-nil}
use Rattle.std.proofs.lemmas.List.{map_push, length-append, length-take-le, drop_all, take_all, take_more}
use Rattle.std.proofs.lemmas.Int.{ints}
use Rattle.hk_spec_sound.specs.Numbers.{floor_div}
use Rattle.hk_spec_sound.specs.Windows.{windows, begun}
use Rattle.hk_spec_sound.specs.Samples.{samples_of, mono_of, sample_of}
use Rattle.hk_spec_sound.proofs.BegunWindows.{windows-whole, windows-begun}

-- the group is whole: one sample more, and nothing has begun
pub taken_whole : (channels : ℕ) (bytes group : List ℕ) (byte : ℕ) → 0 < channels → group ≡ begun (2 * channels) (2 * channels) bytes
    → length group + 1 ≡ 2 * channels
    → (samples_of channels (bytes ++ byte ∷ []) ≡ samples_of channels bytes ++ mono_of channels (group ++ byte ∷ []) ∷ [])
    × ([] ≡ begun (2 * channels) (2 * channels) (bytes ++ byte ∷ []))
unfolding samples_of
taken_whole channels bytes group byte some is whole =
    let size = 2 * channels in
    let law = windows-whole size size bytes byte (omega arith) (omega arith) (omega (arith, ap length is, whole)) in (
      ap (map (mono_of channels)) (law.0 ∙ ap (λ g. windows size size bytes ++ (g ++ byte ∷ []) ∷ []) (sym is))
          ∙ map_push (mono_of channels) (windows size size bytes) (group ++ byte ∷ []),
      sym (law.1 ∙ ap (λ g. drop size (g ++ byte ∷ [])) (sym is) ∙ drop_all size (group ++ byte ∷ []) (omega (arith, length-append group (byte ∷ []), whole))),
    )

-- it is not whole: no sample, and the byte belongs to it
pub taken_part : (channels : ℕ) (bytes group : List ℕ) (byte : ℕ) → 0 < channels → group ≡ begun (2 * channels) (2 * channels) bytes
    → length group + 1 < 2 * channels
    → (samples_of channels (bytes ++ byte ∷ []) ≡ samples_of channels bytes)
    × (group ++ byte ∷ [] ≡ begun (2 * channels) (2 * channels) (bytes ++ byte ∷ []))
unfolding samples_of
taken_part channels bytes group byte some is part =
    let size = 2 * channels in
    let law = windows-begun size size bytes byte (omega arith) (omega arith) (omega (arith, ap length is, part)) in
    (ap (map (mono_of channels)) law.0, sym (law.1 ∙ ap (λ g. g ++ byte ∷ []) (sym is)))

-- one byte more of a group
one_more : (bytes group : List ℕ) (k : ℕ) → k < length group → bytes ++ take (k + 1) group ≡ (bytes ++ take k group) ++ get_or group k 0 ∷ []
one_more bytes group k inside =
    ap (λ front. bytes ++ front) (take_more group k 0 inside) ∙ sym (append_assoc bytes (take k group) (get_or group k 0 ∷ []))

-- a group begins where none had begun
pub group_begins : (channels : ℕ) (bytes group : List ℕ) (k : ℕ) → 0 < channels → [] ≡ begun (2 * channels) (2 * channels) bytes
    → length group ≡ 2 * channels → k < 2 * channels
    → (samples_of channels (bytes ++ take k group) ≡ samples_of channels bytes)
    × (take k group ≡ begun (2 * channels) (2 * channels) (bytes ++ take k group))
group_begins channels bytes group zero some none whole inside =
    (ap (samples_of channels) (append-nil bytes), none ∙ sym (ap (begun (2 * channels) (2 * channels)) (append-nil bytes)))
group_begins channels bytes group (suc k) some none whole inside =
    let size = 2 * channels in
    let before = group_begins channels bytes group k some none whole (omega (arith, inside)) in
    let within : k < length group = omega (arith, inside, whole) in
    let front : length (take k group) ≡ k = length-take-le k group (omega (arith, within)) in
    let next : suc k ≡ k + 1 = omega arith in
    let longer : bytes ++ take (suc k) group ≡ (bytes ++ take k group) ++ get_or group k 0 ∷ [] =
    ap (λ n. bytes ++ take n group) next ∙ one_more bytes group k within in
    let law = taken_part channels (bytes ++ take k group) (take k group) (get_or group k 0) some before.1 (omega (arith, front, inside)) in (
      ap (samples_of channels) longer ∙ law.0 ∙ before.0,
      ap (λ n. take n group) next ∙ take_more group k 0 within ∙ law.1 ∙ sym (ap (begun size size) longer),
    )

-- and is whole: one sample more, and nothing has begun
pub group_is_whole : (channels : ℕ) (bytes group : List ℕ) → 0 < channels → [] ≡ begun (2 * channels) (2 * channels) bytes
    → length group ≡ 2 * channels
    → (samples_of channels (bytes ++ group) ≡ samples_of channels bytes ++ mono_of channels group ∷ [])
    × ([] ≡ begun (2 * channels) (2 * channels) (bytes ++ group))
group_is_whole channels bytes group some none whole =
    let size = 2 * channels in
    let k = size - 1 in
    let within : k < length group = omega (arith, some, whole) in
    let last : k + 1 ≡ length group = omega (arith, some, whole) in
    let front : length (take k group) ≡ k = length-take-le k group (omega (arith, within)) in
    let before = group_begins channels bytes group k some none whole (omega (arith, some)) in
    let all : group ≡ take k group ++ get_or group k 0 ∷ [] =
    sym (take_all (k + 1) group (omega (arith, last))) ∙ take_more group k 0 within in
    let longer : bytes ++ group ≡ (bytes ++ take k group) ++ get_or group k 0 ∷ [] =
    ap (λ g. bytes ++ g) all ∙ sym (append_assoc bytes (take k group) (get_or group k 0 ∷ [])) in
    let law = taken_whole channels (bytes ++ take k group) (take k group) (get_or group k 0) some before.1 (omega (arith, front, some)) in (
      ap (samples_of channels) longer ∙ law.0
          ∙ ap (λ xs. xs ++ mono_of channels (take k group ++ get_or group k 0 ∷ []) ∷ []) before.0
          ∙ ap (λ g. samples_of channels bytes ++ mono_of channels g ∷ []) (sym all),
      law.1 ∙ sym (ap (begun size size) longer),
    )

floor_div-one : (z : ℤ) → floor_div z 1 ≡ z
floor_div-one (pos n) = let same : n / 1 ≡ n = omega arith in ap pos same
floor_div-one (negsuc n) = let same : n / 1 ≡ n = omega arith in ap negsuc same

-- the mean of one sample
pub mono_of-one : (group : List ℕ) → length group ≡ 2 → mono_of 1 group ≡ sample_of group
unfolding mono_of windows
mono_of-one [] other = absurd (omega (arith, other))
mono_of-one (a ∷ []) other = absurd (omega (arith, other))
mono_of-one (a ∷ b ∷ []) two =
    let alone : sample_of (a ∷ b ∷ []) +ℤ pos 0 ≡ sample_of (a ∷ b ∷ []) = omega (arith, ints) in
    ap (λ z. floor_div z 1) alone ∙ floor_div-one (sample_of (a ∷ b ∷ []))
mono_of-one (a ∷ b ∷ c ∷ rest) other = absurd (omega (arith, other))

-- the mean of two
pub mono_of-two : (group : List ℕ) → length group ≡ 4 → mono_of 2 group ≡ floor_div (sample_of (take 2 group) +ℤ sample_of (drop 2 group)) 2
unfolding mono_of windows
mono_of-two [] other = absurd (omega (arith, other))
mono_of-two (a ∷ []) other = absurd (omega (arith, other))
mono_of-two (a ∷ b ∷ []) other = absurd (omega (arith, other))
mono_of-two (a ∷ b ∷ c ∷ []) other = absurd (omega (arith, other))
mono_of-two (a ∷ b ∷ c ∷ d ∷ []) four =
    let left = sample_of (a ∷ b ∷ []) in
    let right = sample_of (c ∷ d ∷ []) in
    let alone : right +ℤ pos 0 ≡ right = omega (arith, ints) in
    ap (λ z. floor_div (left +ℤ z) 2) alone
mono_of-two (a ∷ b ∷ c ∷ d ∷ e ∷ rest) other = absurd (omega (arith, other))
