-- A command's payload with one more byte: its id, and its words.
use Rattle.std.proofs.Common.{◌≡◌, ℕ, ◌+◌, ◌-◌, ◌*◌, ◌/◌, ◌%◌, ◌<◌, ◌≤◌, List, [], ◌∷◌, ◌++◌, length, take, drop, map, refl, sym, ◌∙◌, ap, arith, length-append}
use Rattle.std.specs.Prelude.{slice_index}
use Rattle.std.specs.Int.{w32, from_be_bytes}
use Rattle.std.proofs.lemmas.List.{drop-append-le, take-append-le, drop-drop, drop_all, length-drop, map-append, get_or_append_left}
use Rattle.std.proofs.lemmas.Nat.{div-add-mod'}
use Rattle.std.proofs.Common.{mod-lt}
use Rattle.hk_spec_sound.specs.Windows.{windows}
use Rattle.hk_spec_sound.specs.Groups.{rest_of}
use Rattle.hk_spec_sound.proofs.GrowingGroups.{length-rest_of, groups-append_whole, groups-append_part}
use Rattle.hk_spec_streams.specs.Operator.{words_of}
use Rattle.hk_operator_wire.specs.Items.{last_number}
use Rattle.hk_operator_wire.proofs.Reading.{first_four}

no_windows : ◌≡◌ {A = List (List ℕ)} (windows {A = ℕ} 4 4 []) []
unfolding windows
no_windows = refl

-- there are no words before the fifth payload byte
pub no_words : (bytes : List ℕ) → length bytes ≤ 9 → words_of (drop 9 bytes) ≡ []
no_words bytes few = ap words_of (drop_all 9 bytes few) ∙ ap (map (from_be_bytes w32)) no_windows

module _ (bytes : List ℕ) (b : ℕ) where
  behind : 9 ≤ length bytes → drop 9 (bytes ++ b ∷ []) ≡ drop 9 bytes ++ b ∷ []
  behind there = drop-append-le 9 bytes (b ∷ []) there

  -- the byte ends a word, which is the last four bytes
  pub one_word : 9 ≤ length bytes → (length (bytes ++ b ∷ []) - 5) % 4 ≡ 0
      → words_of (drop 9 (bytes ++ b ∷ [])) ≡ words_of (drop 9 bytes) ++ last_number (bytes ++ b ∷ []) ∷ []
  one_word there whole =
      let xs : List ℕ = drop 9 bytes in
      let q : ℕ = length (drop 9 bytes) / 4 in
      let size : length (drop 9 bytes) ≡ length bytes - 9 = length-drop 9 bytes in
      let more : length (bytes ++ b ∷ []) ≡ length bytes + 1 = length-append bytes (b ∷ []) in
      let split : length (drop 9 bytes) / 4 * 4 + length (drop 9 bytes) % 4 ≡ length (drop 9 bytes) = div-add-mod' (length (drop 9 bytes)) 4 in
      let short : length (drop 9 bytes) % 4 < 4 = mod-lt (length (drop 9 bytes)) (omega arith) in
      let rest : length (rest_of 4 xs) ≡ length (drop 9 bytes) % 4 = length-rest_of 4 xs in
      let full : length (rest_of 4 xs) + 1 ≡ 4 = omega (arith, rest, size, more, split, short, whole) in
      let grown = groups-append_whole 4 xs b (omega arith) full in
      let inside : length (drop 9 bytes) / 4 * 4 ≤ length (drop 9 bytes) = omega (arith, split) in
      let place : 9 + length (drop 9 bytes) / 4 * 4 ≡ length (bytes ++ b ∷ []) - 4 = omega (arith, size, more, split, rest, full, there) in
      let last : rest_of 4 xs ++ b ∷ [] ≡ drop (length (bytes ++ b ∷ []) - 4) (bytes ++ b ∷ []) =
      sym (drop-append-le (q * 4) xs (b ∷ []) inside) ∙ ap (drop (q * 4)) (sym (behind there)) ∙ drop-drop (q * 4) 9 (bytes ++ b ∷ []) ∙ ap (λ n. drop n (bytes ++ b ∷ [])) place in
      ap words_of (behind there) ∙ ap (map (from_be_bytes w32)) grown.0
      ∙ map-append (from_be_bytes w32) (windows 4 4 xs) ((rest_of 4 xs ++ b ∷ []) ∷ [])
      ∙ ap (λ g. words_of xs ++ from_be_bytes w32 g ∷ []) last

  -- the byte is within a word
  pub same_words : 9 ≤ length bytes → ((length (bytes ++ b ∷ []) - 5) % 4 ≡ 0 → ⊥) → words_of (drop 9 (bytes ++ b ∷ [])) ≡ words_of (drop 9 bytes)
  same_words there part =
      let xs : List ℕ = drop 9 bytes in
      let size : length (drop 9 bytes) ≡ length bytes - 9 = length-drop 9 bytes in
      let more : length (bytes ++ b ∷ []) ≡ length bytes + 1 = length-append bytes (b ∷ []) in
      let split : length (drop 9 bytes) / 4 * 4 + length (drop 9 bytes) % 4 ≡ length (drop 9 bytes) = div-add-mod' (length (drop 9 bytes)) 4 in
      let short : length (drop 9 bytes) % 4 < 4 = mod-lt (length (drop 9 bytes)) (omega arith) in
      let rest : length (rest_of 4 xs) ≡ length (drop 9 bytes) % 4 = length-rest_of 4 xs in
      let few : length (rest_of 4 xs) + 1 < 4 = omega (arith, rest, size, more, split, short, part, there) in
      ap words_of (behind there) ∙ ap (map (from_be_bytes w32)) (groups-append_part 4 xs b (omega arith) few).0

  pub same_id : 9 ≤ length bytes → take 4 (drop 5 (bytes ++ b ∷ [])) ≡ take 4 (drop 5 bytes)
  same_id there =
      let left : length (drop 5 bytes) ≡ length bytes - 5 = length-drop 5 bytes in
      ap (take 4) (drop-append-le 5 bytes (b ∷ []) (omega (arith, there))) ∙ take-append-le 4 (drop 5 bytes) (b ∷ []) (omega (arith, left, there))

  pub same_kind : 0 < length bytes → slice_index (bytes ++ b ∷ []) 0 ≡ slice_index bytes 0
  same_kind some = get_or_append_left bytes (b ∷ []) 0 0 some

  pub same_length : 5 ≤ length bytes → take 4 (drop 1 (bytes ++ b ∷ [])) ≡ take 4 (drop 1 bytes)
  same_length there =
      let left : length (drop 1 bytes) ≡ length bytes - 1 = length-drop 1 bytes in
      ap (take 4) (drop-append-le 1 bytes (b ∷ []) (omega (arith, there))) ∙ take-append-le 4 (drop 1 bytes) (b ∷ []) (omega (arith, left, there))

-- the id is the fourth payload byte and those before it
pub id_is : (bytes : List ℕ) → length bytes ≡ 9 → last_number bytes ≡ from_be_bytes w32 (take 4 (drop 5 bytes))
id_is bytes nine =
    let place : length bytes - 4 ≡ 5 = omega (arith, nine) in
    ap (λ n. from_be_bytes w32 (drop n bytes)) place ∙ first_four (drop 5 bytes)
