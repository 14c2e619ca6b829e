-- What a station plays in a round, print by print.
use Rattle.std.proofs.Common.{◌≡◌, ℕ, ◌+◌, ◌*◌, ◌%◌, List, drop, length, flat_map, refl}
use Rattle.std.specs.List.{range_with_len, slice_index}
use Rattle.hk_spec_made.specs.Input.{played, print_bytes, drawn_song, words_before, played_bytes}
use Rattle.hk_made.specs.Packets.{prints_text}
use Rattle.hk_made.proofs.Lengths.{length-prints}

abbrev pub print_text : ℕ → List ℕ → ℕ → List ℕ → ℕ → List ℕ
print_text flips song from draws i = print_bytes (played flips (slice_index song (from + i)) (slice_index draws i % 32))

pub prints_text-all : (flips : ℕ) (song : List ℕ) (from : ℕ) (draws : List ℕ)
    → prints_text flips song from draws ≡ flat_map (print_text flips song from draws) (range_with_len 0 600)
unfolding prints_text
prints_text-all flips song from draws = refl

pub length-prints_text : (flips : ℕ) (song : List ℕ) (from : ℕ) (draws : List ℕ) → length (prints_text flips song from draws) ≡ 4800
unfolding prints_text
length-prints_text flips song from draws = length-prints (λ i. played flips (slice_index song (from + i)) (slice_index draws i % 32)) (range_with_len 0 600)

pub played_bytes-text : (flips : ℕ) (highs : List ℕ) (n r s : ℕ)
    → prints_text flips (drawn_song highs ((s + r) % 8)) (40 * r) (drop (2 * words_before 8 + (r * n + s) * 600) highs) ≡ played_bytes flips highs n r s
unfolding prints_text played_bytes
played_bytes-text flips highs n r s = refl
