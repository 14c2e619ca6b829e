-- What a station plays in a round.
use Rattle.std.specs.Prelude.{ℕ, ◌+◌, ◌%◌, List, flat_map, slice_index}
use Rattle.std.specs.List.{range_with_len}
use Rattle.hk_spec_made.specs.Input.{played, print_bytes}

-- 600 prints of a song from a place on, each with its draw
unfoldable pub prints_text : ℕ → List ℕ → ℕ → List ℕ → List ℕ
prints_text flips song from draws =
    flat_map (λ i. print_bytes (played flips (slice_index song (from + i)) (slice_index draws i % 32))) (range_with_len 0 600)
