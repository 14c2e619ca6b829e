-- The buckets by which a table finds words.
use Rattle.std.specs.Prelude.{ℕ, ◌+◌, ◌-◌, ◌*◌, ◌/◌, ◌%◌, ◌^◌, nat_lt}
use Rattle.std.specs.List.{range_with_len, prefix_len}

-- the least number from 8 to 20 whose power of 2 is at least the positions, and 20 where there is none
unfoldable pub bucket_bits : ℕ → ℕ
bucket_bits positions = 8 + prefix_len (λ b. nat_lt (2 ^ b) positions) (range_with_len 8 12)

-- the upper bits of the 32-bit number word * 2654435761
unfoldable pub bucket_of : ℕ → ℕ → ℕ
bucket_of positions word = (word * 2654435761 % 2 ^ 32) / 2 ^ (32 - bucket_bits positions)
