-- What a look through the table costs.
use Rattle.std.specs.Prelude.{ℕ, ◌+◌, ◌==◌, bit_xor, List, map, filter, flat_map, count_by, sum_by}
use Rattle.std.specs.List.{range_with_len}
use Rattle.hk_base.specs.declared.plain.Print.{Print}
use Rattle.hk_spec_matching.specs.Catalogue.{Songs}
use Rattle.hk_spec_matching.specs.Matching.{Query, Flips, flips_of, may_flip}
use Rattle.hk_spec_matching.specs.Buckets.{bucket_of}

-- the bits that may be flipped together, as rising numbers
unfoldable pub subsets : Flips → List ℕ
subsets flips = filter (may_flip flips) (range_with_len 0 (flips.mask + 1))

-- the words that are looked up for one of a query's prints: its word with each subset of its flips flipped
abbrev pub looked_up : Query → Print → List ℕ
looked_up query print = map (λ s. bit_xor print.word s) (subsets (flips_of query print))

-- each word of each song
abbrev pub all_words : Songs → List ℕ
all_words songs = flat_map (λ entry. entry.1.words) songs

-- In a table for this many words: for each print of the query and each word that is looked up for it, how many of the songs'
-- words have the same bucket, all added up.
unfoldable pub cost : ℕ → Query → Songs → ℕ
cost positions query songs =
    sum_by (λ w. count_by (λ x. bucket_of positions x == bucket_of positions w) (all_words songs)) (flat_map (looked_up query) query.prints)
