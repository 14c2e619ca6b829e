-- How many words stand before a song.
use Rattle.std.proofs.Common.{◌≡◌, ℕ, ◌+◌, ◌<◌, ◌-◌, ◌≤◌, Bool, true, nat_le, List, take, drop, refl, ap, ◌∙◌, arith}
use Rattle.std.specs.List.{range_with_len, list_all}
use Rattle.std.proofs.lemmas.Bool.{leb-true}
use Rattle.std.proofs.lemmas.List.{drop-take, take-take}
use Rattle.hk_spec_made.specs.Input.{song_length, words_before}
use Rattle.hk_made.proofs.Ranges.{sum_by-more, each_below}

pub words_before-more : (i : ℕ) → words_before (i + 1) ≡ words_before i + song_length i
words_before-more i = sum_by-more song_length i

abbrev pub fits : ℕ → Bool
fits i = nat_le (words_before i + song_length i) 10800

all_fit : list_all fits (range_with_len 0 8) ≡ true
all_fit = refl

-- a song's words are among the words of all songs
pub words_before-fits : (i : ℕ) → i < 8 → words_before i + song_length i ≤ 10800
words_before-fits i inside = leb-true (words_before i + song_length i) 10800 (each_below fits 8 i all_fit inside)

part_of_first : (xs : List ℕ) (n m k : ℕ) → n + m ≤ k → take m (drop n (take k xs)) ≡ take m (drop n xs)
part_of_first xs n m k inside =
    let rest : k ≡ n + (k - n) = omega (arith, inside) in
    ap (λ j. take m (drop n (take j xs))) rest ∙ ap (take m) (drop-take n (k - n) xs) ∙ take-take m (k - n) (drop n xs) (omega (arith, inside))

-- a song is read from the words of all songs alone
pub song-first : (words : List ℕ) (i : ℕ) → i < 8 → take (song_length i) (drop (words_before i) (take 10800 words)) ≡ take (song_length i) (drop (words_before i) words)
song-first words i inside = part_of_first words (words_before i) (song_length i) 10800 (words_before-fits i inside)
