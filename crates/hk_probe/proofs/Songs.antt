-- The matches in the songs, one song after another.
use Rattle.std.proofs.Common.{◌≡◌, ℕ, ◌+◌, ◌<◌, ◌≤◌, [], ◌∷◌, ◌++◌, length, take, get_or, refl, ◌∙◌, ap}
use Rattle.std.proofs.lemmas.List.{take_more, append-nil}
use Rattle.std.proofs.lemmas.List.Sums.{sum_by_more, sum_by-take-le}
use Rattle.std.proofs.lemmas.Grind.{flat_map-append}
use Rattle.hk_spec_matching.specs.Catalogue.{Song, Songs, positions_of}
use Rattle.hk_spec_matching.specs.Matching.{Query, matches, matches_of_song}

-- no song has no match
pub matches_none : (query : Query) → matches query [] ≡ []
unfolding matches
matches_none query = refl

-- the matches in one song more
pub matches_more : (query : Query) (songs : Songs) (i : ℕ) (d : ℕ × Song) → i < length songs
    → matches query (take (i + 1) songs) ≡ matches query (take i songs) ++ matches_of_song query (get_or songs i d)
unfolding matches
matches_more query songs i d low =
    ap (matches query) (take_more songs i d low)
    ∙ flat_map-append (matches_of_song query) (take i songs) (get_or songs i d ∷ [])
    ∙ ap (λ xs. matches query (take i songs) ++ xs) (append-nil (matches_of_song query (get_or songs i d)))

-- the words of one song more
pub positions_more : (songs : Songs) (i : ℕ) (d : ℕ × Song) → i < length songs
    → positions_of (take (i + 1) songs) ≡ positions_of (take i songs) + length (get_or songs i d).1.words
positions_more songs i d low = sum_by_more (λ (e : ℕ × Song). length e.1.words) songs i d low

pub positions_within : (songs : Songs) (i : ℕ) → positions_of (take i songs) ≤ positions_of songs
positions_within songs i = sum_by-take-le (λ (e : ℕ × Song). length e.1.words) songs i
