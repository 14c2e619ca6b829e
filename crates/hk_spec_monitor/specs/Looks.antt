-- The looks of a station: one for each block and each fence that its bytes complete, in the order of completion.
use Rattle.std.specs.Prelude.{⊤, ℕ, zero, suc, ◌≤◌, List, [], ◌∷◌, None, unwrap_or}
use Rattle.std.specs.List.{last_or}
use Rattle.hk_spec_streams.specs.Blocks.{Moment, Full, Asks}

-- the versions of the looks of blocks, where looks were made at the first of these moments
abbrev pub versions_of_blocks : List Moment → List ℕ → List ℕ
versions_of_blocks [] looks = []
versions_of_blocks (m ∷ ms) [] = []
versions_of_blocks (Full block ∷ ms) (v ∷ looks) = v ∷ versions_of_blocks ms looks
versions_of_blocks (Asks asked ∷ ms) (v ∷ looks) = versions_of_blocks ms looks

-- Each fence's look found at least the version that the fence asks for.
abbrev pub AreMet : List Moment → List ℕ → Type 0
AreMet [] looks = ⊤
AreMet (m ∷ ms) [] = ⊤
AreMet (Full block ∷ ms) (v ∷ looks) = AreMet ms looks
AreMet (Asks asked ∷ ms) (v ∷ looks) = (asked ≤ v) × AreMet ms looks

-- the version of the last look, and 0 where none was made
abbrev pub last_version : List ℕ → ℕ
last_version looks = unwrap_or (last_or None looks) 0

-- the moments up to block number n, from 0, with it
abbrev pub until_block : ℕ → List Moment → List Moment
until_block n [] = []
until_block n (Asks asked ∷ ms) = Asks asked ∷ until_block n ms
until_block zero (Full block ∷ ms) = Full block ∷ []
until_block (suc n) (Full block ∷ ms) = Full block ∷ until_block n ms
