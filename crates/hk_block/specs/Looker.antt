-- What looks mean.
use Rattle.std.specs.Prelude.{◌≡◌, ℕ, ◌*◌, List, [], ◌∷◌, ◌++◌, Bool, IsTrue, Option, Some, option_map}
use Rattle.hk_base.specs.declared.plain.Match.{Match}
use Rattle.hk_spec_matching.specs.Catalogue.{Songs, Edit, Limits, Rise}
use Rattle.hk_spec_matching.specs.Matching.{matches}
use Rattle.hk_spec_matching.specs.Cost.{cost}
use Rattle.hk_block.specs.Ring.{Ring, query_of}

-- an entry of a published list: an edit, or the end of a batch
pub data Entry : Type 0 where
  Change : Edit → Entry
  Seal : Entry

-- what tells one start of a shared catalogue from every other
abbrev pub Home : Type 0
Home = List ℕ

-- What a looker is as a shelf: the songs with the staged edits, those edits, the limits, the published version with its songs,
-- the published list where it is told, and from which start it comes, where it comes from one.
pub record ShelfView : Type 0 where
  pub present : Songs
  pub staged : List Edit
  pub limits : Limits
  pub base : ℕ × Songs
  pub journal : Option (List Entry)
  pub home : Option Home

-- versions and their songs
abbrev pub Past : Type 0
Past = ℕ → Option Songs

-- What a looker is: the version that it saw last, the songs of each version that it knows, those at its version, how many
-- matches a look may have, the versions of its looks, where it tells them, what it is as a shelf, where it is one, whether its
-- version stays, and from which start it comes, where it comes from one.
pub record LookerView : Type 0 where
  pub at : ℕ
  pub past : Past
  pub songs : Songs
  pub room : ℕ
  pub shown : Option (List ℕ)
  pub shelf : Option ShelfView
  pub still : Bool
  pub home : Option Home

-- each version that was known is known, with the same songs
abbrev pub KeepsPast : Past → Past → Type 0
KeepsPast old new = (v : ℕ) (songs : Songs) → old v ≡ Some songs → new v ≡ Some songs

-- the songs at its version are those that it knows of that version
abbrev pub IsKnown : LookerView → Type 0
IsKnown view = view.past view.at ≡ Some view.songs

-- a look makes them known, and without one they stay so
abbrev pub KnownBy : List ℕ → LookerView → LookerView → Type 0
KnownBy [] old new = IsKnown old → IsKnown new
KnownBy (v ∷ rest) old new = IsKnown new

-- the version, its songs and the shelf stay
pub record SameCatalogue (old new : LookerView) : Type 0 where
  pub at : new.at ≡ old.at
  pub songs : new.songs ≡ old.songs
  pub shelf : new.shelf ≡ old.shelf

-- Looks that answered these versions, one after another, and what they kept.
pub record Looks (answers : List ℕ) (old new : LookerView) : Type 0 where
  pub rise : Rise old.at answers new.at
  pub past : KeepsPast old.past new.past
  pub known : KnownBy answers old new
  pub shown : new.shown ≡ option_map (λ versions. versions ++ answers) old.shown
  pub room : new.room ≡ old.room
  pub home : new.home ≡ old.home
  pub still : new.still ≡ old.still
  pub stays : IsTrue old.still → SameCatalogue old new

-- the matches of the ring's prints in songs
abbrev pub matches_in : Ring → Songs → List Match
matches_in ring songs = matches (query_of ring) songs

-- The most steps of a look: for each node in the buckets that the block's words meet one, and one for each word of a window.
abbrev pub most_steps : Ring → LookerView → ℕ
most_steps ring view = 257 * cost view.room (query_of ring) view.songs
