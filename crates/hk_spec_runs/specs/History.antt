-- One legal history: the publishes and the looks of all stations, each once.
use Rattle.std.specs.Prelude.{◌≡◌, ℕ, ◌==◌, if◌then◌else◌, List, [], ◌∷◌, ◌++◌, flat_map, zip}
use Rattle.std.specs.List.{enumerate_from}
use Rattle.hk_base.specs.declared.plain.Match.{Match}
use Rattle.hk_spec_streams.specs.Blocks.{Block}
use Rattle.hk_spec_matching.specs.Catalogue.{Edit, Journal, Limits, Songs, edited_by}
use Rattle.hk_spec_matching.specs.Matching.{matches}

-- what a line of a station's log says: the version and the list
pub record Reported : Type 0 where
  pub version : ℕ
  pub list : List Match

-- a look: the station, the block's number, the block, and what was reported
pub record Look : Type 0 where
  pub station : ℕ
  pub number : ℕ
  pub block : Block
  pub answer : List Match

pub data Event : Type 0 where
  Published : List Edit → Event
  Looked : Look → Event

-- a station's looks at a version, by block
abbrev pub looks_of : ℕ → ℕ → List Block → List Reported → List Event
looks_of v station blocks log =
    flat_map (λ p. if p.1.1.version == v then Looked (record { station = station; number = p.0; block = p.1.0; answer = p.1.1.list }) ∷ [] else [])
    (enumerate_from 0 (zip blocks log))

-- all looks at a version, by station and then by block
abbrev pub looks_at : ℕ → List (List Block × List Reported) → List Event
looks_at v stations = flat_map (λ p. looks_of v p.0 p.1.0 p.1.1) (enumerate_from 0 stations)

-- the looks at version 0, and then after each publish those at the version that it gave
unfoldable pub history : Journal → List (List Block × List Reported) → List Event
history journal stations =
    looks_at 0 stations ++ flat_map (λ p. Published p.1 ∷ looks_at p.0 stations) (enumerate_from 1 journal)

-- From these songs on, a machine of one thread may give these answers: a publish changes the songs, and a look lists exactly its matches in them.
abbrev pub IsLegalFrom : Limits → Songs → List Event → Type 0
IsLegalFrom limits songs [] = Unit {0}
IsLegalFrom limits songs (Published batch ∷ events) = IsLegalFrom limits (edited_by limits songs batch) events
IsLegalFrom limits songs (Looked look ∷ events) =
    (look.answer ≡ matches look.block.query songs) × IsLegalFrom limits songs events

abbrev pub IsLegal : Limits → List Event → Type 0
IsLegal limits events = IsLegalFrom limits [] events
