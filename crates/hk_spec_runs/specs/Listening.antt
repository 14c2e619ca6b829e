-- A station's stream, heard byte after byte: the lines that are written for it, and the looks that are made.
use Rattle.std.specs.Prelude.{◌≡◌, ⊤, ℕ, if◌then◌else◌, ◌+◌, ◌*◌, List, [], ◌∷◌, ◌++◌, map, flat_map, fold, length, sum_by, unwrap_or, Option, Some, None, is_some}
use Rattle.std.specs.List.{enumerate_from}
use Rattle.hk_spec_matching.specs.Catalogue.{Songs, Rise}
use Rattle.hk_spec_matching.specs.Cost.{cost}
use Rattle.hk_spec_streams.specs.Pieces.{completed}
use Rattle.hk_spec_streams.specs.Station.{station_met, station_seen, station_used, fences}
use Rattle.hk_spec_streams.specs.Blocks.{Block, blocks}
use Rattle.hk_spec_lines.specs.Lines.{printed_text}
use Rattle.hk_spec_settings.specs.Settings.{Rules}
use Rattle.hk_spec_runs.specs.Replay.{Listener, heard, new_blocks, report_in, end_of, lines_at}

-- a byte as it was heard: the version then, and that version's songs
pub record Instant : Type 0 where
  pub byte : ℕ
  pub version : ℕ
  pub songs : Songs

abbrev pub bytes_in : List Instant → List ℕ
bytes_in instants = map (λ i. i.byte) instants

-- a listener before its first byte
abbrev pub unheard : Listener
unheard = record { used = []; version = 0; end = None }

-- a fact where looks were made
abbrev pub IfLooked : List ℕ → Type 0 → Type 0
IfLooked [] P = ⊤
IfLooked (v ∷ looks) P = P

-- the songs of a version that is known
abbrev pub songs_in : (ℕ → Option Songs) → ℕ → Songs
songs_in past v = unwrap_or (past v) []

-- the report lines of a station's numbered blocks, at a version with these songs
abbrev pub lines_for : ℕ → ℕ → Songs → List (ℕ × Block) → List ℕ
lines_for station v songs numbered = flat_map printed_text (map (report_in station v songs) numbered)

-- the most steps of the looks of numbered blocks in these songs, with buckets for so many positions
abbrev pub steps_for : ℕ → Songs → List (ℕ × Block) → ℕ
steps_for positions songs numbered = sum_by (λ p. 257 * cost positions p.1.query songs) numbered

module _ (rules : Rules) where
  -- A listener's next byte, with the catalogue at version v; one that is over skips it.
  abbrev pub next : ℕ → Listener → ℕ → Listener
  next v l byte = if is_some l.end then l else heard rules v l byte

  -- the blocks that a listener's next byte completes, each with its number
  abbrev pub blocks_gained : ℕ → Listener → ℕ → List (ℕ × Block)
  blocks_gained v l byte = new_blocks rules l (next v l byte)

  -- their report lines, at a version with these songs
  abbrev pub lines_gained : ℕ → ℕ → Songs → Listener → ℕ → List ℕ
  lines_gained station v songs l byte = lines_for station v songs (blocks_gained v l byte)

  -- the version of a look for each block and each fence that the next byte completes
  abbrev pub looks_gained : ℕ → Listener → ℕ → List ℕ
  looks_gained v l byte =
      let used = l.used ++ byte ∷ [] in
      if is_some l.end then [] else if is_some (station_met rules.bytes used) then []
      else map (λ block. v) (completed (blocks rules.setting) used) ++ map (λ fence. v) (completed fences used)

  -- the most steps of the looks of these blocks
  abbrev pub steps_gained : ℕ → ℕ → Songs → Listener → ℕ → ℕ
  steps_gained positions v songs l byte = steps_for positions songs (blocks_gained v l byte)

  -- a listener after one instant
  abbrev pub after_one : Listener → Instant → Listener
  after_one l i = next i.version l i.byte

  -- a listener after these instants
  abbrev pub after : Listener → List Instant → Listener
  after l instants = fold after_one l instants

  -- the lines of all blocks that they complete
  abbrev pub lines_over : ℕ → Listener → List Instant → List ℕ
  lines_over station l [] = []
  lines_over station l (i ∷ rest) = lines_gained station i.version i.songs l i.byte ++ lines_over station (after_one l i) rest

  -- the version of each of these lines
  abbrev pub versions_over : Listener → List Instant → List ℕ
  versions_over l [] = []
  versions_over l (i ∷ rest) = map (λ block. i.version) (blocks_gained i.version l i.byte) ++ versions_over (after_one l i) rest

  -- the version of a look for each block and each fence that they complete
  abbrev pub looks_over : Listener → List Instant → List ℕ
  looks_over l [] = []
  looks_over l (i ∷ rest) = looks_gained i.version l i.byte ++ looks_over (after_one l i) rest

  -- the most steps of the looks of all blocks that they complete
  abbrev pub steps_over : ℕ → Listener → List Instant → ℕ
  steps_over positions l [] = 0
  steps_over positions l (i ∷ rest) = steps_gained positions i.version i.songs l i.byte + steps_over positions (after_one l i) rest

  -- The past tells the songs of each of these looks.
  abbrev pub AreKnown : Listener → List Instant → (ℕ → Option Songs) → Type 0
  AreKnown l [] past = ⊤
  AreKnown l (i ∷ rest) past = IfLooked (looks_gained i.version l i.byte) (past i.version ≡ Some i.songs) × AreKnown (after_one l i) rest past

  -- Each byte leaves the blocks before it, and further ones may follow.
  abbrev pub KeepsBlocks : Listener → List Instant → Type 0
  KeepsBlocks l [] = ⊤
  KeepsBlocks l (i ∷ rest) =
      ((more : List Block) × (blocks rules.setting (after_one l i).used ≡ blocks rules.setting l.used ++ more)) × KeepsBlocks (after_one l i) rest

  -- What is written for these instants, the versions of their looks, with the songs in the past, and the most steps of those.
  pub record Gives (station positions : ℕ) (l : Listener) (instants : List Instant) (text answers : List ℕ) (steps : ℕ) (past : ℕ → Option Songs) : Type 0 where
    pub lines : text ≡ lines_over station l instants
    pub looks : answers ≡ looks_over l instants
    pub costs : steps ≡ steps_over positions l instants
    pub known : AreKnown l instants past
    pub blocks_stay : KeepsBlocks l instants

  -- One line is written for this instant: that of the block that its byte completes. One look is made.
  pub record GivesOne (station positions : ℕ) (l : Listener) (i : Instant) (line : List ℕ) (steps : ℕ) : Type 0 where
    pub lines : line ≡ lines_gained station i.version i.songs l i.byte
    pub costs : steps ≡ steps_gained positions i.version i.songs l i.byte
    pub looks : looks_gained i.version l i.byte ≡ i.version ∷ []
    pub block : Block
    pub blocks_are : blocks rules.setting (l.used ++ i.byte ∷ []) ≡ blocks rules.setting l.used ++ block ∷ []
    pub report : line ≡ printed_text (report_in station i.version i.songs (length (blocks rules.setting l.used), block))

  -- The text is the log of the blocks of the bytes that a listener used, with one version for each.
  pub record IsLogOf (station : ℕ) (l : Listener) (vs : List ℕ) (past : ℕ → Option Songs) (text : List ℕ) : Type 0 where
    pub one_each : length vs ≡ length (blocks rules.setting l.used)
    pub log : text ≡ lines_at station (songs_in past) (enumerate_from 0 (blocks rules.setting l.used)) vs

  -- What a station wrote since its start is the log of the blocks of the bytes that it used.
  abbrev pub WritesLog : Type 0
  WritesLog = (station positions : ℕ) (instants : List Instant) (text answers : List ℕ) (steps : ℕ) (past : ℕ → Option Songs)
      → Gives station positions unheard instants text answers steps past
      → IsLogOf station (after unheard instants) (versions_over unheard instants) past text

  -- Where one line more was to be written, that would have made the log of one block more.
  abbrev pub TornLog : Type 0
  TornLog = (station positions : ℕ) (l : Listener) (vs : List ℕ) (past : ℕ → Option Songs) (text : List ℕ) (i : Instant) (line : List ℕ) (steps : ℕ)
      → IsLogOf station l vs past text → GivesOne station positions l i line steps → past i.version ≡ Some i.songs
      → IsLogOf station (record l { used = l.used ++ i.byte ∷ [] }) (vs ++ i.version ∷ []) past (text ++ line)

  -- What a listener used of the bytes that it was given, with its end; one that goes on has used all that is seen of them.
  pub record UsesOf (l : Listener) (bytes : List ℕ) : Type 0 where
    pub used : l.used ≡ station_used rules.bytes (end_of rules l) bytes
    pub going : l.end ≡ None → l.used ≡ station_seen rules.bytes bytes

  -- That is so since the start, where the versions of its looks don't fall.
  abbrev pub UsesBytes : Type 0
  UsesBytes = (instants : List Instant) (to : ℕ) → Rise 0 (looks_over unheard instants) to → UsesOf (after unheard instants) (bytes_in instants)
