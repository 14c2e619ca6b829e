-- The ring of prints, as contracts see it.
use Rattle.std.specs.Prelude.{◌≡◌, ℕ, ◌-◌, ◌*◌, ◌%◌, ◌==◌, Bool, ◌&&◌, nat_le, if◌then◌else◌, List, [], ◌∷◌, ◌++◌, length, drop, IsTrue}
use Rattle.hk_base.specs.declared.plain.Print.{Print}
use Rattle.hk_spec_sound.specs.Windows.{windows}
use Rattle.hk_spec_streams.specs.Blocks.{BlockRule, Setting, Block, query_for, block_at}
use Rattle.hk_spec_matching.specs.Matching.{Query}

-- how many prints a block has
abbrev pub BLOCK_SIZE : ℕ
BLOCK_SIZE = 256

-- how many prints may come in one segment
abbrev pub MOST_PRINTS : ℕ
MOST_PRINTS = 4000000000000000000

-- the last prints of the present segment, how many came in it, and how prints are cut into blocks
pub record Ring : Type 0 where
  pub last : List Print
  pub count : ℕ
  pub block : BlockRule

-- what is looked up for the last prints
abbrev pub query_of : Ring → Query
query_of ring = query_for ring.block ring.last

-- The ring has taken these prints: it has their number, and the last 256 of them. It need not store them for that.
pub record HasLastPrints (ring : Ring) (prints : List Print) : Type 0 where
  pub count : ring.count ≡ length prints
  pub last : ring.last ≡ drop (length prints - BLOCK_SIZE) prints

abbrev pub is_full : Ring → Bool
is_full ring = nat_le BLOCK_SIZE ring.count

-- where the block begins that ends with the last print
abbrev pub first_word : Ring → ℕ
first_word ring = ring.count - BLOCK_SIZE

-- the block of segment n that ends with the last print
abbrev pub block_in : ℕ → Ring → Block
block_in n ring = block_at ring.block n (first_word ring) ring.last

-- The ring cuts prints into blocks as this setting says.
pub record IsFor (s : Setting) (ring : Ring) : Type 0 where
  pub size : s.block.size ≡ BLOCK_SIZE
  pub rule : s.block ≡ ring.block

-- the last print completes a block
abbrev pub completes_block : Ring → Bool
completes_block ring = is_full ring && (first_word ring % ring.block.hop == 0)

-- one print more, whatever prints were taken before, and blocks cut as before
abbrev pub Takes : Ring → Print → Ring → Type 0
Takes old print new = (new.block ≡ old.block) × ((prints : List Print) → HasLastPrints old prints → HasLastPrints new (prints ++ print ∷ []))

-- the blocks of a segment's prints
abbrev pub blocks_of : Ring → List Print → List (List Print)
blocks_of ring prints = windows BLOCK_SIZE ring.block.hop prints

-- A print adds to the blocks of the segment the ring's prints where it completes a block, and else nothing.
abbrev pub AddsBlock : Ring → Print → Ring → Type 0
AddsBlock old print new = (prints : List Print) → HasLastPrints old prints
    → blocks_of new (prints ++ print ∷ []) ≡ blocks_of old prints ++ (if completes_block new then new.last ∷ [] else [])

-- A block that a print completes begins as many hops from the first print as there were blocks before it.
abbrev pub PlacesBlock : Ring → Print → Ring → Type 0
PlacesBlock old print new = (prints : List Print) → HasLastPrints old prints → IsTrue (completes_block new)
    → first_word new ≡ new.block.hop * length (blocks_of old prints)
