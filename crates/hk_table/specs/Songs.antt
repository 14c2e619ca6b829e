-- The songs' nodes of a table.
use Rattle.std.specs.Prelude.{◌≡◌, ℕ, suc, ◌+◌, ◌-◌, ◌*◌, ◌/◌, ◌%◌, ◌^◌, ◌<◌, ◌≤◌, ◌==◌, ◌⊎◌, List, [], ◌∷◌, length, map, count_by, slice_index_or, Option, Some, None, if◌then◌else◌, ⊤}
use Rattle.hk_spec_matching.specs.Buckets.{bucket_bits}
use Rattle.hk_nodes.specs.Chains.{END, Has}
use Rattle.hk_nodes.specs.Store as nodes
use Rattle.hk_nodes.specs.Store.{IsLive, IsHead, IsOrderly, chain_at, song_at}
use Rattle.hk_table.specs.Index.{Index, all_words}
use Rattle.hk_table.specs.Walks.{node_word}
use Rattle.hk_table.specs.declared.table.Table.TheInside.{Inside}

-- the words of a song's nodes
abbrev pub words_from : nodes.Store → ℕ → List ℕ
words_from m head = map (node_word m) (song_at m head)

-- what a slot has whose song begins at this node
abbrev pub slot_in : nodes.Store → ℕ → Option (List ℕ)
slot_in m head = if head == END then None else Some (words_from m head)

abbrev pub slots_in : nodes.Store → List ℕ → List (Option (List ℕ))
slots_in m heads = map (slot_in m) heads

abbrev pub as_index : Inside → Index
as_index t = record { slots = slots_in t.nodes t.heads.items; positions = length t.nodes.behind }

-- the upper bits of the 32-bit number word * 2654435761, but for so many lower ones
abbrev pub bucket_at : ℕ → ℕ → ℕ
bucket_at shift word = (word * 2654435761 % 2 ^ 32) / 2 ^ shift

-- the nodes have this slot, and positions that rise from this one
abbrev pub AreWritten : nodes.Store → ℕ → ℕ → List ℕ → Type 0
AreWritten m slot pos [] = ⊤
AreWritten m slot pos (x ∷ xs) =
    (slice_index_or m.slots x 0 ≡ slot) × (slice_index_or m.positions x 0 ≡ pos) × AreWritten m slot (suc pos) xs

-- no song, or one that begins at this node and has this slot
abbrev pub IsSlot : nodes.Store → ℕ → ℕ → Type 0
IsSlot m slot head = (head ≡ END) ⊎ (IsHead m head × AreWritten m slot 0 (song_at m head))

-- a node stands in the bucket of its word and in the song of its slot
pub record IsOwned (bucket : ℕ → ℕ) (m : nodes.Store) (heads : List ℕ) (x : ℕ) : Type 0 where
  pub bucketed : slice_index_or m.bucket_of x END ≡ bucket (node_word m x)
  pub slot : slice_index_or m.slots x 0 < length heads
  pub song : Has x (song_at m (slice_index_or heads (slice_index_or m.slots x 0) END))

-- The nodes hold the songs that begin at these heads, and each chain has as many as there are words in its bucket.
pub record HoldSongs (bucket : ℕ → ℕ) (m : nodes.Store) (heads : List ℕ) : Type 0 where
  pub orderly : IsOrderly m
  pub songs : (slot : ℕ) → slot < length heads → IsSlot m slot (slice_index_or heads slot END)
  pub owned : (x : ℕ) → IsLive m x → IsOwned bucket m heads x
  pub counts : (value : ℕ) → length (chain_at m value) ≡ count_by (λ w. bucket w == value) (all_words (slots_in m heads))
  pub all : m.spare + length (all_words (slots_in m heads)) ≡ length m.behind

pub record IsKept (t : Inside) : Type 0 where
  pub hold : HoldSongs (bucket_at t.shift) t.nodes t.heads.items
  pub shift : t.shift ≡ 32 - bucket_bits (length t.nodes.behind)
  pub buckets : length t.nodes.chains ≡ 2 ^ bucket_bits (length t.nodes.behind)
  pub few : length t.nodes.behind ≤ 2 ^ 24

-- a node that was live is as it was
pub record IsSame (old m : nodes.Store) (x : ℕ) : Type 0 where
  pub bucket_of : slice_index_or m.bucket_of x END ≡ slice_index_or old.bucket_of x END
  pub word : node_word m x ≡ node_word old x
  pub slot : slice_index_or m.slots x 0 ≡ slice_index_or old.slots x 0
  pub pos : slice_index_or m.positions x 0 ≡ slice_index_or old.positions x 0
  pub song : song_at m x ≡ song_at old x

-- The store has a song's nodes more, from this position on: they begin at `head` and have these words.
pub record IsLonger (bucket : ℕ → ℕ) (slot from : ℕ) (old m : nodes.Store) (words : List ℕ) (head : ℕ) : Type 0 where
  pub orderly : IsOrderly m
  pub begins : (head ≡ END) ⊎ IsHead m head
  pub fresh : IsLive old head → ⊥
  pub words_are : words_from m head ≡ words
  pub written : AreWritten m slot from (song_at m head)
  pub bucketed : (x : ℕ) → Has x (song_at m head) → slice_index_or m.bucket_of x END ≡ bucket (node_word m x)
  pub live : (x : ℕ) → IsLive m x → IsLive old x ⊎ Has x (song_at m head)
  pub stays : (x : ℕ) → IsLive old x → IsLive m x × IsSame old m x
  pub heads : (x : ℕ) → IsHead old x → IsHead m x
  pub chains : (value : ℕ) → length (chain_at m value) ≡ length (chain_at old value) + count_by (λ w. bucket w == value) words
  pub spare : m.spare + length words ≡ old.spare
  pub nodes : length m.behind ≡ length old.behind
  pub buckets : length m.chains ≡ length old.chains
