-- A walk through the nodes of a bucket.
use Rattle.std.specs.Prelude.{◌≡◌, ℕ, ◌==◌, ◌⊎◌, List, [], ◌∷◌, length, map, filter, slice_index_or, if◌then◌else◌}
use Rattle.hk_nodes.specs.Chains.{END}
use Rattle.hk_nodes.specs.Store as nodes
use Rattle.hk_nodes.specs.Store.{IsLive, IsOrderly, chain_at}
use Rattle.hk_table.specs.Index.{Course}
use Rattle.hk_table.specs.declared.place.Place.{Place}
use Rattle.hk_table.specs.declared.walk.Walk.TheInside.{Inside}

abbrev pub node_word : nodes.Store → ℕ → ℕ
node_word m node = slice_index_or m.words node 0

abbrev pub place_of : nodes.Store → ℕ → Place
place_of m node = record { slot = slice_index_or m.slots node 0; pos = slice_index_or m.positions node 0 }

-- the walk for a word through these nodes
abbrev pub course : nodes.Store → ℕ → List ℕ → Course
course m word chain = record { places = map (place_of m) (filter (λ x. node_word m x == word) chain); nodes = length chain }

-- the list from a node on
abbrev pub from_on : ℕ → List ℕ → List ℕ
from_on x [] = []
from_on x (y ∷ ys) = if x == y then y ∷ ys else from_on x ys

-- the nodes of a bucket from one on
abbrev pub rest_at : nodes.Store → ℕ → List ℕ
rest_at m at = from_on at (chain_at m (slice_index_or m.bucket_of at END))

abbrev pub as_course : Inside → Course
as_course w = course w.nodes.now w.word (rest_at w.nodes.now w.at)

pub record IsWalk (w : Inside) : Type 0 where
  pub orderly : IsOrderly w.nodes.now
  pub at : (w.at ≡ END) ⊎ IsLive w.nodes.now w.at
