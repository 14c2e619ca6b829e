-- A front of a stream has a front of its blocks.
use Rattle.std.specs.Prelude.{ℕ, List, take}
use mathlib.Core.List.{IsPrefix}
use Rattle.hk_spec_streams.specs.Station.{station_seen}
use Rattle.hk_spec_streams.specs.Blocks.{Setting, blocks}

-- Whatever the limit: the blocks of the first n bytes begin the blocks of all bytes, so that none is there that isn't of all.
abbrev pub FrontHasFront : Setting → ℕ → List ℕ → Type 0
FrontHasFront setting n bytes = (limit : ℕ) → IsPrefix (blocks setting (station_seen limit (take n bytes))) (blocks setting (station_seen limit bytes))
