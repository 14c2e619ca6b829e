-- What a run is set to.
use Rattle.std.specs.Prelude.{ℕ}
use Rattle.hk_spec_streams.specs.Blocks.{Setting}
use Rattle.hk_spec_matching.specs.Catalogue.{Limits}

-- All that a run is set to. A song that is added is matched with at most `errors` errors; `bytes` is the limit of bytes of a stream.
pub record Rules : Type 0 where
  pub setting : Setting
  pub errors : ℕ
  pub limits : Limits
  pub stations : ℕ
  pub bytes : ℕ
