-- Bytes of a stream that complete nothing.
use Rattle.std.specs.Prelude.{◌≡◌, ℕ, ⊤, List, [], ◌∷◌, ◌++◌, None}
use Rattle.hk_spec_streams.specs.Station.{station_met, fences}
use Rattle.hk_spec_streams.specs.Blocks.{blocks}
use Rattle.hk_spec_settings.specs.Settings.{Rules}

-- The byte behind the text meets no fault, and neither a block nor a fence ends with it.
pub record IsQuiet (rules : Rules) (text : List ℕ) (byte : ℕ) : Type 0 where
  pub meets_none : station_met rules.bytes (text ++ byte ∷ []) ≡ None
  pub same_blocks : blocks rules.setting (text ++ byte ∷ []) ≡ blocks rules.setting text
  pub same_fences : fences (text ++ byte ∷ []) ≡ fences text

-- each of these bytes behind the text is such a byte
abbrev pub AreQuiet : Rules → List ℕ → List ℕ → Type 0
AreQuiet rules text [] = ⊤
AreQuiet rules text (b ∷ bytes) = IsQuiet rules text b × AreQuiet rules (text ++ b ∷ []) bytes
