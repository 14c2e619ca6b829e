-- A range of the code, as the definitions have it.
use Rattle.hk_spec_sound.specs.Limits as limits
use Rattle.hk_limits.specs.declared.range.Range.{Range}

abbrev pub range_meant : Range → limits.Range
range_meant range = record { least = range.least; most = range.most }
