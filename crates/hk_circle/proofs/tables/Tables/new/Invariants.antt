use Rattle.hk_spec_sound.specs.Circle.{quarter, cos_of, sin_of, hann_of}
use Rattle.hk_circle.specs.Tables.{IsTable}
use Rattle.hk_circle.proofs.tables.Tables.new.Given as goal

abbrev pub invariant-loop-k : goal.invariant-loop-k
invariant-loop-k l = record {
  cosines : IsTable l.k (λ k. cos_of (quarter 9) k) l.cosines.items;
  sines : IsTable l.k (λ k. sin_of (quarter 9) k) l.sines.items;
  window : IsTable l.k (λ n. hann_of (quarter 9) n) l.window.items;
}
