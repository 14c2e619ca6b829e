use Rattle.std.proofs.Common.{ℤ, List, subst, sym}
use Rattle.hk_spec_sound.specs.Circle.{quarter, cos_of, sin_of}
use Rattle.hk_circle.specs.Tables.{IsTable}
use Rattle.hk_circle.proofs.circle.Circle.new.Goals as goal

pub invariant_of-result : goal.invariant_of-result
invariant_of-result c =
    let tables = c.in_ok-tables.tables in
    record {
      cosines_are = tables.cosines_are;
      sines_are = tables.sines_are;
      window_is = tables.window_is;
      stage_cosines_are = c.in_ok-stage_cosines.ensures.stages (λ k. cos_of (quarter 9) k)
          (subst (λ (xs : List ℤ). IsTable 2048 (λ k. cos_of (quarter 9) k) xs) (sym c.deref.ensures.value) tables.cosines_are);
      stage_sines_are = c.in_ok-stage_sines.ensures.stages (λ k. sin_of (quarter 9) k)
          (subst (λ (xs : List ℤ). IsTable 2048 (λ k. sin_of (quarter 9) k) xs) (sym c.deref-2.ensures.value) tables.sines_are);
    }
