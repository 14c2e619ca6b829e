use Rattle.std.proofs.Common.{rules, ◌≡◌, ◌+◌, w64, FitsSigned, pos, ◌-ℤ◌, nat_abs, ◌≤◌, ℤ, List, subst, sym, ap, ◌∙◌}
use Rattle.std.proofs.lemmas.Int.{to_z-of_z}
use Rattle.hk_spec_sound.specs.Numbers.{floor_div}
use Rattle.hk_spec_sound.specs.Circle.{quarter, cos_of, sin_of, hann_of}
use Rattle.hk_circle.specs.Tables.{IsTable}
use Rattle.hk_circle.proofs.Filling.{table_more}
use Rattle.hk_circle.proofs.tables.Tables.new.Goals as goal

pub loop-k-preserved : goal.loop-k-preserved
loop-k-preserved c =
    let k = c.loop-k.k in
    let inv = c.loop-k.invariant in
    let to = c.direction-direction.result in
    let cos_fits : FitsSigned w64 to.cos = search rules in
    let sin_fits : FitsSigned w64 to.sin = search rules in
    let hann_fits : FitsSigned w64 c.div_euclid.result = search rules in
    let less_fits : FitsSigned w64 (pos 32768 -ℤ to.cos) = search rules in
    let cos_is : to.cos ≡ cos_of (quarter 9) k = ap (λ d. d.0) c.direction-direction.ensures in
    let sin_is : to.sin ≡ sin_of (quarter 9) k = ap (λ d. d.1) c.direction-direction.ensures in
    let hann_is : c.div_euclid.result ≡ hann_of (quarter 9) k = simp to_z-of_z at c.div_euclid.ensures ∙ ap (λ z. floor_div (pos 32768 -ℤ z) 2) cos_is in
    let hann_within : nat_abs c.div_euclid.result ≤ 32768 = search rules in
    record {
      cosines = subst (λ (xs : List ℤ). IsTable (k + 1) (λ j. cos_of (quarter 9) j) xs) (sym (simp to_z-of_z at c.in_ok-put.ensures))
          (table_more k (λ j. cos_of (quarter 9) j) c.loop-k.cosines.items to.cos inv.cosines cos_is to.cos_within);
      sines = subst (λ (xs : List ℤ). IsTable (k + 1) (λ j. sin_of (quarter 9) j) xs) (sym (simp to_z-of_z at c.in_ok-put-2.ensures))
          (table_more k (λ j. sin_of (quarter 9) j) c.loop-k.sines.items to.sin inv.sines sin_is to.sin_within);
      window = subst (λ (xs : List ℤ). IsTable (k + 1) (λ j. hann_of (quarter 9) j) xs) (sym (simp to_z-of_z at c.in_ok-put-3.ensures))
          (table_more k (λ j. hann_of (quarter 9) j) c.loop-k.window.items c.div_euclid.result inv.window hann_is hann_within);
    }
