use Rattle.std.proofs.Common.{◌≡◌, ℤ, List, [], ◌∷◌, ◌++◌, pos, subst, sym, ap, ◌∙◌, arith, refl}
use Rattle.hk_circle.specs.Tables.{HasStages}
use Rattle.hk_circle.proofs.Filling.{no_stages, doubled}
use Rattle.hk_circle.proofs.tables.by_stages.Goals as goal

pub loop-before-init : goal.loop-before-init
loop-before-init c = record {
  few = omega arith;
  half = refl;
  stages = λ f table. subst (λ (xs : List ℤ). HasStages 0 f xs)
      (sym (c.in_ok-put.ensures ∙ ap (λ (xs : List ℤ). xs ++ pos 0 ∷ []) c.new-stages.ensures.items)) (no_stages f);
}

pub loop-before-preserved : goal.loop-before-preserved
loop-before-preserved c =
    let half = c.loop-before.half in
    record {
      few = omega arith;
      half = omega (arith, c.loop-before.invariant.half, doubled c.loop-before.before);
      stages = λ f table. c.in_ok-add_stage.ensures.more f table (c.loop-before.invariant.stages f table);
    }

pub returns : goal.returns
returns c = record {
  stages = λ f table.
      let all : c.loop-before.before ≡ 11 = omega (arith, c.loop-before-test.false, c.loop-before.invariant.few) in
      subst (λ n. HasStages n f c.loop-before.stages.items) all (c.loop-before.invariant.stages f table);
}
