use Rattle.std.proofs.Common.{rules, refl, ◌≡◌, ◌+◌, ◌-◌, ◌/◌, ◌^◌, [], ◌∷◌, ◌++◌, suc, ap, sym, ◌∙◌, arith}
use Rattle.std.proofs.lemmas.List.{append-nil}
use Rattle.hk_spec_made.specs.Input.{high_parts}
use Rattle.hk_made.proofs.Drawing.{high_parts-step, high_parts-none}
use Rattle.hk_made.proofs.draws.high_parts.Goals as goal

pub loop-draw-preserved : goal.loop-draw-preserved
loop-draw-preserved c =
    let before = c.loop-draw.highs.items in
    let next = c.next-state.result in
    let left = c.args.count - (c.loop-draw._draw + 1) in
    let pushed : c.push.new.self.items ≡ before ++ next / 2 ^ 15 ∷ [] = search rules in
    let one : c.args.count - c.loop-draw._draw ≡ suc left = omega (arith, c.loop-draw-test.true) in
    record {
      below = c.next-state.ensures.below;
      drawn = ap (λ hs. hs ++ high_parts next left) pushed
          ∙ high_parts-step before (high_parts c.args.seed c.args.count) c.loop-draw.state next (next / 2 ^ 15) (c.args.count - c.loop-draw._draw) left
          c.loop-draw.invariant.drawn one c.next-state.ensures.value refl;
    }

pub returns : goal.returns
returns c =
    let highs = c.loop-draw.highs.items in
    let none : c.args.count - c.loop-draw._draw ≡ 0 = omega (arith, c.loop-draw-test.false) in
    sym (ap (λ n. highs ++ high_parts c.loop-draw.state n) none ∙ ap (λ more. highs ++ more) (high_parts-none c.loop-draw.state) ∙ append-nil highs)
    ∙ c.loop-draw.invariant.drawn
