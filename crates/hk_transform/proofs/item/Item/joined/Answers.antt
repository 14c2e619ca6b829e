use Rattle.std.proofs.Common.{ap, ◌∙◌}
use Rattle.std.proofs.lemmas.Int.{to_z-of_z}
use Rattle.hk_spec_sound.specs.Spectrum.{plus, minus}
use Rattle.hk_transform.specs.Items.{value}
use Rattle.hk_transform.proofs.Values.{sum_of_parts, difference_of_parts}
use Rattle.hk_transform.proofs.item.Item.joined.Goals as goal

pub returns-clause-sum : goal.returns-clause-sum
returns-clause-sum c =
    let turned = c.turned_back-turned.result in
    let cos_fits = c.ranges.cos in
    let sin_fits = c.ranges.sin in
    let turned_is = simp to_z-of_z at c.turned_back-turned.ensures.value in
    sum_of_parts c.args.self turned c.plus.result c.plus.ensures.re c.plus.ensures.im ∙ ap (λ t. plus (value c.args.self, t)) turned_is

pub returns-clause-difference : goal.returns-clause-difference
returns-clause-difference c =
    let turned = c.turned_back-turned.result in
    let cos_fits = c.ranges.cos in
    let sin_fits = c.ranges.sin in
    let turned_is = simp to_z-of_z at c.turned_back-turned.ensures.value in
    difference_of_parts c.args.self turned c.minus.result c.minus.ensures.re c.minus.ensures.im ∙ ap (λ t. minus (value c.args.self, t)) turned_is
