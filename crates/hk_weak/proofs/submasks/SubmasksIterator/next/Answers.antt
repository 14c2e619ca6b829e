use Rattle.std.proofs.Common.{◌≡◌, ◌∙◌, ℕ, Option, List, [], sym, ap, subst}
use Rattle.std.specs.Iterator.{YieldsFirst}
use Rattle.hk_weak.specs.Left.{subsets_from}
use Rattle.hk_weak.proofs.submasks.SubmasksIterator.next.Goals as goal

pub returns-in_err-subset-clause-steps : goal.returns-in_err-subset-clause-steps
unfolding subsets_from
returns-in_err-subset-clause-steps c =
    let left = c.args.self.now in
    let mask = c.self.inside.mask in
    let nothing : left ≡ [] = sym c.self.view_is ∙ ap (subsets_from (record { mask = mask })) c.in_err-subset.was in
    let P : Option ℕ → Type 0 = λ r. YieldsFirst {S = List ℕ} {A = ℕ} (λ s. s) left r left in
    subst P (sym c.from_residual.ensures) (nothing, nothing)
