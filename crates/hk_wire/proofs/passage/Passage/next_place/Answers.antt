use Rattle.std.proofs.Common.{rules, ◌≡◌, ◌++◌, ◌∷◌, [], length, Some, None, ap, sym, ◌∙◌, refl}
use Rattle.hk_base.specs.declared.plain.WireFault.TheVariants.{TooLong}
use Rattle.hk_wire.proofs.StillKept.{keeps_fault, keeps_all, keeps_some}
use Rattle.hk_wire.proofs.passage.Passage.next_place.Goals as goal

pub returns-in-Some-clause-keeps : goal.returns-in-Some-clause-keeps
returns-in-Some-clause-keeps c = λ met text byte ends kept. keeps_fault met c.args.self.now text byte kept c.in-Some.fault c.in-Some.is

pub returns-then-self-clause-keeps : goal.returns-then-self-clause-keeps
returns-then-self-clause-keeps c = λ met text byte ends kept.
    let none : c.args.self.now.fault ≡ None = search rules in
    let long : length text ≡ c.args.self.now.limit = sym (keeps_all met c.args.self.now text byte kept none) ∙ c.if-self.true in
    let wrong : met c.args.self.now.limit (text ++ byte ∷ []) ≡ Some (TooLong c.args.self.now.limit) =
    ap (λ limit. met limit (text ++ byte ∷ [])) (sym long) ∙ ends text byte ∙ ap (λ limit. Some (TooLong limit)) long in
    keeps_some met c.args.self.now text byte kept _ (TooLong c.args.self.now.limit) none wrong refl refl refl
