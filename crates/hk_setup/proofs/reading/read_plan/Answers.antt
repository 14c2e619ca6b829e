use Rattle.std.proofs.Common.{◌≡◌, ◌∙◌, ◌∷◌, ℕ, List, map, string_bytes, codes, Some, Ok, Err, Result, sym, ap}
use Rattle.std.specs.Result.{IfOk}
use Rattle.hk_spec_monitor.specs.Setup.{setup_in}
use Rattle.hk_setup.specs.Reading.{is_taken, rows_taken}
use Rattle.hk_setup.proofs.Command.{asked, unasked, IfUsage-weaker}
use Rattle.hk_setup.proofs.reading.read_plan.Goals as goal
use Rattle.hk_setup.proofs.reading.read_plan.Goals.{After-drop-texts}

from_both : {T E : Type 0} (r : Result T E) (A B C : T → Type 0) → ((x : T) → A x → B x → C x) → IfOk r A → IfOk r B → IfOk r C
from_both (Ok x) A B C f a b = f x a b
from_both (Err e) A B C f a b = tt

texts_are : (c : After-drop-texts) → map (λ text. text.now) c.as_slice.result.now ≡ codes "hkmon" ∷ map string_bytes c.args.words.now.items
texts_are c =
    ap (map (λ text. text.now)) c.as_slice.ensures.value ∙ (c.in-Ok.ensures ∙ ap (λ words. codes "hkmon" ∷ map string_bytes words) c.deref.ensures.value)

pub returns-in-Ok-clause-plan : goal.returns-in-Ok-clause-plan
returns-in-Ok-clause-plan c =
    let same = texts_are c in
    from_both c.plan_in.result _ _ _
    (λ plan taken is. asked (map string_bytes c.args.words.now.items) (ap is_taken (sym same) ∙ taken) ∙ ap (λ s. Some s) (ap (λ (ws : List (List ℕ)). setup_in (rows_taken ws)) (sym same) ∙ is))
    c.plan_in.ensures.taken c.plan_in.ensures.plan

pub returns-in-Ok-clause-usage : goal.returns-in-Ok-clause-usage
returns-in-Ok-clause-usage c =
    IfUsage-weaker c.plan_in.result _ _ (λ untaken. unasked (map string_bytes c.args.words.now.items) (ap is_taken (sym (texts_are c)) ∙ untaken)) c.plan_in.ensures.usage
