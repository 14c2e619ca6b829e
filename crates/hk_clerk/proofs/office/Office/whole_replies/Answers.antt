use Rattle.std.proofs.Common.{◌-◌, sym, ◌∙◌, ap, true, false}
use Rattle.hk_clerk.proofs.Attending.{whole_by, torn_is}
use Rattle.hk_clerk.proofs.office.Office.whole_replies.Goals as goal

pub returns-then-is_torn : goal.returns-then-is_torn
returns-then-is_torn g c = λ rules old desk o h.
    c.saturating_sub.ensures ∙ ap (λ n. n - 1) (c.commands-commands.ensures rules _ _ _ h.counted.2 ∙ h.counted.3)
    ∙ sym (whole_by o true (torn_is o _ true h.end (sym c.if-is_torn.true ∙ c.is_torn.ensures)))

pub returns-else-is_torn : goal.returns-else-is_torn
returns-else-is_torn g c = λ rules old desk o h.
    c.commands-commands.ensures rules _ _ _ h.counted.2 ∙ h.counted.3 ∙ sym (whole_by o false (torn_is o _ false h.end (sym c.if-is_torn.false ∙ c.is_torn.ensures)))
