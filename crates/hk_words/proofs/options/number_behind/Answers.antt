use Rattle.std.proofs.Common.{◌∙◌, sym, ap, refl, bytes_eq}
use Rattle.hk_words.proofs.Pairs.{behind_further}
use Rattle.hk_words.proofs.options.number_behind.Goals as goal

pub loop-rest-preserved : goal.loop-rest-preserved
loop-rest-preserved c =
    c.loop-rest.invariant
    ∙ behind_further c.loop-rest.rest.now c.args.name.now c.next-item.result _ c.in-len2-up.len_at_least c.next-item.is
    (ap (bytes_eq c.args.name.now) (sym c.as_str.ensures.value) ∙ sym c.eq.ensures ∙ c.if-eq.false) refl
