use Rattle.std.proofs.Common.{◌++◌, [], ◌∷◌, take, get_or, sym, ◌∙◌, ap, arith}
use Rattle.std.proofs.Math.ListN.{length-set}
use Rattle.std.proofs.lemmas.List.{take_more, take_more_set, take_all, map-append}
use Rattle.hk_base.specs.declared.plain.Print.{Print}
use Rattle.hk_spec_matching.specs.Matching.{words_of}
use Rattle.hk_probe.proofs.comparison.Block.new.Goals as goal

pub loop-j-preserved : goal.loop-j-preserved
loop-j-preserved c =
    let prints = c.args.prints in
    let words = c.loop-j.words in
    let j = c.loop-j.j in
    let print : Print = get_or prints j (record { word = 0; mask = 0 }) in
    record {
      written = take_more_set words j print.word (omega arith)
          ∙ ap (λ ws. ws ++ print.word ∷ []) c.loop-j.invariant.written
          ∙ sym (ap words_of (take_more prints j (record { word = 0; mask = 0 }) (omega arith)) ∙ map-append (λ (p : Print). p.word) (take j prints) (print ∷ []));
      size = length-set words j print.word ∙ c.loop-j.invariant.size;
    }

pub invariant_of-result : goal.invariant_of-result
invariant_of-result c = record {
  words_are = sym (take_all c.loop-j.j c.loop-j.words (omega (arith, c.loop-j.invariant.size)))
      ∙ c.loop-j.invariant.written
      ∙ ap words_of (take_all c.loop-j.j c.args.prints (omega arith));
}
