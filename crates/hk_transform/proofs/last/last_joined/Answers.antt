use Rattle.std.proofs.Common.{rules, ℤ, w32, w64, FitsSigned, pos, List, get_or, ◌∙◌, arith}
use Rattle.std.proofs.lemmas.Int.{to_z-of_z}
use Rattle.hk_spec_sound.specs.Spectrum.{plus, minus}
use Rattle.hk_transform.proofs.LastBins.{read_joined, last_bins}
use Rattle.hk_transform.proofs.last.last_joined.Goals as goal

pub returns-clause-low : goal.returns-clause-low
returns-clause-low c = λ items d len is.
    let k = c.args.k in
    let re : List ℤ = c.args.halves_re.now in
    let im : List ℤ = c.args.halves_im.now in
    let cos_read : FitsSigned w32 (get_or c.args.cos.now k (pos 0)) = search rules in
    let sin_read : FitsSigned w32 (get_or c.args.sin.now k (pos 0)) = search rules in
    let cos_fits : FitsSigned w64 c.from.result = search rules in
    let sin_fits : FitsSigned w64 c.from-2.result = search rules in
    let joined = simp to_z-of_z at c.joined.ensures.sum in
    joined
    ∙ read_joined plus re im k c.from.result c.from-2.result c.item_at-even.result c.item_at-odd.result
    (simp to_z-of_z at c.from.ensures ∙ c.requires.cos.each k (omega arith)) (simp to_z-of_z at c.from-2.ensures ∙ c.requires.sin.each k (omega arith))
    c.item_at-even.ensures.re c.item_at-even.ensures.im c.item_at-odd.ensures.re c.item_at-odd.ensures.im
    ∙ (last_bins items re im k d len c.requires.halves_re_len c.requires.halves_im_len is c.requires.inside).0

pub returns-clause-high : goal.returns-clause-high
returns-clause-high c = λ items d len is.
    let k = c.args.k in
    let re : List ℤ = c.args.halves_re.now in
    let im : List ℤ = c.args.halves_im.now in
    let cos_read : FitsSigned w32 (get_or c.args.cos.now k (pos 0)) = search rules in
    let sin_read : FitsSigned w32 (get_or c.args.sin.now k (pos 0)) = search rules in
    let cos_fits : FitsSigned w64 c.from.result = search rules in
    let sin_fits : FitsSigned w64 c.from-2.result = search rules in
    let joined = simp to_z-of_z at c.joined.ensures.difference in
    joined
    ∙ read_joined minus re im k c.from.result c.from-2.result c.item_at-even.result c.item_at-odd.result
    (simp to_z-of_z at c.from.ensures ∙ c.requires.cos.each k (omega arith)) (simp to_z-of_z at c.from-2.ensures ∙ c.requires.sin.each k (omega arith))
    c.item_at-even.ensures.re c.item_at-even.ensures.im c.item_at-odd.ensures.re c.item_at-odd.ensures.im
    ∙ (last_bins items re im k d len c.requires.halves_re_len c.requires.halves_im_len is c.requires.inside).1
