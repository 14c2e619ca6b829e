use Rattle.std.proofs.Common.{◌≡◌, ℕ, ◌-◌, arith, subst, refl}
use Rattle.std.specs.Int.Bits.{bit_and}
use Rattle.hk_weak.proofs.Subsets.{IsSubset, subsets_from-last, subsets_from-next}
use Rattle.hk_weak.proofs.submasks.subset_after.Goals as goal

pub returns-then-left_out-eq0-clause-next : goal.returns-then-left_out-eq0-clause-next
returns-then-left_out-eq0-clause-next c = subsets_from-last c.args.mask c.args.subset c.requires (omega arith)

pub returns-clause-next : goal.returns-clause-next
returns-clause-next c = (subsets_from-next 32 c.args.mask c.args.subset _ (omega arith) c.requires (omega arith) refl).0

pub returns-clause-inside : goal.returns-clause-inside
returns-clause-inside c = λ next is.
    let mask = c.args.mask in
    let after = mask - bit_and (mask - c.args.subset - 1) mask in
    let same : after ≡ next = cc in
    let P : ℕ → Type 0 = λ n. IsSubset n mask in
    subst P same (subsets_from-next 32 mask c.args.subset after (omega arith) c.requires (omega arith) refl).1
