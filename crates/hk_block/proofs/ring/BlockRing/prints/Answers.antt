-- A print that is written stands at its place, and 256 of them are all that the ring keeps.
use Rattle.std.proofs.Common.{◌≡◌, ◌<◌, ◌≤◌, ◌≢◌, length, arith, sym, ◌∙◌, below_more, get_or, get_or-set_same, get_or-set_other, ap}
use Rattle.std.proofs.lemmas.Bool.{leb-true}
use Rattle.std.proofs.Math.ListN.{set, length-set}
use Rattle.std.proofs.lemmas.Option.{get_or_from_slice_get}
use Rattle.std.proofs.lemmas.List.{same_lists}
use Rattle.hk_block.proofs.ring.BlockRing.prints.Goals as goal

pub loop-j-preserved : goal.loop-j-preserved
loop-j-preserved c =
    let size : length c.loop-j.prints ≡ 256 = c.loop-j.invariant.size in
    record {
      size = length-set c.loop-j.prints c.loop-j.j c.print_at.result ∙ size;
      copied = λ k d low. below_more (λ k. get_or (set c.loop-j.prints c.loop-j.j c.print_at.result) k d ≡ get_or c.args.self.now.last k d) c.loop-j.j
          (λ k below. let other : k ≢ c.loop-j.j = omega arith in rw get_or-set_other (c.loop-j.invariant.copied k d below))
          (let inside : c.loop-j.j < length c.loop-j.prints = omega arith in rw get_or-set_same (sym (get_or_from_slice_get c.args.self.now.last c.loop-j.j c.print_at.result d c.print_at.ensures.print)))
          k low;
    }

pub returns : goal.returns
returns c =
    let many : 256 ≤ c.args.self.now.count = leb-true _ _ c.requires.full in
    let count : c.self.inside.count ≡ c.args.self.now.count = ap (λ r. r.count) c.self.view_is in
    let last : length c.args.self.now.last ≡ 256 = sym (ap (λ r. length r.last) c.self.view_is) ∙ omega arith in
    let size : length c.loop-j.prints ≡ 256 = c.loop-j.invariant.size in
    record { prints = same_lists _ _ (size ∙ sym last) (λ k d below. c.loop-j.invariant.copied k d (omega arith)) }
