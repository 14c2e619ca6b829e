-- Where blocks begin follows from what the ring has taken.
use Rattle.std.proofs.Common.{◌+◌, ap, arith}
use Rattle.std.proofs.lemmas.Grind.{common_steps}
use Rattle.hk_block.specs.Ring.{Ring, Takes, BLOCK_SIZE}
use Rattle.hk_block.proofs.GrowingBlocks.{block-added, block-placed}
use Rattle.hk_block.proofs.ring.BlockRing.push.Goals as goal

pub returns-clause-adds : goal.returns-clause-adds
returns-clause-adds c =
    let new : Ring = record { last = c.push_back.new.self.items; count = c.self.inside.count + 1; block = record { size = BLOCK_SIZE; hop = c.self.inside.hop } } in
    let takes : Takes c.args.self.now c.args.p new = grind (arith, common_steps) in
    block-added c.args.self.now new c.args.p (omega (arith, ap (λ r. r.block.hop) c.self.view_is)) takes

pub returns-clause-places : goal.returns-clause-places
returns-clause-places c =
    let new : Ring = record { last = c.push_back.new.self.items; count = c.self.inside.count + 1; block = record { size = BLOCK_SIZE; hop = c.self.inside.hop } } in
    let takes : Takes c.args.self.now c.args.p new = grind (arith, common_steps) in
    block-placed c.args.self.now new c.args.p (omega (arith, ap (λ r. r.block.hop) c.self.view_is)) takes
