use Rattle.std.proofs.Common.{rules}
use Rattle.hk_publish.proofs.Shared.{admits, tells, greets}
use Rattle.hk_publish.proofs.visitor.seat.Goals as goal

pub reader-requires : goal.reader-requires
reader-requires g c = admits

pub tell-requires : goal.tell-requires
tell-requires g c = tells _ _

pub learn-requires : goal.learn-requires
learn-requires g c = record { own = search rules; rule = greets _ _ _ _ }
