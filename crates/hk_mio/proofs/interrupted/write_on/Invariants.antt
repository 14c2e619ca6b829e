use Rattle.std.specs.Io.KnownBytes.{Keeps}
use Rattle.hk_mio.proofs.interrupted.write_on.Given as goal

abbrev pub invariant-loop : goal.invariant-loop
invariant-loop g l = Keeps (g.P.Write.contents l.initial.writer) (g.P.Write.contents l.writer)
