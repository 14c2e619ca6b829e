use Rattle.std.proofs.Common.{rules}
use Rattle.hk_publish.proofs.Looking.{looks_of}
use Rattle.hk_publish.proofs.reading.ReadingLooker.now.Goals as goal

pub returns-clause-looks : goal.returns-clause-looks
returns-clause-looks g c = looks_of c.args.self.now c.version-version.result c.leave.result (search rules)
