use Rattle.std.proofs.Common.{◌≤◌, ◌+◌, ◌-◌, ◌++◌, length, subst, arith}
use Rattle.hk_records.specs.declared.part.Part.TheVariants.{Body}
use Rattle.hk_records.specs.Reader.{HasRead, bytes_ahead}
use Rattle.hk_records.proofs.Stretching.{all_read}
use Rattle.hk_records.proofs.reader.RecordReader.skip.Goals as goal

pub returns-in-Body-clause-reads : goal.returns-in-Body-clause-reads
returns-in-Body-clause-reads c = λ text bytes h count.
    let few : length bytes ≤ bytes_ahead c.args.self.now = omega (arith, c.requires, count) in
    subst (λ n. HasRead (record c.args.self.now { taken = c.args.self.now.taken + n; part = Body c.in-Body.owner (c.in-Body.left - n) }) (text ++ bytes)) count
    (all_read c.args.self.now c.in-Body.left text bytes h few c.in-Body.owner c.in-Body.is)
