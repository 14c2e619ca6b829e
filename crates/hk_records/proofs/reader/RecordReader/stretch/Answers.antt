use Rattle.std.proofs.Common.{◌≡◌, ◌≤◌, ◌-◌, ◌∙◌, ap, length, arith}
use Rattle.hk_records.specs.declared.part.Owner.TheVariants.{Station}
use Rattle.hk_records.specs.declared.part.Part.TheVariants.{Body}
use Rattle.hk_records.specs.Part.{left_ahead}
use Rattle.hk_records.specs.Reader.{bytes_ahead}
use Rattle.hk_records.proofs.Stretching.{all_arrive}
use Rattle.hk_records.proofs.reader.RecordReader.stretch.Goals as goal

pub returns-clause-arrive : goal.returns-clause-arrive
returns-clause-arrive c = λ text bytes h few.
    let body : c.args.self.now.part ≡ Body (Station c.in-Station.number) c.in-Body.left = c.in-Body.is ∙ ap (λ owner. Body owner c.in-Body.left) c.in-Station.is in
    let inside : left_ahead c.args.self.now.part ≡ c.in-Body.left - 1 = ap left_ahead body in
    let enough : length bytes ≤ bytes_ahead c.args.self.now =
    omega (arith, few, inside, c.min.ensures, c.from-inside.ensures, c.saturating_sub.ensures, c.saturating_sub-room.ensures) in
    all_arrive c.args.self.now c.in-Body.left text bytes h enough c.in-Station.number body
