use Rattle.hk_base.specs.declared.plain.Reason.TheVariants.{VersionsFull}
use Rattle.hk_base.specs.declared.plain.What.TheVariants.{Published, Refused}
use Rattle.hk_probe.specs.Single.{shelf_of}
use Rattle.hk_operator.proofs.Answering.{publishes_are_replied_to}
use Rattle.hk_run.proofs.Obeying.{published, refused}
use Rattle.hk_run.proofs.run.Run.publish.Goals as goal

pub returns-in-Ok-clause-published : goal.returns-in-Ok-clause-published
returns-in-Ok-clause-published c = λ rules scene h.
    let alone = c.args.self.now.catalogue in
    let told = published alone c.in-Ok.version c.publish.new.self c.in-Ok.ensures.answer c.in-Ok.ensures.published in
    let done = publishes_are_replied_to rules c.args.self.now.operator scene.operator_stream scene.state (shelf_of alone) (shelf_of c.publish.new.self) (Published c.in-Ok.version) h.obeys told in
    (done.0, record { hears = h.hears; obeys = done.1 })

pub returns-in-Err-clause-published : goal.returns-in-Err-clause-published
returns-in-Err-clause-published c = λ rules scene h.
    let alone = c.args.self.now.catalogue in
    let told = refused alone c.in-Err.field-0 c.publish.new.self c.in-Err.ensures.answer c.in-Err.ensures.unchanged in
    let done = publishes_are_replied_to rules c.args.self.now.operator scene.operator_stream scene.state (shelf_of alone) (shelf_of c.publish.new.self) (Refused VersionsFull) h.obeys told in
    (done.0, record { hears = h.hears; obeys = done.1 })
