use Rattle.std.proofs.Common.{◌+◌, length}
use Rattle.hk_spec_streams.specs.Operator.{Publish, commands}
use Rattle.hk_operator.specs.Obeying.{new_commands}
use Rattle.hk_run.proofs.Obeying.{unanswered, replied, handed}
use Rattle.hk_run.proofs.run.Run.obey.Goals as goal

pub returns-in-More-clause-quiet : goal.returns-in-More-clause-quiet
returns-in-More-clause-quiet c = λ is rules scene h.
    let done = unanswered rules scene.state (length (commands scene.operator_stream.used) + 1) _ (new_commands rules scene.operator_stream c.args.byte) c.push.result c.in-More.is (c.push.ensures.answered rules scene.operator_stream scene.state h.obeys) in
    (done.0, record { hears = h.hears; obeys = done.1 })

pub returns-in-Reply-clause-replies : goal.returns-in-Reply-clause-replies
returns-in-Reply-clause-replies c = λ rules scene h.
    let done = replied rules scene.state (length (commands scene.operator_stream.used) + 1) _ (new_commands rules scene.operator_stream c.args.byte) c.in-Reply.reply (c.in-Reply.ensures.answered rules scene.operator_stream scene.state h.obeys) in
    (done.0, done.1, done.2, done.3, record { hears = h.hears; obeys = done.4 })

pub returns-in-Publish-clause-replies : goal.returns-in-Publish-clause-replies
returns-in-Publish-clause-replies c = λ rules scene h.
    let done = handed rules scene.state (length (commands scene.operator_stream.used) + 1) _ (new_commands rules scene.operator_stream c.args.byte) c.in-Publish.number (c.in-Publish.ensures.answered rules scene.operator_stream scene.state h.obeys) in
    let out = c.publish.ensures.published rules _ (record { hears = h.hears; obeys = done.2 }) in
    (Publish, done.0, done.1, out.0, out.1)
