use Rattle.hk_clerk.proofs.Doing.{same_desk, leaves_more, leaves_over, leaves_reply, leaves_publish}
use Rattle.hk_clerk.proofs.step.obey.Goals as goal

pub returns-in-More-clause-leaves : goal.returns-in-More-clause-leaves
returns-in-More-clause-leaves g c = λ rules taken told h.
    leaves_more rules taken c.args.byte told c.args.operator.now c.push.new.self c.args.desk.now c.push.new.shelf h (same_desk _ _ c.push.ensures.published).published
    (c.in-More.ensures.answered rules _ h.state h.obeys, c.in-More.ensures.over rules _ h.state h.obeys)

pub returns-in-Over-clause-leaves : goal.returns-in-Over-clause-leaves
returns-in-Over-clause-leaves g c = λ rules taken told h.
    leaves_over rules taken c.args.byte told c.args.operator.now c.push.new.self c.args.desk.now c.push.new.shelf h (same_desk _ _ c.push.ensures.published).published c.in-Over.end
    (c.in-Over.ensures.answered rules _ h.state h.obeys, c.in-Over.ensures.over rules _ h.state h.obeys)

pub returns-in-Reply-clause-leaves : goal.returns-in-Reply-clause-leaves
returns-in-Reply-clause-leaves g c = λ rules taken told h.
    leaves_reply rules taken c.args.byte told c.args.operator.now c.push.new.self c.args.desk.now c.push.new.shelf h (same_desk _ _ c.push.ensures.published).published c.in-Reply.reply
    (c.in-Reply.ensures.answered rules _ h.state h.obeys, c.in-Reply.ensures.over rules _ h.state h.obeys)

pub returns-in-Publish-clause-leaves : goal.returns-in-Publish-clause-leaves
returns-in-Publish-clause-leaves g c = λ rules taken told h.
    leaves_publish rules taken c.args.byte told c.args.operator.now c.push.new.self c.args.desk.now c.push.new.shelf h (same_desk _ _ c.push.ensures.published).published c.in-Publish.number
    c.publish.new.desk c.publish.result c.publish.ensures.told c.publish.ensures.journal
    (c.in-Publish.ensures.answered rules _ h.state h.obeys, c.in-Publish.ensures.over rules _ h.state h.obeys)
