use Rattle.std.proofs.Common.{◌≡◌, ◌+◌, ap, ◌∙◌, cond, arith}
use Rattle.hk_outside.specs.Doors.{gates_asked, gates_given}
use Rattle.hk_outside.proofs.Asked.{below_next, next_below}
use Rattle.hk_outside.proofs.calls.Calls.add_gate.Goals as goal

pub invariant_of-self-clause-gates : goal.invariant_of-self-clause-gates
invariant_of-self-clause-gates c =
    let old = c.args.self.now in
    c.add.ensures.gates (old.asked + 1) (below_next old.asked (old.asked + 1) old.made.items old.gates (omega arith)) (next_below old.asked)

pub invariant_of-self-clause-asked_is : goal.invariant_of-self-clause-asked_is
invariant_of-self-clause-asked_is c =
    let more : gates_asked c.add.new.made.items ≡ gates_asked c.args.self.now.made.items + 1 = c.add.ensures.asked in
    omega (arith, more, c.args.self.now.asked_is)

pub invariant_of-self-clause-given_is : goal.invariant_of-self-clause-given_is
invariant_of-self-clause-given_is c =
    let more : gates_given c.add.new.made.items ≡ gates_given c.args.self.now.made.items + 1 = c.add.ensures.given ∙ ap (λ ok. gates_given c.args.self.now.made.items + cond ok 1 0) c.if-ok.true in
    omega (arith, more, c.args.self.now.given_is)

pub invariant_of-self-else-ok-clause-gates : goal.invariant_of-self-else-ok-clause-gates
invariant_of-self-else-ok-clause-gates c =
    let old = c.args.self.now in
    c.add.ensures.gates (old.asked + 1) (below_next old.asked (old.asked + 1) old.made.items old.gates (omega arith)) (next_below old.asked)

pub invariant_of-self-else-ok-clause-asked_is : goal.invariant_of-self-else-ok-clause-asked_is
invariant_of-self-else-ok-clause-asked_is c =
    let more : gates_asked c.add.new.made.items ≡ gates_asked c.args.self.now.made.items + 1 = c.add.ensures.asked in
    omega (arith, more, c.args.self.now.asked_is)

pub invariant_of-self-else-ok-clause-given_is : goal.invariant_of-self-else-ok-clause-given_is
invariant_of-self-else-ok-clause-given_is c =
    let more : gates_given c.add.new.made.items ≡ gates_given c.args.self.now.made.items + 0 = c.add.ensures.given ∙ ap (λ ok. gates_given c.args.self.now.made.items + cond ok 1 0) c.if-ok.false in
    omega (arith, more, c.args.self.now.given_is)
