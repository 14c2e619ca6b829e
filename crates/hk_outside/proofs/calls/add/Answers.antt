use Rattle.std.proofs.Common.{sym, ◌∙◌, ap, subst, arith}
use Rattle.hk_outside.specs.Doors.{gates_asked, gates_given}
use Rattle.hk_outside.specs.Calls.{AreDistinct, GatesBelow}
use Rattle.hk_outside.proofs.Asked.{few_calls, still_distinct, asked_more, given_more, below_more}
use Rattle.hk_outside.proofs.calls.add.Goals as goal

pub unreachable-requires : goal.unreachable-requires
unreachable-requires c = let few = few_calls c.args.ask c.args.made.now.items c.requires.new c.requires.number c.requires.distinct c.requires.numbered in
    omega (arith, few, c.in-Err.ensures.full, c.requires.room)

pub returns-clause-distinct : goal.returns-clause-distinct
returns-clause-distinct c = subst AreDistinct (sym c.in-Ok.ensures.items) (still_distinct c.args.ask c.args.ok c.args.made.now.items c.requires.new c.requires.distinct)

pub returns-clause-gates : goal.returns-clause-gates
returns-clause-gates c = λ count below one. subst (GatesBelow count) (sym c.in-Ok.ensures.items) (below_more count c.args.ask c.args.ok c.args.made.now.items below one)

pub returns-clause-asked : goal.returns-clause-asked
returns-clause-asked c = ap gates_asked c.in-Ok.ensures.items ∙ asked_more c.args.ask c.args.ok c.args.made.now.items

pub returns-clause-given : goal.returns-clause-given
returns-clause-given c = ap gates_given c.in-Ok.ensures.items ∙ given_more c.args.ask c.args.ok c.args.made.now.items
