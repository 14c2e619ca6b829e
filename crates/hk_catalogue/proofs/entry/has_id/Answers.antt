use Rattle.hk_catalogue.proofs.Places.{has-here, has-none}
use Rattle.hk_catalogue.proofs.entry.has_id.Goals as goal

pub returns-in-Some : goal.returns-in-Some
returns-in-Some c =
    has-here c.args.entries.now c.args.id c.place_of.result c.in-Some.entry.now c.place_of.ensures.splits c.requires
    c.in-Some.ensures.lookup.3.0 c.in-Some.ensures.lookup.1

pub returns-in-None : goal.returns-in-None
returns-in-None c = has-none c.args.entries.now c.args.id c.place_of.result c.place_of.ensures.splits c.in-None.ensures.lookup.3
