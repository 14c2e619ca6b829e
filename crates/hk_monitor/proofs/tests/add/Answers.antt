use Rattle.std.proofs.Common.{◌≡◌, All, sym, subst}
use Rattle.std.proofs.lemmas.List.Elements.{All-push}
use Rattle.hk_monitor.specs.Crew.{MayBegin}
use Rattle.hk_monitor.proofs.tests.add.Goals as goal

pub returns : goal.returns
returns g c =
    subst (All (MayBegin c.args.desk.now)) (sym c.in_ok-push.ensures.items)
    (All-push (MayBegin c.args.desk.now) c.args.crew.now.items _ c.requires.crew c.requires.worker)
