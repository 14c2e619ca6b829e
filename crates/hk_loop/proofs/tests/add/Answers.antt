use Rattle.std.proofs.Common.{rules, ◌≡◌, None, All, sym, subst}
use Rattle.std.proofs.lemmas.List.Elements.{All-push}
use Rattle.hk_station.specs.Hearing.{kept_end}
use Rattle.hk_loop.proofs.tests.add.Goals as goal

pub returns-clause-going : goal.returns-clause-going
returns-clause-going c =
    subst (All (λ seat. kept_end seat.station ≡ None)) (sym c.in_ok-push.ensures.items)
    (All-push (λ seat. kept_end seat.station ≡ None) c.args.seats.now.items _ c.requires (search rules))
