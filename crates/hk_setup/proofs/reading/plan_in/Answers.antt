use Rattle.std.proofs.Common.{◌∙◌, map, sym, ap, subst}
use Rattle.hk_spec_monitor.specs.Setup.{setup_in}
use Rattle.hk_setup.specs.Numerals.{HavePassed}
use Rattle.hk_setup.proofs.Command.{have_passed}
use Rattle.hk_setup.proofs.reading.plan_in.Goals as goal

pub plan_found-requires : goal.plan_found-requires
plan_found-requires c =
    record { passed = subst HavePassed (sym c.in_ok-found.ensures.rows) (have_passed (map (λ text. text.now) c.args.words.now) c.in_ok-found.ensures.taken) }

pub returns-in-Ok-clause-plan : goal.returns-in-Ok-clause-plan
returns-in-Ok-clause-plan c = ap setup_in (sym c.in_ok-found.ensures.rows) ∙ c.in-Ok.ensures.plan
