use Rattle.std.proofs.Common.{refl}
use Rattle.hk_spec_runs.specs.OperatorState.{new_state}
use Rattle.hk_words.specs.Rules.{rules_meant}
use Rattle.hk_probe.specs.Single.{shelf_of}
use Rattle.hk_run.proofs.Opens.{opens, new_on_shelf, is_fixed}
use Rattle.hk_run.proofs.run.Run.new.Goals as goal

pub returns-clause-new : goal.returns-clause-new
returns-clause-new c =
    let rules = rules_meant c.args.rules.now in
    opens c.args.rules.now _ c.requires.fits c.new-4.ensures.reads c.new-4.ensures.limit c.new-4.ensures.stations c.in_ok-stations.ensures.unheard
    (c.in_ok-operator.ensures rules (shelf_of c.in_ok-catalogue.catalogue) new_state (is_fixed c.args.rules.now) refl refl refl (new_on_shelf rules c.in_ok-catalogue.catalogue c.in_ok-catalogue.ensures))
