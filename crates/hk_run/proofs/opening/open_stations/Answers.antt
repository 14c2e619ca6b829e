use Rattle.std.proofs.Common.{◌≡◌, ℕ, List, [], ◌∷◌, ◌++◌, length, subst, ◌∙◌, refl, sym, arith}
use Rattle.std.specs.Prelude.{replicate}
use Rattle.std.proofs.lemmas.List.{length-replicate}
use Rattle.hk_spec_runs.specs.Replay.{Listener}
use Rattle.hk_words.specs.Rules.{rules_meant}
use Rattle.hk_spec_runs.specs.Listening.{unheard}
use Rattle.hk_station.specs.declared.station.Station.{Station}
use Rattle.hk_run.specs.Holding.{AreHearing, Numbered}
use Rattle.hk_run.proofs.Stations.{joined, all_of}
use Rattle.hk_run.proofs.Opens.{one_more}
use Rattle.hk_run.proofs.opening.open_stations.Goals as goal

pub loop-number-init : goal.loop-number-init
unfolding Numbered
loop-number-init c = rw c.new-stations.ensures.items tt

pub loop-number-preserved : goal.loop-number-preserved
loop-number-preserved c =
    let rules = rules_meant c.args.rules.now in
    let before : List Station = c.loop-number.stations.items in
    let n : ℕ = c.loop-number.number in
    let many : length c.loop-number.stations.items ≡ c.loop-number.number = all_of rules 0 before (replicate n unheard) c.loop-number.invariant ∙ length-replicate n unheard in
    let number : _ = c.in_ok-station.ensures.number in
    subst (λ (ls : List Listener). AreHearing rules 0 c.push.new.self.items ls) (one_more n unheard)
    (subst (λ (ss : List Station). AreHearing rules 0 ss (replicate n unheard ++ unheard ∷ [])) (sym c.in-Ok.ensures.items)
    (joined rules 0 before (replicate n unheard) c.in_ok-station.station unheard c.loop-number.invariant (c.in_ok-station.ensures.unheard rules refl refl) (omega (arith, number, many))))
