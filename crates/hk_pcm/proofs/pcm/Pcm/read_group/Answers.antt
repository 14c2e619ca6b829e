use Rattle.std.proofs.Common.{rules, ◌≡◌, ◌<◌, ◌++◌, [], ◌∷◌, ◌*◌, List, ℕ, ap, sym, ◌∙◌, arith, w32, FitsSigned}
use Rattle.std.proofs.lemmas.Int.{to_z-of_z}
use Rattle.hk_spec_sound.specs.Windows.{begun}
use Rattle.hk_spec_sound.specs.Samples.{samples_of, mono_of}
use Rattle.hk_pcm.specs.Sampling.{Sampling}
use Rattle.hk_pcm.proofs.Groups.{group_begins, group_is_whole}
use Rattle.hk_pcm.proofs.pcm.Pcm.read_group.Goals as goal

pub returns-clause-taken : goal.returns-clause-taken
returns-clause-taken c = λ bytes had.
    let channels = c.args.self.now.channels in
    let some : 0 < c.args.self.now.channels = omega (arith, c.self.invariant.0, ap (λ (r : Sampling). r.channels) c.self.view_is) in
    c.requires.between ∙ (group_is_whole channels bytes c.args.group.now some (sym c.requires.between ∙ had) c.requires.whole).1

pub returns-clause-sample : goal.returns-clause-sample
returns-clause-sample c = λ bytes had.
    let channels = c.args.self.now.channels in
    let some : 0 < c.args.self.now.channels = omega (arith, c.self.invariant.0, ap (λ (r : Sampling). r.channels) c.self.view_is) in
    let fits : FitsSigned w32 c.mono.result = search rules in
    let same : c.self.inside.channels ≡ channels = ap (λ (r : Sampling). r.channels) c.self.view_is in
    let mean = c.mono.ensures.value ∙ ap (λ n. mono_of n c.args.group.now) same in
    (group_is_whole channels bytes c.args.group.now some (sym c.requires.between ∙ had) c.requires.whole).0
    ∙ ap (λ z. samples_of channels bytes ++ z ∷ []) (sym (to_z-of_z w32 c.mono.result fits ∙ mean))

pub returns-clause-not_before : goal.returns-clause-not_before
returns-clause-not_before c = λ bytes k had inside.
    let channels = c.args.self.now.channels in
    let some : 0 < c.args.self.now.channels = omega (arith, c.self.invariant.0, ap (λ (r : Sampling). r.channels) c.self.view_is) in
    (group_begins channels bytes c.args.group.now k some (sym c.requires.between ∙ had) c.requires.whole (omega (arith, inside, c.requires.whole))).0
