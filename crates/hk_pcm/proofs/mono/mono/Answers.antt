use Rattle.std.proofs.Common.{rules, ◌≡◌, ◌∙◌, ap, sym, arith, take, ◌+ℤ◌, w32, FitsSigned}
use Rattle.std.proofs.lemmas.List.{take_rest}
use Rattle.std.proofs.lemmas.Int.{ints, to_z-of_z}
use Rattle.hk_spec_sound.specs.Numbers.{floor_div}
use Rattle.hk_spec_sound.specs.Samples.{sample_of, mono_of}
use Rattle.hk_pcm.proofs.Groups.{mono_of-one, mono_of-two}
use Rattle.hk_pcm.proofs.mono.mono.Goals as goal

pub returns-then-channels-eq1-clause-value : goal.returns-then-channels-eq1-clause-value
returns-then-channels-eq1-clause-value c =
    let group = c.args.group.now in
    let fits : FitsSigned w32 c.sample.result = search rules in
    to_z-of_z w32 c.sample.result fits ∙ c.sample.ensures.value ∙ sym (mono_of-one group (omega arith))
    ∙ ap (λ n. mono_of n group) (sym c.if-channels-eq1.true)

pub returns-else-channels-eq1-clause-value : goal.returns-else-channels-eq1-clause-value
returns-else-channels-eq1-clause-value c =
    let group = c.args.group.now in
    let two : c.args.channels ≡ 2 = omega arith in
    let left_fits : FitsSigned w32 c.sample-left.result = search rules in
    let right_fits : FitsSigned w32 c.sample-right.result = search rules in
    let sum_fits : FitsSigned w32 (c.sample-left.result +ℤ c.sample-right.result) = omega (arith, ints) in
    let fits : FitsSigned w32 c.div_euclid.result = search rules in
    let mean = simp to_z-of_z at c.div_euclid.ensures in
    to_z-of_z w32 c.div_euclid.result fits ∙ mean
    ∙ ap (λ z. floor_div (z +ℤ c.sample-right.result) 2) c.sample-left.ensures.value
    ∙ ap (λ z. floor_div (sample_of (take 2 group) +ℤ z) 2) (c.sample-right.ensures.value ∙ ap sample_of (take_rest group 2))
    ∙ sym (mono_of-two group (omega arith)) ∙ ap (λ n. mono_of n group) (sym two)
