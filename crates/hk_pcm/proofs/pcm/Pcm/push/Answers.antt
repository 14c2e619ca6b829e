use Rattle.std.proofs.Common.{rules, ◌≡◌, ◌++◌, [], ◌∷◌, ◌+◌, ◌*◌, take, set, ap, sym, subst, ◌∙◌, arith, w32, FitsSigned}
use Rattle.std.proofs.lemmas.List.{append-nil, take_more_set, length-take-le}
use Rattle.std.proofs.lemmas.Int.{to_z-of_z}
use Rattle.hk_spec_sound.specs.Samples.{samples_of, mono_of}
use Rattle.hk_pcm.specs.Sampling.{Sampling, HasSampled}
use Rattle.hk_pcm.proofs.Groups.{taken_whole, taken_part}
use Rattle.hk_pcm.proofs.pcm.Pcm.push.Goals as goal

pub returns-then-self-whole-clause-taken : goal.returns-then-self-whole-clause-taken
returns-then-self-whole-clause-taken c = λ bytes had.
    let s = c.self.inside in
    let P : Sampling → Type 0 = λ r. HasSampled r bytes in
    let front = length-take-le s.len s.group (omega (arith, c.self.invariant.2, c.self.invariant.1)) in
    take_more_set s.group s.len c.args.byte (omega (arith, c.self.invariant.2, c.self.invariant.1))
    ∙ (taken_part s.channels bytes (take s.len s.group) c.args.byte (omega (arith, c.self.invariant.0)) (subst P (sym c.self.view_is) had) (omega (arith, front))).1

pub returns-then-self-whole-clause-sample : goal.returns-then-self-whole-clause-sample
returns-then-self-whole-clause-sample c = λ bytes had.
    let s = c.self.inside in
    let byte = c.args.byte in
    let P : Sampling → Type 0 = λ r. HasSampled r bytes in
    let Q : Sampling → Type 0 = λ r. samples_of r.channels (bytes ++ byte ∷ []) ≡ samples_of r.channels bytes ++ [] in
    let front = length-take-le s.len s.group (omega (arith, c.self.invariant.2, c.self.invariant.1)) in
    let law = taken_part s.channels bytes (take s.len s.group) byte (omega (arith, c.self.invariant.0)) (subst P (sym c.self.view_is) had) (omega (arith, front)) in
    subst Q c.self.view_is (law.0 ∙ sym (append-nil (samples_of s.channels bytes)))

pub returns-clause-taken : goal.returns-clause-taken
returns-clause-taken c = λ bytes had.
    let s = c.self.inside in
    let P : Sampling → Type 0 = λ r. HasSampled r bytes in
    let front = length-take-le s.len s.group (omega (arith, c.self.invariant.2, c.self.invariant.1)) in
    (taken_whole s.channels bytes (take s.len s.group) c.args.byte (omega (arith, c.self.invariant.0)) (subst P (sym c.self.view_is) had) (omega (arith, front, c.self.invariant.2))).1

pub returns-clause-sample : goal.returns-clause-sample
returns-clause-sample c = λ bytes had.
    let s = c.self.inside in
    let byte = c.args.byte in
    let P : Sampling → Type 0 = λ r. HasSampled r bytes in
    let fits : FitsSigned w32 c.mono.result = search rules in
    let Q : Sampling → Type 0 = λ r. samples_of r.channels (bytes ++ byte ∷ []) ≡ samples_of r.channels bytes ++ c.mono.result ∷ [] in
    let front = length-take-le s.len s.group (omega (arith, c.self.invariant.2, c.self.invariant.1)) in
    let last : 2 * s.channels ≡ s.len + 1 = omega (arith, c.self.invariant.2) in
    let group : take (2 * s.channels) (set s.group s.len byte) ≡ take s.len s.group ++ byte ∷ [] =
    ap (λ n. take n (set s.group s.len byte)) last ∙ take_more_set s.group s.len byte (omega (arith, c.self.invariant.2, c.self.invariant.1)) in
    let mean : c.mono.result ≡ mono_of s.channels (take s.len s.group ++ byte ∷ []) = c.mono.ensures.value ∙ ap (mono_of s.channels) group in
    let law = taken_whole s.channels bytes (take s.len s.group) byte (omega (arith, c.self.invariant.0)) (subst P (sym c.self.view_is) had) (omega (arith, front, last)) in
    simp to_z-of_z (subst Q c.self.view_is (law.0 ∙ ap (λ m. samples_of s.channels bytes ++ m ∷ []) (sym mean)))
