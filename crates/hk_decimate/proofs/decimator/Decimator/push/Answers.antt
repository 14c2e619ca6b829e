use Rattle.std.proofs.Common.{rules, ◌≡◌, ◌<◌, ◌++◌, [], ◌∷◌, ℤ, List, ◌+◌, ◌-◌, ◌*◌, length, take, drop, set, ap, sym, subst, ◌∙◌, arith, w32, FitsSigned, to_z, of_z}
use Rattle.std.proofs.lemmas.List.{append-nil, take_more_set, length-take-le, length-drop, length-append, take-append-le, take_at}
use Rattle.std.proofs.lemmas.List.Elements.{All-take, All-drop, All-set, All-append, All-same}
use Rattle.std.proofs.lemmas.Int.{to_z-of_z}
use Rattle.hk_spec_sound.specs.Samples.{decimated, weighted_mean}
use Rattle.hk_spec_sound.specs.Ranges.{IsSample}
use Rattle.hk_decimate.specs.Line.{Line, HasDecimated}
use Rattle.hk_decimate.proofs.Taking.{taken_whole, taken_part}
use Rattle.hk_decimate.proofs.decimator.Decimator.push.Goals as goal

pub returns-then-self-whole-clause-taken : goal.returns-then-self-whole-clause-taken
returns-then-self-whole-clause-taken c = λ samples had.
    let s = c.self.inside in
    let x_fits = c.ranges.x in
    let P : Line → Type 0 = λ line. HasDecimated line samples in
    let room : s.len < length s.window = omega (arith, c.self.invariant.1, c.self.invariant.2) in
    let front = length-take-le s.len s.window (omega (arith, room)) in
    simp to_z-of_z
    (take_more_set s.window s.len c.args.x room
    ∙ (taken_part s.factor samples (take s.len s.window) c.args.x c.self.invariant.0 (subst P (sym c.self.view_is) had) (omega (arith, front))).1)

pub returns-then-self-whole-clause-sample : goal.returns-then-self-whole-clause-sample
returns-then-self-whole-clause-sample c = λ samples had.
    let s = c.self.inside in
    let x = c.args.x in
    let P : Line → Type 0 = λ line. HasDecimated line samples in
    let Q : Line → Type 0 = λ line. decimated line.factor (samples ++ x ∷ []) ≡ decimated line.factor samples ++ [] in
    let room : s.len < length s.window = omega (arith, c.self.invariant.1, c.self.invariant.2) in
    let front = length-take-le s.len s.window (omega (arith, room)) in
    let law = taken_part s.factor samples (take s.len s.window) x c.self.invariant.0 (subst P (sym c.self.view_is) had) (omega (arith, front)) in
    subst Q c.self.view_is (law.0 ∙ sym (append-nil (decimated s.factor samples)))

pub weighted_mean-mean-requires-clause-samples : goal.weighted_mean-mean-requires-clause-samples
weighted_mean-mean-requires-clause-samples c =
    let s = c.self.inside in
    let x_fits = c.ranges.x in
    let x : ℤ = to_z w32 (of_z w32 c.args.x) in
    let here : IsSample x = simp to_z-of_z c.requires in
    All-take IsSample (2 * s.factor - 1) (set s.window s.len x) (All-set IsSample s.window s.len x here c.self.invariant.3)

pub invariant_of-self-2 : goal.invariant_of-self-2
invariant_of-self-2 c =
    let s = c.self.inside in
    let x_fits = c.ranges.x in
    let x : ℤ = to_z w32 (of_z w32 c.args.x) in
    let here : IsSample x = simp to_z-of_z c.requires in
    let whole = 2 * s.factor - 1 in
    let all = All-set IsSample s.window s.len x here c.self.invariant.3 in
    let part : List ℤ = take whole (set s.window s.len x) in
    let in_part = All-take IsSample whole (set s.window s.len x) all in
    let turned = All-append IsSample (drop s.factor part) (take s.factor part) (All-drop IsSample s.factor part in_part) (All-take IsSample s.factor part in_part) in (
      c.self.invariant.0,
      c.self.invariant.1,
      omega (arith, c.self.invariant.0),
      All-append IsSample c.rotate_left.new.self (drop whole (set s.window s.len x))
          (All-same IsSample c.rotate_left.new.self (drop s.factor part ++ take s.factor part) c.rotate_left.ensures.after turned)
          (All-drop IsSample whole (set s.window s.len x) all),
    )

pub returns-clause-taken : goal.returns-clause-taken
returns-clause-taken c = λ samples had.
    let s = c.self.inside in
    let x_fits = c.ranges.x in
    let x : ℤ = to_z w32 (of_z w32 c.args.x) in
    let x_is : x ≡ c.args.x = to_z-of_z w32 c.args.x x_fits in
    let P : Line → Type 0 = λ line. HasDecimated line samples in
    let room : s.len < length s.window = omega (arith, c.self.invariant.1, c.self.invariant.2) in
    let front = length-take-le s.len s.window (omega (arith, room)) in
    let whole = 2 * s.factor - 1 in
    let last : whole ≡ s.len + 1 = omega (arith, c.self.invariant.2) in
    let part : List ℤ = take whole (set s.window s.len x) in
    let rest : List ℤ = drop whole (set s.window s.len x) in
    let part_is : part ≡ take s.len s.window ++ x ∷ [] = ap (λ n. take n (set s.window s.len x)) last ∙ take_more_set s.window s.len x room in
    let part_len : length part ≡ whole = ap length part_is ∙ length-append (take s.len s.window) (x ∷ []) ∙ omega (arith, front, last) in
    let turned_len : length c.rotate_left.new.self ≡ whole = ap length c.rotate_left.ensures.after ∙ length-append (drop s.factor part) (take s.factor part)
    ∙ omega (arith, length-drop s.factor part, length-take-le s.factor part (omega (arith, part_len, c.self.invariant.0)), part_len, c.self.invariant.0) in
    let law = taken_whole s.factor samples (take s.len s.window) c.args.x c.self.invariant.0 (subst P (sym c.self.view_is) had) (omega (arith, front, last)) in
    take-append-le (s.factor - 1) c.rotate_left.new.self rest (omega (arith, turned_len))
    ∙ ap (take (s.factor - 1)) c.rotate_left.ensures.after
    ∙ take_at (drop s.factor part) (take s.factor part) (s.factor - 1) (omega (arith, length-drop s.factor part, part_len))
    ∙ ap (drop s.factor) (part_is ∙ ap (λ z. take s.len s.window ++ z ∷ []) x_is)
    ∙ law.1

pub returns-clause-sample : goal.returns-clause-sample
returns-clause-sample c = λ samples had.
    let s = c.self.inside in
    let x_fits = c.ranges.x in
    let x : ℤ = to_z w32 (of_z w32 c.args.x) in
    let x_is : x ≡ c.args.x = to_z-of_z w32 c.args.x x_fits in
    let P : Line → Type 0 = λ line. HasDecimated line samples in
    let fits : FitsSigned w32 c.weighted_mean-mean.result = search rules in
    let Q : Line → Type 0 = λ line. decimated line.factor (samples ++ c.args.x ∷ []) ≡ decimated line.factor samples ++ c.weighted_mean-mean.result ∷ [] in
    let room : s.len < length s.window = omega (arith, c.self.invariant.1, c.self.invariant.2) in
    let front = length-take-le s.len s.window (omega (arith, room)) in
    let whole = 2 * s.factor - 1 in
    let last : whole ≡ s.len + 1 = omega (arith, c.self.invariant.2) in
    let part : List ℤ = take whole (set s.window s.len x) in
    let part_is : part ≡ take s.len s.window ++ c.args.x ∷ [] =
    ap (λ n. take n (set s.window s.len x)) last ∙ take_more_set s.window s.len x room ∙ ap (λ z. take s.len s.window ++ z ∷ []) x_is in
    let mean : c.weighted_mean-mean.result ≡ weighted_mean s.factor (take s.len s.window ++ c.args.x ∷ []) =
    c.weighted_mean-mean.ensures.value ∙ ap (weighted_mean s.factor) part_is in
    let law = taken_whole s.factor samples (take s.len s.window) c.args.x c.self.invariant.0 (subst P (sym c.self.view_is) had) (omega (arith, front, last)) in
    let all : Q c.args.self.now = subst Q c.self.view_is (law.0 ∙ ap (λ m. decimated s.factor samples ++ m ∷ []) (sym mean)) in
    all ∙ ap (λ m. decimated c.args.self.now.factor samples ++ m ∷ []) (sym (to_z-of_z w32 c.weighted_mean-mean.result fits))
