-- What the ring then has, and the frame that a sample completes, follow from what it has taken.
use Rattle.std.proofs.Common.{◌≡◌, ◌-◌, ◌++◌, [], ◌∷◌, ℤ, length, ap, sym, subst, ◌∙◌, arith, w32}
use Rattle.std.proofs.lemmas.Int.{to_z-of_z}
use Rattle.std.proofs.lemmas.List.{append-nil}
use Rattle.std.proofs.lemmas.List.Elements.{All-drop, All-append, All-same, All-cons, All-nil}
use Rattle.circular_buffer.specs.Buffer.{Buffer, buffer, keep_last}
use Rattle.hk_spec_sound.specs.Ranges.{IsSample}
use Rattle.hk_frames.specs.Recent.{Recent, HasLastSamples, FRAME_LEN, frames_of}
use Rattle.hk_frames.proofs.Taking.{taken_whole, taken_part, length-keep_last}
use Rattle.hk_frames.proofs.ring.Frames.push.Goals as goal

-- the buffer's items, where it has room for one frame
kept : (old new : Buffer ℤ) (y x : ℤ) → new ≡ buffer (keep_last old.capacity (old.items ++ x ∷ [])) old.capacity → old.capacity ≡ FRAME_LEN → x ≡ y
    → new.items ≡ keep_last FRAME_LEN (old.items ++ y ∷ [])
kept old new y x is room same =
    ap (λ b. b.items) is ∙ ap (λ n. keep_last n (old.items ++ x ∷ [])) room ∙ ap (λ z. keep_last FRAME_LEN (old.items ++ z ∷ [])) same

pub returns-then-self-gt0-clause-taken : goal.returns-then-self-gt0-clause-taken
returns-then-self-gt0-clause-taken c = λ samples has.
    let y = c.args.y in
    let was : Recent = record { last = c.self.inside.last.items; missing = c.self.inside.missing } in
    let last = kept c.self.inside.last c.push_back.new.self y _ c.push_back.ensures.items c.self.invariant.0 (to_z-of_z w32 y c.ranges.y) in
    (taken_part was c.push_back.new.self.items samples y last (omega arith) (subst (λ (r : Recent). HasLastSamples r samples) (sym c.self.view_is) has)).0

pub returns-then-self-gt0-clause-completes : goal.returns-then-self-gt0-clause-completes
returns-then-self-gt0-clause-completes c = λ samples has.
    let y = c.args.y in
    let was : Recent = record { last = c.self.inside.last.items; missing = c.self.inside.missing } in
    let last = kept c.self.inside.last c.push_back.new.self y _ c.push_back.ensures.items c.self.invariant.0 (to_z-of_z w32 y c.ranges.y) in
    (taken_part was c.push_back.new.self.items samples y last (omega arith) (subst (λ (r : Recent). HasLastSamples r samples) (sym c.self.view_is) has)).1

pub returns-then-self-gt0-clause-frame : goal.returns-then-self-gt0-clause-frame
returns-then-self-gt0-clause-frame c = λ samples has.
    let y = c.args.y in
    let was : Recent = record { last = c.self.inside.last.items; missing = c.self.inside.missing } in
    let last = kept c.self.inside.last c.push_back.new.self y _ c.push_back.ensures.items c.self.invariant.0 (to_z-of_z w32 y c.ranges.y) in
    (taken_part was c.push_back.new.self.items samples y last (omega arith) (subst (λ (r : Recent). HasLastSamples r samples) (sym c.self.view_is) has)).2
    ∙ sym (append-nil (frames_of samples))

pub invariant_of-self-2 : goal.invariant_of-self-2
invariant_of-self-2 c =
    let y = c.args.y in
    let was = c.self.inside.last.items in
    let last = kept c.self.inside.last c.push_back.new.self y _ c.push_back.ensures.items c.self.invariant.0 (to_z-of_z w32 y c.ranges.y) in
    let after = ap length last ∙ length-keep_last FRAME_LEN was y in
    let all = All-append IsSample was (y ∷ []) c.self.invariant.5 (All-cons IsSample y [] c.requires (All-nil IsSample)) in (
      ap (λ b. b.capacity) c.push_back.ensures.items ∙ c.self.invariant.0,
      omega arith,
      omega arith,
      omega (arith, after, c.self.invariant.3),
      omega (arith, after, c.self.invariant.4),
      All-same IsSample c.push_back.new.self.items (keep_last FRAME_LEN (was ++ y ∷ [])) last (All-drop IsSample (length (was ++ y ∷ []) - FRAME_LEN) (was ++ y ∷ []) all),
    )

pub returns-clause-taken : goal.returns-clause-taken
returns-clause-taken c = λ samples has.
    let y = c.args.y in
    let was : Recent = record { last = c.self.inside.last.items; missing = c.self.inside.missing } in
    let last = kept c.self.inside.last c.push_back.new.self y _ c.push_back.ensures.items c.self.invariant.0 (to_z-of_z w32 y c.ranges.y) in
    (taken_whole was c.push_back.new.self.items samples y last (omega (arith, c.self.invariant.1)) (subst (λ (r : Recent). HasLastSamples r samples) (sym c.self.view_is) has)).0

pub returns-clause-completes : goal.returns-clause-completes
returns-clause-completes c = λ samples has.
    let y = c.args.y in
    let was : Recent = record { last = c.self.inside.last.items; missing = c.self.inside.missing } in
    let last = kept c.self.inside.last c.push_back.new.self y _ c.push_back.ensures.items c.self.invariant.0 (to_z-of_z w32 y c.ranges.y) in
    (taken_whole was c.push_back.new.self.items samples y last (omega (arith, c.self.invariant.1)) (subst (λ (r : Recent). HasLastSamples r samples) (sym c.self.view_is) has)).1

pub returns-clause-frame : goal.returns-clause-frame
returns-clause-frame c = λ samples has.
    let y = c.args.y in
    let was : Recent = record { last = c.self.inside.last.items; missing = c.self.inside.missing } in
    let last = kept c.self.inside.last c.push_back.new.self y _ c.push_back.ensures.items c.self.invariant.0 (to_z-of_z w32 y c.ranges.y) in
    (taken_whole was c.push_back.new.self.items samples y last (omega (arith, c.self.invariant.1)) (subst (λ (r : Recent). HasLastSamples r samples) (sym c.self.view_is) has)).2
