use Rattle.std.proofs.Common.{rules, ◌≡◌, ◌∙◌, ◌-◌, sym, ap, false, cond, pos, int_lt, get_or, arith, drop, length, FitsSigned}
use Rattle.std.specs.Int.{w128}
use Rattle.std.proofs.lemmas.Int.{to_z-of_z}
use Rattle.hk_spec_sound.specs.Numbers.{number_of_bits}
use Rattle.hk_weak.proofs.Bits.{bool_byte-cond, bool_byte-le, number_of_bits-drop, number_of_bits-none, number_of_bits-lt}
use Rattle.hk_subprint.proofs.Signs.{signs, word_of-signs, length-signs, get_or-signs}
use Rattle.hk_subprint.proofs.print.word_of.Goals as goal

pub loop-m-init : goal.loop-m-init
loop-m-init c = sym (number_of_bits-none (signs c.args.d.now) 32 (omega (arith, length-signs c.args.d.now)))

pub overflow_mul-word : goal.overflow_mul-word
overflow_mul-word c =
    let all : length (signs c.args.d.now) ≡ 32 = omega (arith, length-signs c.args.d.now) in
    omega (arith, number_of_bits-lt (signs c.args.d.now) c.loop-m.m all (omega arith))

pub overflow_add-word : goal.overflow_add-word
overflow_add-word c =
    let all : length (signs c.args.d.now) ≡ 32 = omega (arith, length-signs c.args.d.now) in
    omega (arith, number_of_bits-lt (signs c.args.d.now) c.loop-m.m all (omega arith), c.from.ensures, bool_byte-le)

pub loop-m-preserved : goal.loop-m-preserved
loop-m-preserved c =
    let ds = c.args.d.now in
    let m = c.loop-m.m in
    let d = get_or ds (m - 1) (pos 0) in
    let fits : FitsSigned w128 d = search rules in
    let sign = simp to_z-of_z at c.from.ensures in
    let bit = sign ∙ bool_byte-cond (int_lt (pos 0) d) ∙ ap (λ b. cond b 1 0) (sym (get_or-signs ds (m - 1) false (omega arith))) in
    let more = number_of_bits-drop (signs ds) (m - 1) m (omega arith) (omega (arith, length-signs ds)) in
    omega arith

pub returns : goal.returns
returns c =
    let all : c.loop-m.m ≡ 0 = omega arith in
    c.loop-m.invariant ∙ ap (λ m. number_of_bits (drop m (signs c.args.d.now))) all ∙ sym (word_of-signs c.args.d.now)
