use Rattle.std.proofs.Common.{◌≡◌, ◌∙◌, ◌-◌, ◌≤◌, ℕ, subst, sym, ap, false, cond, nat_lt, arith, drop, length}
use Rattle.std.specs.Int.RustNames.{count_ones}
use Rattle.hk_spec_sound.specs.Numbers.{number_of_bits}
use Rattle.hk_spec_sound.specs.Prints.{mask_of}
use Rattle.hk_weak.proofs.Bits.{bool_byte-cond, bool_byte-le, number_of_bits-drop, number_of_bits-none, number_of_bits-lt}
use Rattle.hk_weak.proofs.FewBits.{count_ones-mask_of}
use Rattle.hk_weak.proofs.WeakBits.{weak_bits, mask_of-weak_bits, length-weak_bits, get_or-weak_bits}
use Rattle.hk_weak.proofs.ranks.weakest.Goals as goal

pub loop-m-init : goal.loop-m-init
loop-m-init c = sym (number_of_bits-none (weak_bits c.args.k c.args.d.now) 32 (omega (arith, length-weak_bits c.args.k c.args.d.now)))

pub overflow_mul-mask : goal.overflow_mul-mask
overflow_mul-mask c =
    let bits = weak_bits c.args.k c.args.d.now in
    let all : length bits ≡ 32 = omega (arith, length-weak_bits c.args.k c.args.d.now) in
    omega (arith, number_of_bits-lt bits c.loop-m.m all (omega arith))

pub overflow_add-mask : goal.overflow_add-mask
overflow_add-mask c =
    let bits = weak_bits c.args.k c.args.d.now in
    let all : length bits ≡ 32 = omega (arith, length-weak_bits c.args.k c.args.d.now) in
    omega (arith, number_of_bits-lt bits c.loop-m.m all (omega arith), c.from.ensures, bool_byte-le)

pub loop-m-preserved : goal.loop-m-preserved
loop-m-preserved c =
    let ds = c.args.d.now in
    let flips = c.args.k in
    let m = c.loop-m.m in
    let bits = weak_bits flips ds in
    let bit = c.from.ensures ∙ bool_byte-cond (nat_lt c.rank.result flips) ∙ ap (λ n. cond (nat_lt n flips) 1 0) c.rank.ensures
    ∙ ap (λ b. cond b 1 0) (sym (get_or-weak_bits flips ds (m - 1) false (omega arith))) in
    let more = number_of_bits-drop bits (m - 1) m (omega arith) (omega (arith, length-weak_bits flips ds)) in
    omega arith

pub returns : goal.returns
returns c =
    let ds = c.args.d.now in
    let flips = c.args.k in
    let all : c.loop-m.m ≡ 0 = omega arith in
    let is : c.loop-m.mask ≡ mask_of flips ds =
    c.loop-m.invariant ∙ ap (λ m. number_of_bits (drop m (weak_bits flips ds))) all ∙ sym (mask_of-weak_bits flips ds) in
    let P : ℕ → Type 0 = λ mask. count_ones mask ≤ flips in
    record { mask = is; few = subst P (sym is) (count_ones-mask_of flips ds) }
