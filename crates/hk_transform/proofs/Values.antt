-- Sums and differences of items, by their parts.
use Rattle.std.proofs.Common.{◌≡◌, ℤ, ◌+ℤ◌, ◌-ℤ◌, ◌*ℤ◌, pos, ap, ◌∙◌, arith}
use Rattle.hk_spec_sound.specs.Spectrum.{plus, minus}
use Rattle.hk_spec_sound.proofs.Spectra.{paired}
use Rattle.hk_transform.specs.declared.item.Item.{Item}
use Rattle.hk_transform.specs.Items.{value}

pub sum_of_parts : (even turned sum : Item) → sum.re ≡ even.re +ℤ turned.re → sum.im ≡ even.im +ℤ turned.im → value sum ≡ plus (value even, value turned)
sum_of_parts even turned sum re im = ap (λ z. paired (z, sum.im)) re ∙ ap (λ z. paired (even.re +ℤ turned.re, z)) im

pub difference_of_parts : (even turned difference : Item) → difference.re ≡ even.re -ℤ turned.re → difference.im ≡ even.im -ℤ turned.im
    → value difference ≡ minus (value even, value turned)
difference_of_parts even turned difference re im = ap (λ z. paired (z, difference.im)) re ∙ ap (λ z. paired (even.re -ℤ turned.re, z)) im

-- turned by the angle the other way round
pub turned_other : (a c b s : ℤ) → a *ℤ c +ℤ (b *ℤ (pos 0 -ℤ s)) ≡ a *ℤ c -ℤ (b *ℤ s)
turned_other a c b s = grind arith
