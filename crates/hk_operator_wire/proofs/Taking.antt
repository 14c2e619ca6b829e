-- What a wire that has met no fault takes of the next byte.
use Rattle.std.proofs.Common.{◌≡◌, ℕ, List, [], ◌∷◌, ◌++◌, refl, ◌∙◌, ap, Some, None}
use Rattle.std.specs.Option.{option_map_or, option_or}
use Rattle.hk_base.specs.declared.plain.WireFault.{WireFault}
use Rattle.hk_spec_streams.specs.Pieces.{first_met}
use Rattle.hk_spec_streams.specs.Operator.{operator_met, operator_fault}
use Rattle.hk_spec_streams.proofs.FirstFault.{fault_of-append}
use Rattle.hk_operator_wire.specs.declared.item.OpItem.TheVariants as items
use Rattle.hk_operator_wire.specs.declared.wire.OpWire.{OpWire}
use Rattle.hk_operator_wire.specs.Items.{last_command, item_of, op_item_at}
use Rattle.hk_operator_wire.specs.Taken.{HasTaken, IsGoodSoFar, limit_of}

pub no_text : (limit : ℕ) → operator_fault limit [] ≡ None
unfolding first_met
no_text limit = refl

pub item_at_fault : (limit : ℕ) (text : List ℕ) (fault : WireFault) → operator_fault limit text ≡ Some fault → op_item_at limit text ≡ items.Fault fault
unfolding op_item_at
item_at_fault limit text fault is = ap (λ o. option_map_or (λ f. items.Fault f) o (item_of (last_command text))) is

pub item_at_none : (limit : ℕ) (text : List ℕ) → operator_fault limit text ≡ None → op_item_at limit text ≡ item_of (last_command text)
unfolding op_item_at
item_at_none limit text is = ap (λ o. option_map_or (λ f. items.Fault f) o (item_of (last_command text))) is

-- where no fault was met, the fault is what the byte meets
pub fault_is : (limit : ℕ) (text : List ℕ) (b : ℕ) → operator_fault limit text ≡ None → operator_fault limit (text ++ b ∷ []) ≡ operator_met limit (text ++ b ∷ [])
fault_is limit text b none = fault_of-append (operator_met limit) text b ∙ ap (λ o. option_or o (operator_met limit (text ++ b ∷ []))) none

-- the last command of a text without a fault is in order
pub taken_in_order : (wire : OpWire) (text : List ℕ) → HasTaken wire text → operator_fault (limit_of wire) text ≡ None → IsGoodSoFar (last_command text)
taken_in_order wire text has none = (has.stands (has.keeps.fault_is ∙ none)).order
