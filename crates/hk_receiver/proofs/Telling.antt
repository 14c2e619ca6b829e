-- What a push tells, by the item that the wire brought.
use Rattle.std.proofs.Common.{◌≡◌, ℕ, ◌+◌, ◌<◌, List, [], ◌∷◌, ◌++◌, length, sym, ◌∙◌, ap, subst, arith, length-append, Bool, true, false, cond, Some}
use Rattle.std.proofs.lemmas.List.{append-nil}
use Rattle.std.specs.Option.{option_or}
use Rattle.hk_base.specs.declared.plain.WireFault.{WireFault}
use Rattle.hk_spec_sound.specs.Prints.{full_analysis}
use Rattle.hk_spec_streams.specs.Station.{fences, station_met}
use Rattle.hk_spec_streams.specs.Blocks.{Block, blocks}
use Rattle.hk_spec_streams.proofs.NextFault.{fault_of-before}
use Rattle.hk_spec_streams.proofs.FirstFault.{fault_of-append}
use Rattle.hk_spec_settings.specs.Settings.{Rules}
use Rattle.hk_station_wire.specs.declared.item.Item.{Item}
use Rattle.hk_station_wire.specs.declared.item.Item.TheVariants as item
use Rattle.hk_station_wire.specs.Taken as wires
use Rattle.hk_station_wire.specs.Items.{item_at, Says}
use Rattle.hk_station_wire.specs.Says.{NoFault}
use Rattle.hk_station_wire.proofs.ItemLaws.{item_tells}
use Rattle.hk_block.specs.Ring.{BLOCK_SIZE, block_in}
use Rattle.hk_receiver.specs.declared.receiver.Receiver.{Receiver}
use Rattle.hk_receiver.specs.declared.receiver.Received.{Received}
use Rattle.hk_receiver.specs.declared.receiver.Received.TheVariants as received
use Rattle.hk_receiver.specs.Received.{HasReceived, Brings, Tells, fences_at}
use Rattle.hk_receiver.proofs.Holding.{Step}

module _ (rules : Rules) (old : Receiver) (text : List ℕ) (b : ℕ) (h : HasReceived rules old text) where
  pub full : rules.setting.analysis ≡ full_analysis
  full = h.holds.has.set.analysis

  pub some : 0 < rules.setting.block.size
  some = let size : rules.setting.block.size ≡ BLOCK_SIZE = h.holds.has.set.cuts.size in omega (arith, size)

  -- what the wire's item says of the text
  pub said : (i : Item) → i ≡ item_at (wires.limit_of old.wire) (text ++ b ∷ []) → Says i rules.bytes text b
  said i is = item_tells i rules.bytes text b (is ∙ ap (λ n. item_at n (text ++ b ∷ [])) h.limit)

  -- a byte without a fault
  pub brings : (new : Receiver) (more : List Block) (asks : List ℕ) → NoFault rules.bytes text b
      → Step rules.setting full some text b old.segment h.holds new.segment more → wires.HasTaken new.wire (text ++ b ∷ [])
      → wires.limit_of new.wire ≡ wires.limit_of old.wire → new.blocks ≡ old.blocks + length more
      → fences (text ++ b ∷ []) ≡ fences text ++ fences_at (length text) asks → Brings rules text b new more asks
  brings new more asks none step taken limit counts asked = record {
    meets_none = (fault_of-before (station_met rules.bytes) text b none.after).1;
    goes_on = record {
      limit = limit ∙ h.limit;
      bytes = taken;
      no_fault = none.after;
      holds = step.holds;
      blocks_are = counts ∙ ap (λ k. k + length more) h.blocks_are ∙ sym (ap length step.more_blocks ∙ length-append (blocks rules.setting text) more);
    };
    more_blocks = step.more_blocks;
    more_fences = asked;
  }

  -- a byte that may complete a block
  pub tells : (new : Receiver) (full_block : Bool) (told : Received)
      → (new.blocks ≡ old.blocks + length (cond full_block (block_in new.segment.number new.segment.ring ∷ []) [])
      → Brings rules text b new (cond full_block (block_in new.segment.number new.segment.ring ∷ []) []) [])
      → new.blocks ≡ old.blocks + cond full_block 1 0 → told ≡ cond full_block received.Block received.Nothing → Tells told rules text b new
  tells new true told brought counts is = subst (λ r. Tells r rules text b new) (sym is) (brought counts)
  tells new false told brought counts is = subst (λ r. Tells r rules text b new) (sym is) (brought counts)

  -- the fault that the byte meets
  pub fault_met : (fault : WireFault) → item.Fault fault ≡ item_at (wires.limit_of old.wire) (text ++ b ∷ []) → station_met rules.bytes (text ++ b ∷ []) ≡ Some fault
  fault_met fault is =
      sym (ap (λ o. option_or o (station_met rules.bytes (text ++ b ∷ []))) h.no_fault) ∙ sym (fault_of-append (station_met rules.bytes) text b) ∙ (said (item.Fault fault) is).is_fault

pub no_more : {A : Type 0} (xs ys : List A) → ys ≡ xs → ys ≡ xs ++ []
no_more xs ys is = is ∙ sym (append-nil xs)
