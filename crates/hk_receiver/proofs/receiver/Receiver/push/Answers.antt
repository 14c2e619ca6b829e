use Rattle.std.proofs.Common.{◌≡◌, ◌++◌, [], ◌∷◌, subst, sym, ◌∙◌, arith}
use Rattle.hk_spec_streams.specs.Station.{sent_prints, heard_form}
use Rattle.hk_station_wire.specs.declared.item.Item.TheVariants as item
use Rattle.hk_receiver.specs.Segment.{Gains}
use Rattle.hk_receiver.proofs.Holding.{nothing, hears_form, grows, stays, ends_gap, of_bytes}
use Rattle.hk_receiver.proofs.Telling.{full, some, said, brings, tells, fault_met, no_more}
use Rattle.hk_receiver.proofs.receiver.Receiver.push.Goals as goal

pub returns-in-Nothing-clause-tells : goal.returns-in-Nothing-clause-tells
returns-in-Nothing-clause-tells c = λ rules text h.
    let b = c.args.byte in
    let old = c.args.self.now in
    let set = full rules old text b h in
    let some_prints = some rules old text b h in
    let says = said rules old text b h item.Nothing (c.in-Nothing.ensures.item text h.bytes) in
    brings rules old text b h _ [] [] says.no_fault
    (nothing rules.setting set some_prints text b old.segment h.holds rules.bytes says)
    (c.in-Nothing.ensures.taken text h.bytes) c.in-Nothing.ensures.limit_stays (omega arith) (no_more _ _ says.same_fences)

pub returns-in-Hello-clause-tells : goal.returns-in-Hello-clause-tells
returns-in-Hello-clause-tells c = λ rules text h.
    let b = c.args.byte in
    let old = c.args.self.now in
    let set = full rules old text b h in
    let some_prints = some rules old text b h in
    let says = said rules old text b h (item.Hello c.in-Hello.form) (c.in-Hello.ensures.item text h.bytes) in
    brings rules old text b h _ [] [] says.no_fault
    (hears_form rules.setting set some_prints text b old.segment h.holds c.in-Hello.form rules.bytes says c.start.new.self c.start.ensures.same_number (c.start.ensures.empty rules.setting))
    (c.in-Hello.ensures.taken text h.bytes) c.in-Hello.ensures.limit_stays (omega arith) (no_more _ _ (says.fences_after ∙ sym says.fences_before))

pub returns-in-Byte-clause-tells : goal.returns-in-Byte-clause-tells
returns-in-Byte-clause-tells c = λ rules text h.
    let b = c.args.byte in
    let old = c.args.self.now in
    let set = full rules old text b h in
    let some_prints = some rules old text b h in
    let says = said rules old text b h (item.Byte c.in-Byte.sound) (c.in-Byte.ensures.item text h.bytes) in
    let gains = c.hear-full.ensures.gains rules.setting (heard_form text) h.holds.bytes says.sounds h.holds.has in
    tells rules old text b h _ c.hear-full.result c.count_block.result
    (λ counts. brings rules old text b h _ _ [] says.no_fault
    (grows rules.setting set some_prints text b old.segment h.holds says.gain says.same_form c.hear-full.new.self c.hear-full.result c.hear-full.ensures.same_number
    (subst (λ byte. Gains rules.setting (heard_form text) old.segment h.holds.bytes byte c.hear-full.result c.hear-full.new.self) says.is_last gains))
    (c.in-Byte.ensures.taken text h.bytes) c.in-Byte.ensures.limit_stays counts (no_more _ _ says.same_fences))
    c.count_block.ensures.counts c.count_block.ensures.tells

pub returns-in-Print-clause-tells : goal.returns-in-Print-clause-tells
returns-in-Print-clause-tells c = λ rules text h.
    let b = c.args.byte in
    let old = c.args.self.now in
    let set = full rules old text b h in
    let some_prints = some rules old text b h in
    let says = said rules old text b h (item.Print c.in-Print.print) (c.in-Print.ensures.item text h.bytes) in
    let sent = of_bytes rules.setting set some_prints text b old.segment h.holds says.gain says.same_form
    (λ bytes. sent_prints (bytes ++ b ∷ []) ≡ sent_prints bytes ++ c.in-Print.print ∷ []) says.sent in
    tells rules old text b h _ c.take-full.result c.count_block-in-Print.result
    (λ counts. brings rules old text b h _ _ [] says.no_fault
    (grows rules.setting set some_prints text b old.segment h.holds says.gain says.same_form c.take-full.new.self c.take-full.result c.take-full.ensures.same_number
    (c.take-full.ensures.gains rules.setting (heard_form text) h.holds.bytes b says.carries sent h.holds.has))
    (c.in-Print.ensures.taken text h.bytes) c.in-Print.ensures.limit_stays counts (no_more _ _ says.same_fences))
    c.count_block-in-Print.ensures.counts c.count_block-in-Print.ensures.tells

pub returns-in-Fence-clause-tells : goal.returns-in-Fence-clause-tells
returns-in-Fence-clause-tells c = λ rules text h.
    let b = c.args.byte in
    let old = c.args.self.now in
    let set = full rules old text b h in
    let some_prints = some rules old text b h in
    let says = said rules old text b h (item.Fence c.in-Fence.asked) (c.in-Fence.ensures.item text h.bytes) in
    brings rules old text b h _ [] (c.in-Fence.asked ∷ []) says.no_fault
    (stays rules.setting set some_prints text b old.segment h.holds says.same_form says.same_segments (says.no_gap_after ∙ sym says.no_gap_before))
    (c.in-Fence.ensures.taken text h.bytes) c.in-Fence.ensures.limit_stays (omega arith) says.more_fences

pub returns-in-Gap-clause-tells : goal.returns-in-Gap-clause-tells
returns-in-Gap-clause-tells c = λ rules text h.
    let b = c.args.byte in
    let old = c.args.self.now in
    let set = full rules old text b h in
    let some_prints = some rules old text b h in
    let says = said rules old text b h item.Gap (c.in-Gap.ensures.item text h.bytes) in
    brings rules old text b h _ [] [] says.no_fault
    (ends_gap rules.setting set some_prints text b old.segment h.holds rules.bytes says c.end.new.self c.end.ensures.next (c.end.ensures.empty rules.setting))
    (c.in-Gap.ensures.taken text h.bytes) c.in-Gap.ensures.limit_stays (omega arith) (no_more _ _ says.same_fences)

pub returns-in-Fault-clause-tells : goal.returns-in-Fault-clause-tells
returns-in-Fault-clause-tells c = λ rules text h. fault_met rules c.args.self.now text c.args.byte h c.in-Fault.fault (c.in-Fault.ensures.item text h.bytes)
