use Rattle.std.proofs.Common.{◌≡◌, ℕ, List, [], ◌∷◌, ◌++◌, ◌∙◌, sym, ap, Option, Some, None}
use Rattle.std.specs.Option.{option_map_or}
use Rattle.hk_base.specs.declared.plain.WireFault.{WireFault}
use Rattle.hk_spec_streams.specs.Station.{station_met, station_fault}
use Rattle.hk_station_wire.specs.declared.item.Item.TheVariants.{Fault}
use Rattle.hk_station_wire.specs.Items.{item_at, item_of}
use Rattle.hk_wire.specs.Kept.{fault_kept}
use Rattle.hk_station_wire.proofs.MeetsFault.{met_limit}
use Rattle.hk_wire.proofs.StillKept.{no_such, fault_at}
use Rattle.hk_station_wire.proofs.wire.Wire.push.Goals as goal

-- what the text's fault says of the item
item_is : (limit : ℕ) (text : List ℕ) (fault : Option WireFault) → station_fault limit text ≡ fault
    → option_map_or (λ f. Fault f) fault (item_of text) ≡ item_at limit text
unfolding item_at
item_is limit text fault is = ap (λ o. option_map_or (λ f. Fault f) o (item_of text)) (sym is)

pub returns-in-Err-clause-item : goal.returns-in-Err-clause-item
returns-in-Err-clause-item c text has =
    item_is c.args.self.now.passage.limit (text ++ c.args.byte ∷ []) (Some c.in-Err.fault)
    (fault_at station_met c.next_place.new.self _ _ _ (c.in-Err.ensures.keeps station_met text c.args.byte met_limit has.keeps)
    c.next_place.ensures.limit_stays (sym c.in-Err.ensures.fault))

pub returns-in-Err-clause-taken : goal.returns-in-Err-clause-taken
returns-in-Err-clause-taken c text has = record {
  keeps = c.in-Err.ensures.keeps station_met text c.args.byte met_limit has.keeps;
  stands = λ none. absurd (no_such c.in-Err.fault (sym c.in-Err.ensures.fault) none);
}

pub returns-in-Ok-take-clause-item : goal.returns-in-Ok-take-clause-item
returns-in-Ok-take-clause-item c text has =
    let none : c.next_place.new.self.fault ≡ None = sym c.in-Ok.ensures.fault in
    let brings = c.in-Ok-take.ensures.brings c.next_place.new.self.limit text (c.in-Ok.ensures.at_end station_met text has.keeps) c.in-Ok.ensures.room
    (has.stands (sym (ap fault_kept c.in-Ok.ensures.same_place) ∙ none)) in
    brings.1 ∙ item_is c.args.self.now.passage.limit (text ++ c.args.byte ∷ []) None
    (fault_at station_met c.advance.new.self _ _ _
    (c.advance.ensures.keeps station_met text c.args.byte none (c.in-Ok.ensures.still_keeps station_met text has.keeps) brings.0)
    (c.advance.ensures.limit_stays ∙ c.next_place.ensures.limit_stays) (c.advance.ensures.same_fault ∙ none))

pub returns-in-Ok-take-clause-taken : goal.returns-in-Ok-take-clause-taken
returns-in-Ok-take-clause-taken c text has =
    let none : c.next_place.new.self.fault ≡ None = sym c.in-Ok.ensures.fault in
    let brings = c.in-Ok-take.ensures.brings c.next_place.new.self.limit text (c.in-Ok.ensures.at_end station_met text has.keeps) c.in-Ok.ensures.room
    (has.stands (sym (ap fault_kept c.in-Ok.ensures.same_place) ∙ none)) in
    record {
      keeps = c.advance.ensures.keeps station_met text c.args.byte none (c.in-Ok.ensures.still_keeps station_met text has.keeps) brings.0;
      stands = λ still. brings.2;
    }

pub returns-in-Err-take-clause-item : goal.returns-in-Err-take-clause-item
returns-in-Err-take-clause-item c text has =
    let none : c.next_place.new.self.fault ≡ None = sym c.in-Ok.ensures.fault in
    let wrong = c.in-Err-take.ensures.brings c.next_place.new.self.limit text (c.in-Ok.ensures.at_end station_met text has.keeps) c.in-Ok.ensures.room
    (has.stands (sym (ap fault_kept c.in-Ok.ensures.same_place) ∙ none)) in
    item_is c.args.self.now.passage.limit (text ++ c.args.byte ∷ []) (Some c.in-Err-take.fault)
    (fault_at station_met c.fail.new.self _ _ _
    (c.fail.ensures.keeps station_met text c.args.byte none (c.in-Ok.ensures.still_keeps station_met text has.keeps) wrong)
    (c.fail.ensures.limit_stays ∙ c.next_place.ensures.limit_stays) c.fail.ensures.fault)
