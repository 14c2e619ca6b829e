use Rattle.std.proofs.Common.{◌≡◌, ◌++◌, [], length, ap, sym, subst, ◌∙◌, arith, cond}
use Rattle.std.proofs.lemmas.List.{get_or_append_left}
use Rattle.hk_spec_sound.specs.Groups.{rest_of}
use Rattle.hk_wire.specs.Held.{IsLast}
use Rattle.hk_station_wire.specs.LastPacket.{last_packet, last_segment}
use Rattle.hk_station_wire.specs.Taken.{unfinished_print}
use Rattle.hk_station_wire.proofs.Sounding.{behind, late}
use Rattle.hk_station_wire.proofs.reader.Reader.skip.Goals as goal

pub returns-clause-stands : goal.returns-clause-stands
returns-clause-stands c = λ limit text bytes h ahead count.
    let long = late limit text (length bytes) ahead in
    let all = behind bytes limit text ahead in
    let none : unfinished_print text ≡ [] = ap (λ carries. cond carries (rest_of 8 (last_segment text)) []) ahead.sound in
    let still_none : unfinished_print (text ++ bytes) ≡ [] = ap (λ carries. cond carries (rest_of 8 (last_segment (text ++ bytes))) []) all.ahead.sound in
    record {
      told = record {
        channels = λ further. h.told.channels (omega (arith, long)) ∙ sym (get_or_append_left text bytes 0 4 (omega (arith, long)));
        factor = λ further. h.told.factor (omega (arith, long)) ∙ sym (get_or_append_left text bytes 0 5 (omega (arith, long)));
      };
      packet = subst (IsLast c.skip.new.self) (sym all.packet) (c.skip.ensures.next (last_packet text) bytes h.packet ahead.begun count);
      group = h.group ∙ none ∙ sym still_none;
    }
