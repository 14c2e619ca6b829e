use Rattle.std.proofs.Common.{arith, drop, ◌≡◌, ◌∙◌, ◌++◌, ◌∷◌, [], ap, sym, refl, true, false, inl, inr}
use Rattle.std.specs.Prelude.{◌==◌}
use Rattle.std.proofs.lemmas.Bool.{eq-eqb}
use Rattle.std.proofs.lemmas.Bool.Decides.{eqb_tells}
use Rattle.hk_station_wire.specs.LastPacket.{last_packet}
use Rattle.hk_station_wire.specs.Items.{carries_prints}
use Rattle.hk_station_wire.proofs.reader.Reader.take_packet.Goals as goal
use Rattle.hk_station_wire.proofs.MeetsFault.{be_four}
use Rattle.hk_station_wire.proofs.Behind.{in_packet, head_meets, brings_other, brings_gap_begin, brings_gap_end, brings_fence, brings_sound, brings_outcome}

pub returns-in-Some-clause-brings : goal.returns-in-Some-clause-brings
returns-in-Some-clause-brings c limit text place room has =
    let look = in_packet limit text c.args.byte c.args.self.now c.args.place _ _ _ place c.requires room has c.count-count.ensures.bytes c.kind-kind.ensures c.length.ensures in
    head_meets limit text c.args.byte c.args.self.now _ _ _ _ look c.in-Some.fault (sym c.in-Some.ensures)

pub returns-in-Data-clause-brings : goal.returns-in-Data-clause-brings
returns-in-Data-clause-brings c limit text place room has =
    let look = in_packet limit text c.args.byte c.args.self.now c.args.place _ _ _ place c.requires room has c.count-count.ensures.bytes c.kind-kind.ensures c.length.ensures in
    let sound : carries_prints text ≡ false = elim (eqb_tells c.args.self.now.told.channels 0) [
      | inl none ↦ absurd (c.if-self-ne0.true none.1)
      | inr some ↦ ap (λ n. n == 0) (sym (has.told.channels (omega (arith, place, c.requires)))) ∙ some.0
    ] in
    brings_sound limit text c.args.byte c.args.self.now _ _ _ _ look _ (sym c.in_default.ensures) (sym c.in-Data.ensures) sound refl refl refl

pub returns-in-Data-2-clause-brings : goal.returns-in-Data-2-clause-brings
returns-in-Data-2-clause-brings c limit text place room has =
    let look = in_packet limit text c.args.byte c.args.self.now c.args.place _ _ _ place c.requires room has c.count-count.ensures.bytes c.kind-kind.ensures c.length.ensures in
    let prints : carries_prints text ≡ true = eq-eqb _ 0 (sym (has.told.channels (omega (arith, place, c.requires))) ∙ c.if-self-ne0.false) in
    brings_outcome limit text c.args.byte c.args.self.now _ _ _ _ look (sym c.in_default.ensures) (sym c.in-Data.ensures) prints _ refl refl c.take_print.ensures.left _ c.take_print.ensures.outcome

pub returns-in-FenceEnd-clause-brings : goal.returns-in-FenceEnd-clause-brings
returns-in-FenceEnd-clause-brings c limit text place room has =
    let look = in_packet limit text c.args.byte c.args.self.now c.args.place _ _ _ place c.requires room has c.count-count.ensures.bytes c.kind-kind.ensures c.length.ensures in
    brings_fence limit text c.args.byte c.args.self.now _ _ _ _ look _ _ (sym c.in_default.ensures) (sym c.in-FenceEnd.ensures) (c.number.ensures _ has.packet ∙ be_four (drop 3 (last_packet (text ++ c.args.byte ∷ [])))) refl refl refl

pub returns-in-GapBegin-clause-brings : goal.returns-in-GapBegin-clause-brings
returns-in-GapBegin-clause-brings c limit text place room has =
    let look = in_packet limit text c.args.byte c.args.self.now c.args.place _ _ _ place c.requires room has c.count-count.ensures.bytes c.kind-kind.ensures c.length.ensures in
    brings_gap_begin limit text c.args.byte c.args.self.now _ _ _ _ look _ (sym c.in_default.ensures) (sym c.in-GapBegin.ensures) refl refl c.new-self.ensures

pub returns-in-GapEnd-clause-brings : goal.returns-in-GapEnd-clause-brings
returns-in-GapEnd-clause-brings c limit text place room has =
    let look = in_packet limit text c.args.byte c.args.self.now c.args.place _ _ _ place c.requires room has c.count-count.ensures.bytes c.kind-kind.ensures c.length.ensures in
    brings_gap_end limit text c.args.byte c.args.self.now _ _ _ _ look _ (sym c.in_default.ensures) (sym c.in-GapEnd.ensures) refl refl refl

pub returns-in-Other-clause-brings : goal.returns-in-Other-clause-brings
returns-in-Other-clause-brings c limit text place room has =
    let look = in_packet limit text c.args.byte c.args.self.now c.args.place _ _ _ place c.requires room has c.count-count.ensures.bytes c.kind-kind.ensures c.length.ensures in
    brings_other limit text c.args.byte c.args.self.now _ _ _ _ look _ (sym c.in_default.ensures) (sym c.in-Other.ensures) refl refl refl
