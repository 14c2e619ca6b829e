use Rattle.std.proofs.Common.{◌≡◌, ◌≤◌, ◌+◌, length, ap, sym, refl, ◌∙◌, arith, false, inl, inr}
use Rattle.std.specs.Prelude.{◌==◌}
use Rattle.std.specs.Int.{w16}
use Rattle.std.proofs.lemmas.Bool.Decides.{eqb_tells}
use Rattle.hk_spec_streams.specs.Grammar.{packet_size}
use Rattle.hk_wire.specs.Held.{length_in}
use Rattle.hk_wire.specs.declared.packet.LengthSize.TheVariants.{Two}
use Rattle.hk_station_wire.specs.Items.{carries_prints}
use Rattle.hk_station_wire.specs.LastPacket.{last_packet}
use Rattle.hk_station_wire.proofs.Sounding.{behind_hello}
use Rattle.hk_station_wire.proofs.reader.Reader.sound_ahead.Goals as goal

pub returns : goal.returns
returns c limit count text h none some few room =
    let came : c.count.result ≡ length (last_packet text) = c.count.ensures.bytes (last_packet text) h.packet in
    let came_so : c.count-2.result ≡ length (last_packet text) = c.count-2.ensures.bytes (last_packet text) h.packet in
    let begun : 12 ≤ length (last_packet text) = omega (arith, came, c.if-count-lt12.false) in
    let late : 6 ≤ length text = behind_hello text (omega (arith, begun)) in
    let told : c.length.result ≡ length_in Two (last_packet text) =
    c.length.ensures (last_packet text) h.packet ∙ ap (λ size. length_in size (last_packet text)) c.args.self.now.short_lengths in
    let size : packet_size w16 (last_packet text) ≡ 3 + length_in Two (last_packet text) = refl in
    let sound : carries_prints text ≡ false = elim (eqb_tells c.args.self.now.told.channels 0) [
      | inl no_sound ↦ absurd (omega (arith, c.if-self-eq0.false, no_sound.1))
      | inr channels ↦ ap (λ n. n == 0) (sym (h.told.channels (omega (arith, late)))) ∙ channels.0
    ] in
    record {
      no_fault = none;
      sound = sound;
      kind = sym (c.kind.ensures (last_packet text) h.packet) ∙ c.if-kind-ne-DATA.false;
      begun = begun;
      inside = omega (arith, few, came_so, told, size, c.saturating_sub.ensures, c.from-size.ensures);
      room = room;
    }
