-- What a byte of the hello brings.
use Rattle.std.proofs.Common.{◌≡◌, ℕ, zero, suc, ◌+◌, ◌<◌, List, [], ◌∷◌, ◌++◌, length, subst, refl, sym, ◌∙◌, ap, arith, length-append, true, false, inl, inr, None, Some, cond, slice_index}
use Rattle.std.proofs.lemmas.Bool.{eq-eqb}
use Rattle.std.proofs.lemmas.Bool.Decides.{eqb_tells}
use Rattle.std.proofs.Math.Seq.{get_or-append_seam}
use Rattle.std.specs.Prelude.{◌==◌, Ok}
use Rattle.hk_base.specs.declared.plain.WireFault.TheVariants.{BadHello}
use Rattle.hk_spec_streams.specs.Pieces.{pieces_within}
use Rattle.hk_spec_streams.specs.Grammar.{packets}
use Rattle.hk_spec_streams.specs.Station.{station_met, channels_of, factor_of, segments, form_of, hello_allows}
use Rattle.hk_station_wire.specs.LastPacket.{last_packet}
use Rattle.hk_station_wire.specs.declared.item.Item.{Item}
use Rattle.hk_station_wire.specs.declared.item.Item.TheVariants as item
use Rattle.hk_wire.specs.declared.packet.LastPacket.{LastPacket}
use Rattle.hk_station_wire.specs.declared.reader.Reader.{Reader}
use Rattle.hk_wire.specs.Held.{IsLast, gathered}
use Rattle.hk_station_wire.specs.Taken.{StandsAfter, TellsItem}
use Rattle.hk_station_wire.proofs.LastItems.{hello_item, hello_packet, hello_unfinished}
use Rattle.hk_station_wire.proofs.MeetsFault.{met_hello}

-- no byte at all
pub none_taken : (reader : Reader) → IsLast reader.packet [] → gathered reader.group ≡ [] → StandsAfter reader []
unfolding packets segments pieces_within
none_taken reader packet group = record {
  told = record { channels = λ h. absurd (omega arith); factor = λ h. absurd (omega arith) };
  packet = packet;
  group = group;
}

same_test : (m n : ℕ) → n ≡ m + 1 → (n == 6) ≡ (m == 5)
same_test m n is = elim (eqb_tells m 5) [
  | inl five ↦ eq-eqb n 6 (omega (arith, is, five.1)) ∙ sym five.0
  | inr other ↦ elim (eqb_tells n 6) [ inl six ↦ absurd (omega (arith, is, six.1, other.1)) | inr isnt ↦ isnt.0 ∙ sym other.0 ]
]

-- the channels matter at the factor alone
same_hello : (place c d byte : ℕ) → (4 < place → c ≡ d) → hello_allows place c byte ≡ hello_allows place d byte
same_hello zero c d byte h = refl
same_hello (suc zero) c d byte h = refl
same_hello (suc (suc zero)) c d byte h = refl
same_hello (suc (suc (suc zero))) c d byte h = refl
same_hello (suc (suc (suc (suc zero)))) c d byte h = refl
same_hello (suc (suc (suc (suc (suc n))))) c d byte h = ap (λ k. hello_allows (suc (suc (suc (suc (suc n))))) k byte) (h (omega arith))

pub hello_meets : (limit : ℕ) (text : List ℕ) (b : ℕ) (old : Reader) → length text < 6 → length text < limit → StandsAfter old text
    → hello_allows (length text) old.told.channels b ≡ false → station_met limit (text ++ b ∷ []) ≡ Some (BadHello (length text))
hello_meets limit text b old early room stands refused =
    met_hello limit text b early room
    ∙ ap (λ c. cond c None (Some (BadHello (length text)))) (sym (same_hello (length text) old.told.channels (slice_index text 4) b stands.told.channels) ∙ refused)

-- an allowed byte of the hello, which leaves the packet and the unfinished print
pub hello_brings : (limit : ℕ) (text : List ℕ) (b : ℕ) (old new : Reader) (brought : Item) → length text < 6 → length text < limit
    → StandsAfter old text → hello_allows (length text) old.told.channels b ≡ true → new.packet ≡ old.packet → new.group ≡ old.group
    → (4 < length text + 1 → new.told.channels ≡ channels_of (text ++ b ∷ [])) → (5 < length text + 1 → new.told.factor ≡ factor_of (text ++ b ∷ []))
    → brought ≡ cond (length text == 5) (item.Hello (form_of (text ++ b ∷ []))) item.Nothing
    → TellsItem (Ok brought) new limit (text ++ b ∷ [])
hello_brings limit text b old new brought early room stands allowed same_packet same_group channels factor is =
    let t : List ℕ = text ++ b ∷ [] in
    let long : length (text ++ b ∷ []) ≡ length text + 1 = length-append text (b ∷ []) in
    let at : (length (text ++ b ∷ []) == 6) ≡ (length text == 5) = same_test (length text) (length (text ++ b ∷ [])) long in (
      met_hello limit text b early room ∙ ap (λ c. cond c None (Some (BadHello (length text)))) (sym (same_hello (length text) old.told.channels (slice_index text 4) b stands.told.channels) ∙ allowed),
      is ∙ sym (hello_item text b early ∙ ap (λ c. cond c (item.Hello (form_of t)) item.Nothing) at),
      record {
        told = record { channels = λ h. channels (omega (arith, h, long)); factor = λ h. factor (omega (arith, h, long)) };
        packet = let P : LastPacket → Type 0 = λ packet. IsLast packet (last_packet t) in
            let Q : List ℕ → Type 0 = λ bytes. IsLast old.packet bytes in
            subst P (sym same_packet) (subst Q (hello_packet text (omega arith) ∙ sym (hello_packet t (omega (arith, long)))) stands.packet);
        group = ap gathered same_group ∙ stands.group ∙ hello_unfinished text (omega arith) ∙ sym (hello_unfinished t (omega (arith, long)));
      },
    )

pub here : (text : List ℕ) (b n : ℕ) → n ≡ length text → slice_index (text ++ b ∷ []) n ≡ b
here text b n is = ap (slice_index (text ++ b ∷ [])) is ∙ get_or-append_seam text b [] 0

pub form_is : (text : List ℕ) (b channels factor : ℕ) → 5 ≡ length text → channels ≡ channels_of (text ++ b ∷ []) → factor ≡ factor_of (text ++ b ∷ [])
    → item.Hello (record { channels = channels; factor = factor }) ≡ cond (length text == 5) (item.Hello (form_of (text ++ b ∷ []))) item.Nothing
form_is text b channels factor five c f =
    let made : ℕ → ℕ → Item = λ x y. item.Hello (record { channels = x; factor = y }) in
    ap (λ x. made x factor) c ∙ ap (made (channels_of (text ++ b ∷ []))) f
    ∙ sym (ap (λ t. cond t (item.Hello (form_of (text ++ b ∷ []))) item.Nothing) (eq-eqb (length text) 5 (sym five)))

pub not_five : (text : List ℕ) (b : ℕ) → length text < 5 → item.Nothing ≡ cond (length text == 5) (item.Hello (form_of (text ++ b ∷ []))) item.Nothing
not_five text b less = elim (eqb_tells (length text) 5) [
  | inl five ↦ absurd (omega (arith, five.1, less))
  | inr other ↦ sym (ap (λ t. cond t (item.Hello (form_of (text ++ b ∷ []))) item.Nothing) other.0)
]
