-- Bytes of sound within their packet, whatever they are.
use Rattle.std.proofs.Common.{◌≡◌, ℕ, suc, ◌+◌, ◌<◌, ◌≤◌, List, [], ◌∷◌, ◌++◌, length, refl, sym, ◌∙◌, ap, subst, arith, length-append, append-nil, append_assoc, Bool, false, inl, inr, None, Some, cond, slice_index}
use Rattle.std.proofs.lemmas.List.{get_or_append_left}
use Rattle.std.proofs.lemmas.Bool.{lt-ltb, ne_eqb}
use Rattle.std.proofs.lemmas.Bool.Decides.{leb_tells}
use Rattle.std.specs.Prelude.{◌==◌, ◌&&◌, ◌||◌, nat_lt, count_ones, is_some, Option}
use Rattle.std.specs.Int.{w16}
use Rattle.std.specs.Option.{option_or, option_map_or}
use Rattle.std.specs.List.{list_any}
use Rattle.hk_base.specs.declared.plain.WireFault.TheVariants.{BadMask}
use Rattle.hk_spec_streams.specs.Grammar.{packet_size}
use Rattle.hk_spec_streams.specs.Pieces.{completed, first_that_holds}
use Rattle.hk_spec_streams.specs.Station.{station_fault, station_met, DATA}
use Rattle.hk_spec_streams.proofs.FirstFault.{fault_of-none}
use Rattle.hk_spec_streams.proofs.GrowingPackets.{over}
use Rattle.hk_station_wire.specs.declared.item.Item.TheVariants.{Byte, Fault}
use Rattle.hk_station_wire.specs.declared.reader.Part.TheVariants.{Data, Other}
use Rattle.hk_station_wire.specs.Items.{item_at, item_of, carries_prints}
use Rattle.hk_station_wire.specs.LastPacket.{last_packet, all_sent_prints}
use Rattle.hk_station_wire.specs.Sounding.{AreSound, SoundAhead}
use Rattle.hk_station_wire.specs.Steps.{head_fault, part_of}
use Rattle.hk_station_wire.proofs.Behind.{none_passes}
use Rattle.hk_station_wire.proofs.GrowingSegments.{last_packet-next}
use Rattle.hk_station_wire.proofs.LastItems.{carries_as_before, hello_packet, sound_item}
use Rattle.hk_station_wire.proofs.MeetsFault.{met_packet, bad_print}
use Rattle.hk_station_wire.proofs.Parts.{Says, says}
use Rattle.hk_wire.specs.Held.{length_in}
use Rattle.hk_wire.specs.declared.packet.LengthSize.TheVariants.{Two}

-- neither of two tests passes
none_holds : {A : Type 0} (a b x y : Bool) (u v : A) → a ≡ false → b ≡ false → first_that_holds ((a && x, u) ∷ (b && y, v) ∷ []) ≡ None
none_holds a b x y u v first second =
    ap (λ t. first_that_holds ((t && x, u) ∷ (b && y, v) ∷ [])) first ∙ ap (λ t. first_that_holds ((t && y, v) ∷ [])) second

-- a packet's size is told by its first bytes
same_size : (bytes more : List ℕ) → 3 ≤ length bytes → packet_size w16 (bytes ++ more) ≡ packet_size w16 bytes
same_size [] more some = absurd (omega (arith, some))
same_size (a ∷ []) more some = absurd (omega (arith, some))
same_size (a ∷ b ∷ []) more some = absurd (omega (arith, some))
same_size (a ∷ b ∷ c ∷ bytes) more some = refl

-- a packet that has begun stands behind the hello
pub behind_hello : (text : List ℕ) → 0 < length (last_packet text) → 6 ≤ length text
behind_hello text some = elim (leb_tells 6 (length text)) [
  | inl enough ↦ enough.1
  | inr early ↦
      let none : length (last_packet text) ≡ 0 = ap length (hello_packet text (omega (arith, early.1))) in
      absurd (omega (arith, none, some))
]

pub late : (limit : ℕ) (text : List ℕ) (n : ℕ) → SoundAhead limit text n → 6 ≤ length text
late limit text n ahead = behind_hello text (omega (arith, ahead.begun))

pub fewer : (limit : ℕ) (text : List ℕ) (n m : ℕ) → m ≤ n → SoundAhead limit text n → SoundAhead limit text m
fewer limit text n m few ahead = record {
  no_fault = ahead.no_fault;
  sound = ahead.sound;
  kind = ahead.kind;
  begun = ahead.begun;
  inside = omega (arith, ahead.inside, few);
  room = omega (arith, ahead.room, few);
}

-- one byte
module _ (limit : ℕ) (text : List ℕ) (b n : ℕ) (ahead : SoundAhead limit text (suc n)) where
  goes_on : over (packet_size w16) (last_packet text) ≡ false
  goes_on = ap (λ t. t || (packet_size w16 (last_packet text) == length (last_packet text))) (ne_eqb (length (last_packet text)) 0 (λ none. omega (arith, none, ahead.begun)))
      ∙ ne_eqb (packet_size w16 (last_packet text)) (length (last_packet text)) (λ whole. omega (arith, whole, ahead.inside))

  pub grown : last_packet (text ++ b ∷ []) ≡ last_packet text ++ b ∷ []
  grown = last_packet-next text b (late limit text (suc n) ahead) ∙ ap (λ t. cond t (b ∷ []) (last_packet text ++ b ∷ [])) goes_on

  longer : length (last_packet (text ++ b ∷ [])) ≡ length (last_packet text) + 1
  longer = ap length grown ∙ length-append (last_packet text) (b ∷ [])

  same_kind : slice_index (last_packet (text ++ b ∷ [])) 0 ≡ DATA
  same_kind = ap (λ bytes. slice_index bytes 0) grown ∙ get_or_append_left (last_packet text) (b ∷ []) 0 0 (omega (arith, ahead.begun)) ∙ ahead.kind

  is_data : Says Data (slice_index (last_packet (text ++ b ∷ [])) 0) (length (last_packet (text ++ b ∷ [])))
  is_data =
      let kind : ℕ = slice_index (last_packet (text ++ b ∷ [])) 0 in
      let count : ℕ = length (last_packet (text ++ b ∷ [])) in
      let part : part_of 3 kind count ≡ Data = ap (λ k. part_of 3 k count) same_kind
      ∙ ap (λ t. cond t Data Other) (lt-ltb 3 (length (last_packet (text ++ b ∷ []))) (omega (arith, longer, ahead.begun))) in
      subst (λ p. Says p kind count) part (says kind count)

  still_sound : carries_prints (text ++ b ∷ []) ≡ false
  still_sound = carries_as_before text b (late limit text (suc n) ahead) ∙ ahead.sound

  pub meets_none : station_met limit (text ++ b ∷ []) ≡ None
  meets_none =
      let t : List ℕ = text ++ b ∷ [] in
      let count : ℕ = length (last_packet t) in
      let fine : head_fault 3 (length text) (length (last_packet (text ++ b ∷ []))) (slice_index (last_packet (text ++ b ∷ [])) 0) (length_in Two (last_packet (text ++ b ∷ []))) ≡ None =
      none_holds _ _ _ _ _ _ (ne_eqb (length (last_packet (text ++ b ∷ []))) 1 (λ one. omega (arith, one, longer, ahead.begun)))
      (ne_eqb (length (last_packet (text ++ b ∷ []))) 3 (λ three. omega (arith, three, longer, ahead.begun))) in
      let good : bad_print (text ++ b ∷ []) ≡ false =
      ap (λ c. list_any (λ print. c && nat_lt 10 (count_ones print.mask)) (completed all_sent_prints t)) still_sound ∙ none_passes (completed all_sent_prints t) in
      met_packet limit text b (late limit text (suc n) ahead) (omega (arith, ahead.room))
      ∙ ap (λ o. option_or o (cond (bad_print t) (Some (BadMask (length text))) None)) fine
      ∙ ap (λ c. cond c (Some (BadMask (length text))) None) good

  fault_free : station_fault limit (text ++ b ∷ []) ≡ None
  fault_free = fault_of-none (station_met limit) text b ahead.no_fault meets_none

  pub is_sound : item_at limit (text ++ b ∷ []) ≡ Byte b
  unfolding item_at
  is_sound = ap (λ o. option_map_or (λ fault. Fault fault) o (item_of (text ++ b ∷ []))) fault_free ∙ sound_item text b (late limit text (suc n) ahead) is_data ahead.sound

  pub ahead_still : SoundAhead limit (text ++ b ∷ []) n
  ahead_still =
      let size : packet_size w16 (last_packet (text ++ b ∷ [])) ≡ packet_size w16 (last_packet text) =
      ap (packet_size w16) grown ∙ same_size (last_packet text) (b ∷ []) (omega (arith, ahead.begun)) in
      let long : length (text ++ b ∷ []) ≡ length text + 1 = length-append text (b ∷ []) in
      record {
        no_fault = fault_free;
        sound = still_sound;
        kind = same_kind;
        begun = omega (arith, longer, ahead.begun);
        inside = omega (arith, longer, size, ahead.inside);
        room = omega (arith, long, ahead.room);
      }

-- What is known behind bytes of sound.
pub record Behind (limit : ℕ) (text bytes : List ℕ) : Type 0 where
  pub sound : AreSound limit text bytes
  pub ahead : SoundAhead limit (text ++ bytes) 0
  pub packet : last_packet (text ++ bytes) ≡ last_packet text ++ bytes

pub behind : (bytes : List ℕ) (limit : ℕ) (text : List ℕ) → SoundAhead limit text (length bytes) → Behind limit text bytes
behind [] limit text ahead = record {
  sound = tt;
  ahead = subst (λ longer. SoundAhead limit longer 0) (sym (append-nil text)) ahead;
  packet = ap last_packet (append-nil text) ∙ sym (append-nil (last_packet text));
}
behind (b ∷ bytes) limit text ahead =
    let rest : Behind limit (text ++ b ∷ []) bytes = behind bytes limit (text ++ b ∷ []) (ahead_still limit text b (length bytes) ahead) in
    record {
      sound = (is_sound limit text b (length bytes) ahead, rest.sound);
      ahead = subst (λ longer. SoundAhead limit longer 0) (append_assoc text (b ∷ []) bytes) rest.ahead;
      packet = ap last_packet (sym (append_assoc text (b ∷ []) bytes)) ∙ rest.packet ∙ ap (λ first. first ++ bytes) (grown limit text b (length bytes) ahead)
          ∙ append_assoc (last_packet text) (b ∷ []) bytes;
    }

pub all_sound : (bytes : List ℕ) (limit : ℕ) (text : List ℕ) → (0 < length bytes → SoundAhead limit text (length bytes)) → AreSound limit text bytes
all_sound [] limit text ahead = tt
all_sound (b ∷ bytes) limit text ahead = (behind (b ∷ bytes) limit text (ahead (omega arith))).sound

-- where there is room, there is no fault
pub room_tells : {F : Type 0} (fault : Option F) (n room : ℕ) → 0 < n → n ≤ cond (is_some fault) 0 room → (fault ≡ None) × (n ≤ room)
room_tells None n room some few = (refl, few)
room_tells (Some fault) n room some few = absurd (omega (arith, some, few))
