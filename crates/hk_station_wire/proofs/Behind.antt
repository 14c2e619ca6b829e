-- What a byte behind the hello brings, for each part of a packet.
use Rattle.std.proofs.Common.{◌≡◌, ℕ, ◌+◌, ◌<◌, ◌≤◌, List, [], ◌∷◌, ◌++◌, length, take, drop, subst, refl, sym, ◌∙◌, ap, arith, length-append, Bool, true, false, inl, inr, None, Some, cond, slice_index}
use Rattle.std.proofs.lemmas.List.{take_all}
use Rattle.std.proofs.lemmas.Bool.{lt-ltb, le-ltb, cases_Bool}
use Rattle.std.specs.Prelude.{◌&&◌, ◌||◌, nat_lt, count_ones, Ok, Err, Result, if◌then◌else◌}
use Rattle.std.specs.Option.{option_or}
use Rattle.std.specs.Int.{w32, from_be_bytes}
use Rattle.std.specs.List.{list_any}
use Rattle.hk_base.specs.declared.plain.Print.{Print}
use Rattle.hk_base.specs.declared.plain.WireFault.{WireFault}
use Rattle.hk_base.specs.declared.plain.WireFault.TheVariants.{BadMask}
use Rattle.hk_spec_sound.specs.Groups.{rest_of}
use Rattle.hk_spec_sound.proofs.GrowingGroups.{rest_is_short}
use Rattle.hk_spec_streams.specs.Pieces.{completed}
use Rattle.hk_spec_streams.specs.Station.{station_met, sent_print, has_bad_mask, channels_of}
use Rattle.hk_station_wire.specs.LastPacket.{last_packet, last_segment, all_sent_prints, begins_gap, ends_with_data}
use Rattle.hk_station_wire.proofs.GrowingSegments.{last_packet-next}
use Rattle.hk_station_wire.proofs.GrowingPrints.{next_prints, NoPrint, NoData, PartOfPrint, WholePrint}
use Rattle.hk_spec_streams.proofs.Completed.{completed-more}
use Rattle.hk_station_wire.specs.declared.item.Item.{Item}
use Rattle.hk_station_wire.specs.declared.item.Item.TheVariants as item
use Rattle.hk_wire.specs.declared.packet.LengthSize.{LengthSize}
use Rattle.hk_wire.specs.declared.packet.LengthSize.TheVariants.{Two}
use Rattle.hk_wire.specs.declared.packet.LastPacket.{LastPacket}
use Rattle.hk_station_wire.specs.declared.reader.Part.{Part}
use Rattle.hk_station_wire.specs.declared.reader.Part.TheVariants.{Data, FenceEnd, GapBegin, GapEnd, Other}
use Rattle.hk_station_wire.specs.declared.reader.Reader.{Reader}
use Rattle.hk_wire.specs.Held.{IsLast, gathered, length_in, length_size, is_over}
use Rattle.hk_station_wire.specs.Items.{carries_prints}
use Rattle.hk_station_wire.specs.Steps.{head_fault, part_of, left_of_print, print_outcome}
use Rattle.hk_station_wire.specs.Taken.{StandsAfter, HasByte, TellsItem, unfinished_print}
use Rattle.hk_station_wire.proofs.MeetsFault.{met_packet, bad_print, sends_nothing, no_print, no_bad_print, true_isnt_false}
use Rattle.hk_station_wire.proofs.Parts.{Says, says}
use Rattle.hk_station_wire.proofs.LastItems.{carries_as_before, quiet_unfinished, other_item, gap_begin_item, gap_end_item, fence_item, sound_item, prints_item, same_channels, same_factor}

pub none_passes : (prints : List Print) → list_any (λ print. false && nat_lt 10 (count_ones print.mask)) prints ≡ false
none_passes [] = refl
none_passes (print ∷ prints) = none_passes prints

-- what is known once the byte is in the last packet: the packet's kind, length and number of bytes
pub record InPacket (limit : ℕ) (text : List ℕ) (b : ℕ) (reader : Reader) (place count kind packet_length : ℕ) : Type 0 where
  pub at : place ≡ length text
  pub late : 6 ≤ place
  pub room : place < limit
  pub has : HasByte reader text b
  pub count_is : count ≡ length (last_packet (text ++ b ∷ []))
  pub kind_is : kind ≡ slice_index (last_packet (text ++ b ∷ [])) 0
  pub length_is : packet_length ≡ length_in Two (last_packet (text ++ b ∷ []))

-- what the packet's own calls say of it
pub in_packet : (limit : ℕ) (text : List ℕ) (b : ℕ) (reader : Reader) (place count kind packet_length : ℕ) → place ≡ length text → 6 ≤ place → place < limit → HasByte reader text b
    → ((bytes : List ℕ) → IsLast reader.packet bytes → count ≡ length bytes)
    → ((bytes : List ℕ) → IsLast reader.packet bytes → kind ≡ slice_index bytes 0)
    → ((bytes : List ℕ) → IsLast reader.packet bytes → packet_length ≡ length_in (length_size reader.packet) bytes)
    → InPacket limit text b reader place count kind packet_length
in_packet limit text b reader place count kind packet_length at late room has counts kinds lengths = record {
  at = at;
  late = late;
  room = room;
  has = has;
  count_is = counts _ has.packet;
  kind_is = kinds _ has.packet;
  length_is = lengths _ has.packet ∙ ap (λ size. length_in size (last_packet (text ++ b ∷ []))) reader.short_lengths;
}

module _ (limit : ℕ) (text : List ℕ) (b : ℕ) (reader : Reader) (place count kind packet_length : ℕ) (look : InPacket limit text b reader place count kind packet_length) where
  -- what the byte meets
  met : station_met limit (text ++ b ∷ []) ≡ option_or (head_fault 3 place count kind packet_length) (cond (bad_print (text ++ b ∷ [])) (Some (BadMask place)) None)
  met =
      let at : place ≡ length text = look.at in
      let late : 6 ≤ place = look.late in
      let room : place < limit = look.room in
      let bs : List ℕ = last_packet (text ++ b ∷ []) in
      met_packet limit text b (omega arith) (omega arith)
      ∙ sym (ap (λ p. option_or (head_fault 3 p count kind packet_length) (cond (bad_print (text ++ b ∷ [])) (Some (BadMask p)) None)) look.at
      ∙ ap (λ n. option_or (head_fault 3 (length text) n kind packet_length) (cond (bad_print (text ++ b ∷ [])) (Some (BadMask (length text))) None)) look.count_is
      ∙ ap (λ k. option_or (head_fault 3 (length text) (length bs) k packet_length) (cond (bad_print (text ++ b ∷ [])) (Some (BadMask (length text))) None)) look.kind_is
      ∙ ap (λ n. option_or (head_fault 3 (length text) (length bs) (slice_index bs 0) n) (cond (bad_print (text ++ b ∷ [])) (Some (BadMask (length text))) None)) look.length_is)

  pub head_meets : (fault : WireFault) → head_fault 3 place count kind packet_length ≡ Some fault → station_met limit (text ++ b ∷ []) ≡ Some fault
  head_meets fault is = met ∙ ap (λ o. option_or o (cond (bad_print (text ++ b ∷ [])) (Some (BadMask place)) None)) is

  met_by : head_fault 3 place count kind packet_length ≡ None → station_met limit (text ++ b ∷ []) ≡ cond (bad_print (text ++ b ∷ [])) (Some (BadMask place)) None
  met_by is = met ∙ ap (λ o. option_or o (cond (bad_print (text ++ b ∷ [])) (Some (BadMask place)) None)) is

  tests : (part : Part) → part_of 3 kind count ≡ part → Says part (slice_index (last_packet (text ++ b ∷ [])) 0) (length (last_packet (text ++ b ∷ [])))
  tests part is =
      let bs : List ℕ = last_packet (text ++ b ∷ []) in
      let P : Part → Type 0 = λ p. Says p kind count in
      let Q : ℕ → Type 0 = λ k. Says part k count in
      let R : ℕ → Type 0 = λ n. Says part (slice_index bs 0) n in
      subst R look.count_is (subst Q look.kind_is (subst P is (says kind count)))

  -- the form and the packet as they are, and the unfinished print of the text with the byte
  stands : (new : Reader) → new.told ≡ reader.told → new.packet ≡ reader.packet → gathered new.group ≡ unfinished_print (text ++ b ∷ []) → StandsAfter new (text ++ b ∷ [])
  stands new same_form same_packet group =
      let at : place ≡ length text = look.at in
      let late : 6 ≤ place = look.late in
      let P : LastPacket → Type 0 = λ packet. IsLast packet (last_packet (text ++ b ∷ [])) in
      record {
        told = record {
          channels = λ h. ap (λ form. form.channels) same_form ∙ look.has.told.channels (omega (arith, at, late)) ∙ sym (same_channels text b (omega arith));
          factor = λ h. ap (λ form. form.factor) same_form ∙ look.has.told.factor (omega (arith, at, late)) ∙ sym (same_factor text b (omega arith));
        };
        packet = subst P (sym same_packet) look.has.packet;
        group = group;
      }

  behind : 6 ≤ length text
  behind =
      let at : place ≡ length text = look.at in
      let late : 6 ≤ place = look.late in
      omega arith

  -- the unfinished print, as a byte that is no data leaves it
  quiet_group : (gap : Bool) → ends_with_data (text ++ b ∷ []) ≡ false → begins_gap (text ++ b ∷ []) ≡ gap → unfinished_print (text ++ b ∷ []) ≡ cond gap [] (gathered reader.group)
  quiet_group gap none is =
      quiet_unfinished text b behind none ∙ ap (λ c. cond c [] (unfinished_print text)) is ∙ ap (cond gap []) (sym look.has.group)

  quiet_met : head_fault 3 place count kind packet_length ≡ None → ends_with_data (text ++ b ∷ []) ≡ false → station_met limit (text ++ b ∷ []) ≡ None
  quiet_met fine none = met_by fine ∙ ap (λ c. cond c (Some (BadMask place)) None) (no_bad_print text b (sends_nothing text b none))

  pub brings_other : (new : Reader) → head_fault 3 place count kind packet_length ≡ None → part_of 3 kind count ≡ Other
      → new.told ≡ reader.told → new.packet ≡ reader.packet → new.group ≡ reader.group → TellsItem (Ok item.Nothing) new limit (text ++ b ∷ [])
  brings_other new fine is same_form same_packet same_group =
      let by = tests Other is in (
        quiet_met fine by.data_test,
        sym (other_item text b behind by),
        stands new same_form same_packet
            (ap gathered same_group ∙ sym (quiet_group false by.data_test by.begin_test)),
      )

  pub brings_gap_end : (new : Reader) → head_fault 3 place count kind packet_length ≡ None → part_of 3 kind count ≡ GapEnd
      → new.told ≡ reader.told → new.packet ≡ reader.packet → new.group ≡ reader.group → TellsItem (Ok item.Gap) new limit (text ++ b ∷ [])
  brings_gap_end new fine is same_form same_packet same_group =
      let by = tests GapEnd is in (
        quiet_met fine by.data_test,
        sym (gap_end_item text b behind by),
        stands new same_form same_packet
            (ap gathered same_group ∙ sym (quiet_group false by.data_test by.begin_test)),
      )

  pub brings_gap_begin : (new : Reader) → head_fault 3 place count kind packet_length ≡ None → part_of 3 kind count ≡ GapBegin
      → new.told ≡ reader.told → new.packet ≡ reader.packet → gathered new.group ≡ [] → TellsItem (Ok item.Nothing) new limit (text ++ b ∷ [])
  brings_gap_begin new fine is same_form same_packet empty =
      let by = tests GapBegin is in (
        quiet_met fine by.data_test,
        sym (gap_begin_item text b behind by),
        stands new same_form same_packet (empty ∙ sym (quiet_group true by.data_test by.begin_test)),
      )

  pub brings_fence : (new : Reader) (asked : ℕ) → head_fault 3 place count kind packet_length ≡ None → part_of 3 kind count ≡ FenceEnd
      → asked ≡ from_be_bytes w32 (drop 3 (last_packet (text ++ b ∷ [])))
      → new.told ≡ reader.told → new.packet ≡ reader.packet → new.group ≡ reader.group → TellsItem (Ok (item.Fence asked)) new limit (text ++ b ∷ [])
  brings_fence new asked fine is asks same_form same_packet same_group =
      let by = tests FenceEnd is in (
        quiet_met fine by.data_test,
        ap item.Fence asks ∙ sym (fence_item text b behind by),
        stands new same_form same_packet
            (ap gathered same_group ∙ sym (quiet_group false by.data_test by.begin_test)),
      )

  -- a byte of sound
  pub brings_sound : (new : Reader) → head_fault 3 place count kind packet_length ≡ None → part_of 3 kind count ≡ Data → carries_prints text ≡ false
      → new.told ≡ reader.told → new.packet ≡ reader.packet → new.group ≡ reader.group → TellsItem (Ok (item.Byte b)) new limit (text ++ b ∷ [])
  brings_sound new fine is sound same_form same_packet same_group =
      let t : List ℕ = text ++ b ∷ [] in
      let by = tests Data is in
      let carries : carries_prints (text ++ b ∷ []) ≡ false = carries_as_before text b behind ∙ sound in
      let good : bad_print (text ++ b ∷ []) ≡ false =
      ap (λ c. list_any (λ print. c && nat_lt 10 (count_ones print.mask)) (completed all_sent_prints t)) carries ∙ none_passes (completed all_sent_prints t) in (
        met_by fine ∙ ap (λ c. cond c (Some (BadMask place)) None) good,
        sym (sound_item text b behind by sound),
        stands new same_form same_packet
            (ap gathered same_group ∙ look.has.group ∙ ap (λ c. cond c (rest_of 8 (last_segment text)) []) sound
            ∙ sym (ap (λ c. cond c (rest_of 8 (last_segment t)) []) carries)),
      )

  -- a byte of a print, where these are the bytes of the print so far
  module _ (fine : head_fault 3 place count kind packet_length ≡ None) (is : part_of 3 kind count ≡ Data) (carries : carries_prints text ≡ true)
      (new : Reader) (same_form : new.told ≡ reader.told) (same_packet : new.packet ≡ reader.packet)
      (left : gathered new.group ≡ left_of_print (take 12 (gathered reader.group ++ b ∷ []))) where
    held : take 12 (gathered reader.group ++ b ∷ []) ≡ rest_of 8 (last_segment text) ++ b ∷ []
    held =
        let rest : List ℕ = rest_of 8 (last_segment text) in
        let group : gathered reader.group ≡ rest_of 8 (last_segment text) = look.has.group ∙ ap (λ c. cond c rest []) carries in
        let short : length (rest_of 8 (last_segment text)) < 8 = rest_is_short 8 (last_segment text) (omega arith) in
        let long : length (rest_of 8 (last_segment text) ++ b ∷ []) ≡ length (rest_of 8 (last_segment text)) + 1 = length-append rest (b ∷ []) in
        ap (λ bytes. take 12 (bytes ++ b ∷ [])) group ∙ take_all 12 (rest ++ b ∷ []) (omega (arith, short, long))

    unfinished : unfinished_print (text ++ b ∷ []) ≡ rest_of 8 (last_segment (text ++ b ∷ []))
    unfinished = ap (λ c. cond c (rest_of 8 (last_segment (text ++ b ∷ []))) []) (carries_as_before text b behind ∙ carries)

    part_brings : length (rest_of 8 (last_segment text)) < 7 → all_sent_prints (text ++ b ∷ []) ≡ all_sent_prints text
        → rest_of 8 (last_segment (text ++ b ∷ [])) ≡ rest_of 8 (last_segment text) ++ b ∷ []
        → TellsItem (print_outcome place (take 12 (gathered reader.group ++ b ∷ []))) new limit (text ++ b ∷ [])
    part_brings short same rest_after =
        let t : List ℕ = text ++ b ∷ [] in
        let bytes : List ℕ = rest_of 8 (last_segment text) ++ b ∷ [] in
        let long : length (rest_of 8 (last_segment text) ++ b ∷ []) ≡ length (rest_of 8 (last_segment text)) + 1 = length-append (rest_of 8 (last_segment text)) (b ∷ []) in
        let few : nat_lt (length (rest_of 8 (last_segment text) ++ b ∷ [])) 8 ≡ true = lt-ltb _ 8 (omega (arith, short, long)) in
        let print : Print = sent_print bytes in
        let outcome : print_outcome place (take 12 (gathered reader.group ++ b ∷ [])) ≡ Ok item.Nothing =
        ap (print_outcome place) held ∙ ap (λ c. cond c (Ok item.Nothing) (cond (nat_lt 10 (count_ones print.mask)) (Err (BadMask place)) (Ok (item.Print print)))) few in
        let P : Result Item WireFault → Type 0 = λ r. TellsItem r new limit t in
        subst P (sym outcome) (
          met_by fine ∙ ap (λ c. cond c (Some (BadMask place)) None) (no_bad_print text b same),
          sym (prints_item text b behind (tests Data is) carries [] (no_print text b same)),
          stands new same_form same_packet
              (left ∙ ap left_of_print held ∙ ap (λ c. cond c bytes []) few ∙ sym (unfinished ∙ rest_after)),
        )

    whole_brings : length (rest_of 8 (last_segment text)) ≡ 7
        → all_sent_prints (text ++ b ∷ []) ≡ all_sent_prints text ++ sent_print (rest_of 8 (last_segment text) ++ b ∷ []) ∷ []
        → rest_of 8 (last_segment (text ++ b ∷ [])) ≡ []
        → TellsItem (print_outcome place (take 12 (gathered reader.group ++ b ∷ []))) new limit (text ++ b ∷ [])
    whole_brings full grown rest_after =
        let t : List ℕ = text ++ b ∷ [] in
        let bytes : List ℕ = rest_of 8 (last_segment text) ++ b ∷ [] in
        let print : Print = sent_print bytes in
        let long : length (rest_of 8 (last_segment text) ++ b ∷ []) ≡ length (rest_of 8 (last_segment text)) + 1 = length-append (rest_of 8 (last_segment text)) (b ∷ []) in
        let enough : nat_lt (length (rest_of 8 (last_segment text) ++ b ∷ [])) 8 ≡ false = le-ltb _ 8 (omega (arith, full, long)) in
        let weak : Bool = nat_lt 10 (count_ones print.mask) in
        let judge : Bool → Result Item WireFault = λ c. cond c (Err (BadMask place)) (Ok (item.Print print)) in
        let outcome : print_outcome place (take 12 (gathered reader.group ++ b ∷ [])) ≡ judge weak =
        ap (print_outcome place) held ∙ ap (λ c. cond c (Ok item.Nothing) (judge weak)) enough in
        let sent : completed all_sent_prints t ≡ print ∷ [] = completed-more all_sent_prints text b (print ∷ []) grown in
        let bad : bad_print t ≡ (weak || false) =
        ap (list_any (has_bad_mask (channels_of t))) sent ∙ ap (λ c. (c && weak) || false) (carries_as_before text b behind ∙ carries) in
        let P : Result Item WireFault → Type 0 = λ r. TellsItem r new limit t in
        elim (cases_Bool weak) [
          | inl many ↦ subst P (sym (outcome ∙ ap judge many))
              (met_by fine ∙ ap (λ c. cond c (Some (BadMask place)) None) (bad ∙ ap (λ c. c || false) many))
          | inr few ↦ subst P (sym (outcome ∙ ap judge few)) (
            met_by fine ∙ ap (λ c. cond c (Some (BadMask place)) None) (bad ∙ ap (λ c. c || false) few),
            sym (prints_item text b behind (tests Data is) carries (print ∷ []) sent),
            stands new same_form same_packet
                (left ∙ ap left_of_print held ∙ ap (λ c. cond c bytes []) enough ∙ sym (unfinished ∙ rest_after)),
          )
        ]

    brings_print : TellsItem (print_outcome place (take 12 (gathered reader.group ++ b ∷ []))) new limit (text ++ b ∷ [])
    brings_print =
        let by = tests Data is in
        elim (next_prints text b) [
          | NoPrint gap same last ↦ absurd (true_isnt_false (sym gap ∙ by.begin_test))
          | NoData no_gap no_data same last ↦ absurd (true_isnt_false (sym by.data_test ∙ no_data))
          | PartOfPrint no_gap data_byte short same rest ↦ part_brings short same rest
          | WholePrint no_gap data_byte full grown rest ↦ whole_brings full grown rest
        ]

    pub brings_outcome : (outcome : Result Item WireFault) → outcome ≡ print_outcome place (take 12 (gathered reader.group ++ b ∷ []))
        → TellsItem outcome new limit (text ++ b ∷ [])
    brings_outcome outcome made =
        let P : Result Item WireFault → Type 0 = λ r. TellsItem r new limit (text ++ b ∷ []) in
        subst P (sym made) brings_print

-- a reader whose packet has taken the next byte
pub has_byte : (text : List ℕ) (b : ℕ) (old new : Reader) → 6 ≤ length text → StandsAfter old text
    → new.told ≡ old.told → new.group ≡ old.group → length_size old.packet ≡ Two
    → ((bytes : List ℕ) → IsLast old.packet bytes → IsLast new.packet (if is_over (length_size old.packet) bytes then b ∷ [] else bytes ++ b ∷ []))
    → HasByte new text b
has_byte text b old new late stands same_form same_group two pushed =
    let packet_now : List ℕ = last_packet text in
    let P : LengthSize → Type 0 = λ size. IsLast new.packet (cond (is_over size packet_now) (b ∷ []) (packet_now ++ b ∷ [])) in
    let Q : List ℕ → Type 0 = IsLast new.packet in
    record {
      told = record {
        channels = λ h. ap (λ form. form.channels) same_form ∙ stands.told.channels h;
        factor = λ h. ap (λ form. form.factor) same_form ∙ stands.told.factor h;
      };
      packet = subst Q (sym (last_packet-next text b late)) (subst P two (pushed packet_now stands.packet));
      group = ap gathered same_group ∙ stands.group;
    }
