-- What a text's last byte brings, by the packet that it belongs to.
use Rattle.std.proofs.Common.{◌≡◌, ℕ, ◌+◌, ◌<◌, ◌≤◌, List, [], ◌∷◌, ◌++◌, length, drop, map, flat_map, filter_map, refl, sym, ◌∙◌, ap, arith, length-append, Bool, true, false, inl, inr, None, cond, slice_index}
use Rattle.std.proofs.lemmas.List.{get_or_append_left}
use Rattle.std.proofs.lemmas.Bool.Decides.{eqb_tells}
use Rattle.std.proofs.Math.Bool.{and-false, and-true}
use Rattle.std.specs.Prelude.{◌&&◌, ◌==◌, nat_lt, not, slice_index_or}
use Rattle.std.specs.Int.{w32, from_be_bytes}
use Rattle.std.specs.Option.{option_map_or}
use Rattle.std.specs.List.{last_or, slice_split}
use Rattle.hk_base.specs.declared.plain.Print.{Print}
use Rattle.hk_base.specs.declared.plain.Form.{Form}
use Rattle.hk_spec_sound.specs.Groups.{rest_of}
use Rattle.hk_spec_streams.specs.Pieces.{last_bytes, completed}
use Rattle.hk_spec_streams.specs.Grammar.{kind_of}
use Rattle.hk_spec_streams.specs.Station.{DATA, FENCE, GAP, fences, Fence, channels_of, factor_of, segments, form_of}
use Rattle.hk_station_wire.specs.LastPacket.{last_packet, last_byte, last_segment, all_sent_prints, begins_gap, ends_gap, ends_with_data}
use Rattle.hk_station_wire.proofs.GrowingSegments.{packet_data, packets_short, last_byte-append}
use Rattle.hk_station_wire.proofs.GrowingPrints.{next_prints, NoPrint, NoData, PartOfPrint, WholePrint}
use Rattle.hk_station_wire.proofs.GrowingFences.{as_fence, fences_completed, fence_in}
use Rattle.hk_station_wire.specs.declared.item.Item.{Item}
use Rattle.hk_station_wire.specs.declared.item.Item.TheVariants as item
use Rattle.hk_station_wire.specs.declared.reader.Part.{Part}
use Rattle.hk_station_wire.specs.declared.reader.Part.TheVariants.{Data, FenceEnd, GapBegin, GapEnd, Other}
use Rattle.hk_station_wire.specs.Items.{item_of, items_of, one_if, carries_prints}
use Rattle.hk_station_wire.specs.Taken.{unfinished_print}
use Rattle.hk_station_wire.proofs.MeetsFault.{sends_nothing, no_print, true_isnt_false}
use Rattle.hk_station_wire.proofs.Parts.{Says}

-- the item by what each row of items has
abbrev pub first_item : Bool → Bool → List Print → List Fence → Bool → Form → ℕ → Item
first_item h s ps fs g form byte = slice_index_or (one_if h (item.Hello form) ++ one_if s (item.Byte byte) ++ map item.Print ps
    ++ map (λ fence. item.Fence fence.asked) fs ++ one_if g item.Gap) 0 item.Nothing

pub item_by : (t : List ℕ) (h s : Bool) (ps : List Print) (fs : List Fence) (g : Bool) → (length t == 6) ≡ h → (not (carries_prints t) && ends_with_data t) ≡ s
    → cond (carries_prints t) (completed all_sent_prints t) [] ≡ ps → completed fences t ≡ fs → ends_gap t ≡ g
    → item_of t ≡ first_item h s ps fs g (form_of t) (last_byte t)
unfolding items_of
item_by t h s ps fs g h_is s_is ps_is fs_is g_is =
    let sound : Bool = not (carries_prints t) && ends_with_data t in
    let sent : List Print = cond (carries_prints t) (completed all_sent_prints t) [] in
    ap (λ a. first_item a sound sent (completed fences t) (ends_gap t) (form_of t) (last_byte t)) h_is
    ∙ ap (λ a. first_item h a sent (completed fences t) (ends_gap t) (form_of t) (last_byte t)) s_is
    ∙ ap (λ a. first_item h s a (completed fences t) (ends_gap t) (form_of t) (last_byte t)) ps_is
    ∙ ap (λ a. first_item h s ps a (ends_gap t) (form_of t) (last_byte t)) fs_is
    ∙ ap (λ a. first_item h s ps fs a (form_of t) (last_byte t)) g_is

pub either_way : {A : Type 0} (c : Bool) (xs : List A) → cond c xs xs ≡ xs
either_way true xs = refl
either_way false xs = refl

hello_or_nothing : (c : Bool) (form : Form) (byte : ℕ) → first_item c false [] [] false form byte ≡ cond c (item.Hello form) item.Nothing
hello_or_nothing true form byte = refl
hello_or_nothing false form byte = refl

-- in the hello
pub hello_item : (text : List ℕ) (b : ℕ) → length text < 6 → item_of (text ++ b ∷ []) ≡ cond (length (text ++ b ∷ []) == 6) (item.Hello (form_of (text ++ b ∷ []))) item.Nothing
hello_item text b early =
    let t : List ℕ = text ++ b ∷ [] in
    let long : length (text ++ b ∷ []) ≡ length text + 1 = length-append text (b ∷ []) in
    let bytes : last_packet (text ++ b ∷ []) ≡ [] = ap last_bytes (packets_short (text ++ b ∷ []) (omega (arith, long))) in
    let no_data : ends_with_data (text ++ b ∷ []) ≡ false = ap (λ bs. (slice_index bs 0 == DATA) && nat_lt 3 (length bs)) bytes in
    item_by t (length t == 6) false [] [] false refl
    (ap (λ c. not (carries_prints t) && c) no_data ∙ and-false (not (carries_prints t)))
    (ap (λ ps. cond (carries_prints t) ps []) (no_print text b (sends_nothing text b no_data)) ∙ either_way (carries_prints t) [])
    (fences_completed text b ∙ ap (fence_in (length text)) bytes)
    (ap (λ bs. (length bs == 3) && (slice_index bs 0 == GAP)) bytes)
    ∙ hello_or_nothing (length t == 6) (form_of t) (last_byte t)

-- no packet and no segment has a byte yet
pub hello_packet : (text : List ℕ) → length text ≤ 6 → last_packet text ≡ []
hello_packet text early = ap last_bytes (packets_short text early)

pub hello_segments : (text : List ℕ) → length text ≤ 6 → segments text ≡ [] ∷ []
unfolding segments
hello_segments text early = ap (λ ps. map (flat_map packet_data) (slice_split (λ packet. kind_of packet == GAP) ps)) (packets_short text early)

pub hello_fences : (text : List ℕ) → length text ≤ 6 → fences text ≡ []
unfolding fences
hello_fences text early = ap (filter_map as_fence) (packets_short text early)

pub hello_segment : (text : List ℕ) → length text ≤ 6 → last_segment text ≡ []
hello_segment text early = ap (λ parts. option_map_or (λ segment. segment) (last_or None parts) []) (hello_segments text early)

pub hello_unfinished : (text : List ℕ) → length text ≤ 6 → unfinished_print text ≡ []
hello_unfinished text early =
    ap (λ segment. cond (carries_prints text) (rest_of 8 segment) []) (hello_segment text early) ∙ either_way (carries_prints text) []

pub same_channels : (text : List ℕ) (b : ℕ) → 4 < length text → channels_of (text ++ b ∷ []) ≡ channels_of text
same_channels text b h = get_or_append_left text (b ∷ []) 0 4 h

pub same_factor : (text : List ℕ) (b : ℕ) → 5 < length text → factor_of (text ++ b ∷ []) ≡ factor_of text
same_factor text b h = get_or_append_left text (b ∷ []) 0 5 h

first_print : (prints : List Print) (form : Form) (byte : ℕ) → first_item false false prints [] false form byte ≡ slice_index_or (map item.Print prints) 0 item.Nothing
first_print [] form byte = refl
first_print (print ∷ prints) form byte = refl

-- behind the hello
module _ (text : List ℕ) (b : ℕ) (late : 6 ≤ length text) where
  -- what kind of byte it is
  abbrev pub Is : Part → Type 0
  Is part = Says part (slice_index (last_packet (text ++ b ∷ [])) 0) (length (last_packet (text ++ b ∷ [])))

  pub carries_as_before : carries_prints (text ++ b ∷ []) ≡ carries_prints text
  carries_as_before = ap (λ n. n == 0) (same_channels text b (omega arith))

  not_hello : (length (text ++ b ∷ []) == 6) ≡ false
  not_hello =
      let long : length (text ++ b ∷ []) ≡ length text + 1 = length-append text (b ∷ []) in
      elim (eqb_tells (length (text ++ b ∷ [])) 6) [ inl six ↦ absurd (omega (arith, six.1, long)) | inr isnt ↦ isnt.0 ]

  -- a byte that is no data: the unfinished print ends at a gap, and else stays
  pub quiet_unfinished : ends_with_data (text ++ b ∷ []) ≡ false → unfinished_print (text ++ b ∷ []) ≡ cond (begins_gap (text ++ b ∷ [])) [] (unfinished_print text)
  quiet_unfinished none =
      let t : List ℕ = text ++ b ∷ [] in
      elim (next_prints text b) [
        | NoPrint gap same last ↦
            ap (λ segment. cond (carries_prints t) (rest_of 8 segment) []) last ∙ either_way (carries_prints t) []
            ∙ sym (ap (λ c. cond c [] (unfinished_print text)) gap)
        | NoData no_gap no_data same last ↦
            ap (λ segment. cond (carries_prints t) (rest_of 8 segment) []) last
            ∙ ap (λ c. cond c (rest_of 8 (last_segment text)) []) carries_as_before
            ∙ sym (ap (λ c. cond c [] (unfinished_print text)) no_gap)
        | PartOfPrint no_gap data_byte short same rest ↦ absurd (true_isnt_false (sym data_byte ∙ none))
        | WholePrint no_gap data_byte full grown rest ↦ absurd (true_isnt_false (sym data_byte ∙ none))
      ]

  -- what a byte brings that is no data
  quiet_item : (fence_end gap_end : Bool) → ends_with_data (text ++ b ∷ []) ≡ false
      → ((slice_index (last_packet (text ++ b ∷ [])) 0 == FENCE) && (length (last_packet (text ++ b ∷ [])) == 7)) ≡ fence_end → ends_gap (text ++ b ∷ []) ≡ gap_end
      → item_of (text ++ b ∷ []) ≡ first_item false false []
      (cond fence_end (record { asked = from_be_bytes w32 (drop 3 (last_packet (text ++ b ∷ []))); place = length text } ∷ []) []) gap_end
      (form_of (text ++ b ∷ [])) (last_byte (text ++ b ∷ []))
  quiet_item fence_end gap_end none fence gap =
      let t : List ℕ = text ++ b ∷ [] in
      item_by t false false [] (cond fence_end (record { asked = from_be_bytes w32 (drop 3 (last_packet t)); place = length text } ∷ []) []) gap_end not_hello
      (ap (λ c. not (carries_prints t) && c) none ∙ and-false (not (carries_prints t)))
      (ap (λ ps. cond (carries_prints t) ps []) (no_print text b (sends_nothing text b none)) ∙ either_way (carries_prints t) [])
      (fences_completed text b ∙ ap (λ c. cond c (record { asked = from_be_bytes w32 (drop 3 (last_packet t)); place = length text } ∷ []) []) fence)
      gap

  pub other_item : Is Other → item_of (text ++ b ∷ []) ≡ item.Nothing
  other_item by = quiet_item false false by.data_test by.fence_test by.end_test

  pub gap_begin_item : Is GapBegin → item_of (text ++ b ∷ []) ≡ item.Nothing
  gap_begin_item by = quiet_item false false by.data_test by.fence_test by.end_test

  pub gap_end_item : Is GapEnd → item_of (text ++ b ∷ []) ≡ item.Gap
  gap_end_item by = quiet_item false true by.data_test by.fence_test by.end_test

  pub fence_item : Is FenceEnd → item_of (text ++ b ∷ []) ≡ item.Fence (from_be_bytes w32 (drop 3 (last_packet (text ++ b ∷ []))))
  fence_item by = quiet_item true false by.data_test by.fence_test by.end_test

  data_row : Is Data → (not (carries_prints (text ++ b ∷ [])) && ends_with_data (text ++ b ∷ [])) ≡ not (carries_prints text)
  data_row by =
      ap (λ c. not (carries_prints (text ++ b ∷ [])) && c) by.data_test ∙ and-true (not (carries_prints (text ++ b ∷ []))) ∙ ap not carries_as_before

  no_fence_there : Is Data → completed fences (text ++ b ∷ []) ≡ []
  no_fence_there by =
      fences_completed text b ∙ ap (λ c. cond c (record { asked = from_be_bytes w32 (drop 3 (last_packet (text ++ b ∷ []))); place = length text } ∷ []) []) by.fence_test

  -- a byte of sound
  pub sound_item : Is Data → carries_prints text ≡ false → item_of (text ++ b ∷ []) ≡ item.Byte b
  sound_item by sound =
      let t : List ℕ = text ++ b ∷ [] in
      item_by t false true [] [] false not_hello (data_row by ∙ ap not sound)
      (ap (λ c. cond c (completed all_sent_prints t) []) (carries_as_before ∙ sound)) (no_fence_there by) by.end_test ∙ ap item.Byte (last_byte-append text b)

  -- a byte of a print
  pub prints_item : Is Data → carries_prints text ≡ true → (prints : List Print) → completed all_sent_prints (text ++ b ∷ []) ≡ prints
      → item_of (text ++ b ∷ []) ≡ slice_index_or (map item.Print prints) 0 item.Nothing
  prints_item by carries prints are =
      let t : List ℕ = text ++ b ∷ [] in
      item_by t false false prints [] false not_hello (data_row by ∙ ap not carries)
      (ap (λ c. cond c (completed all_sent_prints t) []) (carries_as_before ∙ carries) ∙ are) (no_fence_there by) by.end_test
      ∙ first_print prints (form_of t) (last_byte t)
