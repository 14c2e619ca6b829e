-- A station's text with one more byte: the sent prints of its segments.
use Rattle.std.proofs.Common.{◌≡◌, ℕ, ◌<◌, List, [], ◌∷◌, ◌++◌, length, map, flat_map, refl, sym, ◌∙◌, ap, arith, append_assoc, true, false, inl, inr, None, cond}
use Rattle.std.proofs.lemmas.List.{append-nil, map-append}
use Rattle.std.proofs.lemmas.Grind.{flat_map-append}
use Rattle.std.proofs.lemmas.Bool.Decides.{eqb_tells}
use Rattle.std.specs.Option.{option_map_or}
use Rattle.std.specs.List.{last_or}
use Rattle.hk_spec_sound.specs.Windows.{windows}
use Rattle.hk_spec_sound.specs.Groups.{rest_of}
use Rattle.hk_spec_sound.proofs.GrowingGroups.{groups-append_whole, groups-append_part, rest_is_short}
use Rattle.hk_spec_streams.specs.Station.{segments, sent_print, sent_prints}
use Rattle.hk_station_wire.specs.LastPacket.{last_byte, begins_gap, ends_with_data, last_segment, all_sent_prints}
use Rattle.std.proofs.lemmas.Bool.{cases_Bool}
use Rattle.hk_spec_streams.proofs.GrowingPieces.{last_or-append}
use Rattle.hk_station_wire.proofs.GrowingSegments.{last_byte-append, next_segments, NewSegment, SameSegment, data_gained}

-- the last segment is the last part
pub last_segment-append : (text : List ℕ) (front : List (List ℕ)) (part : List ℕ) → segments text ≡ front ++ part ∷ [] → last_segment text ≡ part
last_segment-append text front part is = ap (λ parts. option_map_or (λ segment. segment) (last_or None parts) []) is ∙ ap (λ o. option_map_or (λ segment. segment) o []) (last_or-append None front part)

-- One byte more: the sent prints gain one where it completes eight bytes of the last segment.
pub data NextPrints (text : List ℕ) (b : ℕ) : Type 0 where
  NoPrint : begins_gap (text ++ b ∷ []) ≡ true → all_sent_prints (text ++ b ∷ []) ≡ all_sent_prints text
      → last_segment (text ++ b ∷ []) ≡ [] → NextPrints text b
  NoData : begins_gap (text ++ b ∷ []) ≡ false → ends_with_data (text ++ b ∷ []) ≡ false
      → all_sent_prints (text ++ b ∷ []) ≡ all_sent_prints text
      → last_segment (text ++ b ∷ []) ≡ last_segment text → NextPrints text b
  PartOfPrint : begins_gap (text ++ b ∷ []) ≡ false → ends_with_data (text ++ b ∷ []) ≡ true
      → length (rest_of 8 (last_segment text)) < 7
      → all_sent_prints (text ++ b ∷ []) ≡ all_sent_prints text
      → rest_of 8 (last_segment (text ++ b ∷ [])) ≡ rest_of 8 (last_segment text) ++ b ∷ [] → NextPrints text b
  WholePrint : begins_gap (text ++ b ∷ []) ≡ false → ends_with_data (text ++ b ∷ []) ≡ true
      → length (rest_of 8 (last_segment text)) ≡ 7
      → all_sent_prints (text ++ b ∷ []) ≡ all_sent_prints text ++ sent_print (rest_of 8 (last_segment text) ++ b ∷ []) ∷ []
      → rest_of 8 (last_segment (text ++ b ∷ [])) ≡ [] → NextPrints text b

-- the sent prints of segments of which the last one is told apart
sent-last : (front : List (List ℕ)) (part : List ℕ) → flat_map sent_prints (front ++ part ∷ []) ≡ flat_map sent_prints front ++ sent_prints part
sent-last front part = flat_map-append sent_prints front (part ∷ []) ∙ ap (λ prints. flat_map sent_prints front ++ prints) (append-nil (sent_prints part))

sent_none : sent_prints [] ≡ []
unfolding windows
sent_none = refl

-- a byte more in a segment, which completes a print
pub sent-whole : (segment : List ℕ) (b : ℕ) → length (rest_of 8 segment) ≡ 7
    → sent_prints (segment ++ b ∷ []) ≡ sent_prints segment ++ sent_print (rest_of 8 segment ++ b ∷ []) ∷ []
sent-whole segment b seven =
    let found = groups-append_whole 8 segment b (omega arith) (omega (arith, seven)) in
    ap (map sent_print) found.0 ∙ map-append sent_print (windows 8 8 segment) ((rest_of 8 segment ++ b ∷ []) ∷ [])

-- and one which doesn't
pub sent-part : (segment : List ℕ) (b : ℕ) → length (rest_of 8 segment) < 7 → sent_prints (segment ++ b ∷ []) ≡ sent_prints segment
sent-part segment b fewer = ap (map sent_print) (groups-append_part 8 segment b (omega arith) (omega (arith, fewer))).0

next_prints_by : (text : List ℕ) (b : ℕ) (front : List (List ℕ)) (part : List ℕ) → begins_gap (text ++ b ∷ []) ≡ false
    → segments text ≡ front ++ part ∷ [] → segments (text ++ b ∷ []) ≡ front ++ (part ++ data_gained (text ++ b ∷ [])) ∷ [] → NextPrints text b
next_prints_by text b front part no_gap old new =
    let last : last_segment text ≡ part = last_segment-append text front part old in
    let sent : all_sent_prints text ≡ flat_map sent_prints front ++ sent_prints part = ap (flat_map sent_prints) old ∙ sent-last front part in
    elim (cases_Bool (ends_with_data (text ++ b ∷ []))) [
      | inr none ↦
          let gained : part ++ data_gained (text ++ b ∷ []) ≡ part = ap (λ c. part ++ cond c (last_byte (text ++ b ∷ []) ∷ []) []) none ∙ append-nil part in
          let same : segments (text ++ b ∷ []) ≡ segments text = new ∙ ap (λ s. front ++ s ∷ []) gained ∙ sym old in
          NoData no_gap none (ap (flat_map sent_prints) same) (ap (λ parts. option_map_or (λ segment. segment) (last_or None parts) []) same)
      | inl some ↦
          let gained : part ++ data_gained (text ++ b ∷ []) ≡ part ++ b ∷ [] =
          ap (λ c. part ++ cond c (last_byte (text ++ b ∷ []) ∷ []) []) some ∙ ap (λ byte. part ++ byte ∷ []) (last_byte-append text b) in
          let grown : segments (text ++ b ∷ []) ≡ front ++ (part ++ b ∷ []) ∷ [] = new ∙ ap (λ s. front ++ s ∷ []) gained in
          let last_after : last_segment (text ++ b ∷ []) ≡ part ++ b ∷ [] = last_segment-append (text ++ b ∷ []) front (part ++ b ∷ []) grown in
          let sent_after : all_sent_prints (text ++ b ∷ []) ≡ flat_map sent_prints front ++ sent_prints (part ++ b ∷ []) =
          ap (flat_map sent_prints) grown ∙ sent-last front (part ++ b ∷ []) in
          let rest : rest_of 8 (last_segment text) ≡ rest_of 8 part = ap (rest_of 8) last in
          let same_long : length (rest_of 8 (last_segment text)) ≡ length (rest_of 8 part) = ap length rest in
          let short : length (rest_of 8 part) < 8 = rest_is_short 8 part (omega arith) in
          elim (eqb_tells (length (rest_of 8 part)) 7) [
            | inl seven ↦
                let found = groups-append_whole 8 part b (omega arith) (omega (arith, seven.1)) in
                WholePrint no_gap some (same_long ∙ seven.1)
                (sent_after
                ∙ ap (λ prints. flat_map sent_prints front ++ prints) (sent-whole part b seven.1)
                ∙ sym (append_assoc (flat_map sent_prints front) (sent_prints part) (sent_print (rest_of 8 part ++ b ∷ []) ∷ []))
                ∙ sym (ap (λ prints. prints ++ sent_print (rest_of 8 (last_segment text) ++ b ∷ []) ∷ []) sent
                ∙ ap (λ bytes. (flat_map sent_prints front ++ sent_prints part) ++ sent_print (bytes ++ b ∷ []) ∷ []) rest))
                (ap (rest_of 8) last_after ∙ found.1)
            | inr fewer ↦
                let found = groups-append_part 8 part b (omega arith) (omega (arith, fewer.1, short)) in
                PartOfPrint no_gap some (omega (arith, fewer.1, short, same_long))
                (sent_after ∙ ap (λ prints. flat_map sent_prints front ++ prints) (sent-part part b (omega (arith, fewer.1, short))) ∙ sym sent)
                (ap (rest_of 8) last_after ∙ found.1 ∙ ap (λ bytes. bytes ++ b ∷ []) (sym rest))
          ]
    ]

pub next_prints : (text : List ℕ) (b : ℕ) → NextPrints text b
next_prints text b = elim (next_segments text b) [
  | NewSegment gap grown ↦ NoPrint gap
      (ap (flat_map sent_prints) grown ∙ sent-last (segments text) [] ∙ ap (λ prints. all_sent_prints text ++ prints) sent_none ∙ append-nil (all_sent_prints text))
      (last_segment-append (text ++ b ∷ []) (segments text) [] grown)
  | SameSegment front part no_gap old new ↦ next_prints_by text b front part no_gap old new
]
