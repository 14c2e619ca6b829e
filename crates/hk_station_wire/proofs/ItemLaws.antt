-- What each item tells of a text and its last byte, for every text.
use Rattle.std.proofs.Common.{◌≡◌, ℕ, ◌+◌, ◌<◌, ◌≤◌, List, [], ◌∷◌, ◌++◌, length, refl, sym, ◌∙◌, ap, subst, arith, length-append, Bool, true, false, inl, inr, Option, None, Some, cond, slice_index}
use Rattle.std.proofs.lemmas.List.{append-nil}
use Rattle.std.proofs.lemmas.Bool.{le-leb, lt-leb, cases_Bool}
use Rattle.std.proofs.lemmas.Bool.Decides.{leb_tells, eqb_tells}
use Rattle.std.specs.Prelude.{◌&&◌, ◌==◌, nat_lt, drop, flat_map}
use Rattle.std.specs.Option.{option_map_or}
use Rattle.std.specs.Int.{w32, from_be_bytes}
use Rattle.hk_base.specs.declared.plain.WireFault.{WireFault}
use Rattle.hk_spec_sound.specs.Groups.{rest_of}
use Rattle.hk_spec_streams.specs.Station.{heard_form, FENCE, GAP, Fence, channels_of, factor_of, station_met, station_fault, segments, sent_print, sent_prints, fences, form_of}
use Rattle.hk_station_wire.specs.LastPacket.{last_packet, last_byte, last_segment, all_sent_prints, begins_gap, ends_with_data, gap_is_open}
use Rattle.hk_spec_streams.proofs.NextFault.{seen_of-all, fault_of-before, fault_of-none, fault_of-some, fault_of-stays}
use Rattle.hk_spec_streams.proofs.Completed.{completed-more}
use Rattle.hk_spec_streams.proofs.Optional.{none_or_some}
use Rattle.hk_station_wire.proofs.GrowingSegments.{next_segments, NewSegment, SameSegment, last_byte-append}
use Rattle.hk_station_wire.proofs.GrowingPrints.{last_segment-append, next_prints, NoPrint, NoData, PartOfPrint, WholePrint, sent-whole, sent-part}
use Rattle.hk_station_wire.proofs.GrowingFences.{fence_in, fences-append}
use Rattle.hk_station_wire.specs.declared.item.Item.{Item}
use Rattle.hk_station_wire.specs.declared.item.Item.TheVariants as item
use Rattle.hk_station_wire.specs.declared.reader.Part.{Part}
use Rattle.hk_station_wire.specs.declared.reader.Part.TheVariants.{Data, FenceEnd, GapBegin, GapEnd, Other}
use Rattle.hk_station_wire.specs.Items.{Says, item_at, item_of, carries_prints}
use Rattle.hk_station_wire.specs.Steps.{part_of}
use Rattle.hk_station_wire.specs.Says as says_of
use Rattle.hk_station_wire.proofs.MeetsFault.{sends_nothing, true_isnt_false}
use Rattle.hk_station_wire.proofs.Parts.{says}
use Rattle.hk_station_wire.proofs.LastItems.{Is, same_channels, same_factor, hello_item, hello_packet, hello_segments, hello_fences, other_item, gap_begin_item, gap_end_item, fence_item, sound_item, prints_item}
use Rattle.hk_station_wire.proofs.WellFormed.{fits, no_open_fence}
use Rattle.hk_station_wire.proofs.OpenGap.{gap_before, gap_of_data, gap_of_fence, gap_of_begin, gap_of_end, gap_of_other}

-- a fault: that of the text, or one that the byte meets
says_fault : (limit : ℕ) (text : List ℕ) (b : ℕ) (fault : WireFault) → station_fault limit (text ++ b ∷ []) ≡ Some fault → says_of.SaysFault fault limit text b
says_fault limit text b fault is = elim (none_or_some (station_fault limit text)) [
  | inr old ↦ record { is_fault = is; seen_stays = (fault_of-stays (station_met limit) text b old.0 old.1).1 }
  | inl none ↦ elim (none_or_some (station_met limit (text ++ b ∷ []))) [
    | inl fine ↦ absurd (let odd : Some fault ≡ None = sym is ∙ fault_of-none (station_met limit) text b none fine in cc)
    | inr met ↦ record {
      is_fault = is;
      seen_stays = (fault_of-some (station_met limit) text b met.0 none met.1).1 ∙ sym (seen_of-all (station_met limit) text none);
    }
  ]
]

-- the form of a text whose hello is whole, or not
pub late_form : (t : List ℕ) → 6 ≤ length t → heard_form t ≡ form_of t
late_form t late = ap (λ c. cond c (form_of t) (record { channels = 0; factor = 1 })) (le-leb 6 (length t) late)

early_form : (t : List ℕ) → length t < 6 → heard_form t ≡ record { channels = 0; factor = 1 }
early_form t early = ap (λ c. cond c (form_of t) (record { channels = 0; factor = 1 })) (lt-leb 6 (length t) early)

-- without a fault
module _ (limit : ℕ) (text : List ℕ) (b : ℕ) (fine : station_fault limit (text ++ b ∷ []) ≡ None) where
  none_before : station_fault limit text ≡ None
  none_before = (fault_of-before (station_met limit) text b fine).0

  no_fault : says_of.NoFault limit text b
  no_fault = record {
    before = none_before;
    after = fine;
    seen_before = seen_of-all (station_met limit) text none_before;
    seen_after = seen_of-all (station_met limit) (text ++ b ∷ []) fine;
  }

  -- the fences gain what the byte completes
  more_fences : fences (text ++ b ∷ []) ≡ fences text ++ fence_in (length text) (last_packet (text ++ b ∷ []))
  more_fences = fences-append text b (λ place part. no_open_fence (last_packet text) place (fits limit text none_before) part)

  fences_by : (end : Bool) → ((slice_index (last_packet (text ++ b ∷ [])) 0 == FENCE) && (length (last_packet (text ++ b ∷ [])) == 7)) ≡ end
      → fences (text ++ b ∷ []) ≡ fences text ++ cond end (record { asked = from_be_bytes w32 (drop 3 (last_packet (text ++ b ∷ []))); place = length text } ∷ []) []
  fences_by end is =
      let fence : Fence = record { asked = from_be_bytes w32 (drop 3 (last_packet (text ++ b ∷ []))); place = length text } in
      more_fences ∙ ap (λ c. fences text ++ cond c (fence ∷ []) []) is

  no_fence : ((slice_index (last_packet (text ++ b ∷ [])) 0 == FENCE) && (length (last_packet (text ++ b ∷ [])) == 7)) ≡ false → fences (text ++ b ∷ []) ≡ fences text
  no_fence is = fences_by false is ∙ append-nil (fences text)

  keeps_segments : begins_gap (text ++ b ∷ []) ≡ false → ends_with_data (text ++ b ∷ []) ≡ false → segments (text ++ b ∷ []) ≡ segments text
  keeps_segments no_gap no_data = elim (next_segments text b) [
    | NewSegment gap grown ↦ absurd (true_isnt_false (sym gap ∙ no_gap))
    | SameSegment front part gap_isnt old new ↦
        new ∙ ap (λ c. front ++ (part ++ cond c (last_byte (text ++ b ∷ []) ∷ []) []) ∷ []) no_data ∙ ap (λ p. front ++ p ∷ []) (append-nil part) ∙ sym old
  ]

  new_segment : begins_gap (text ++ b ∷ []) ≡ true → segments (text ++ b ∷ []) ≡ segments text ++ [] ∷ []
  new_segment is = elim (next_segments text b) [
    | NewSegment gap grown ↦ grown
    | SameSegment front part gap_isnt old new ↦ absurd (true_isnt_false (sym is ∙ gap_isnt))
  ]

  -- in the hello
  hello_gap : (t : List ℕ) → length t ≤ 6 → gap_is_open t ≡ false
  hello_gap t early = ap (λ bytes. (slice_index bytes 0 == GAP) && nat_lt (length bytes) 3) (hello_packet t early)

  hello_says : length text < 6 → Says (item_of (text ++ b ∷ [])) limit text b
  hello_says early =
      let t : List ℕ = text ++ b ∷ [] in
      let long : length (text ++ b ∷ []) ≡ length text + 1 = length-append text (b ∷ []) in
      let bytes : last_packet (text ++ b ∷ []) ≡ [] = hello_packet t (omega (arith, long)) in
      let P : Item → Type 0 = λ i. Says i limit text b in
      elim (eqb_tells (length t) 6) [
        | inl six ↦ subst P (sym (hello_item text b early ∙ ap (λ c. cond c (item.Hello (form_of t)) item.Nothing) six.0)) (record {
          no_fault = no_fault;
          last = six.0;
          form_is = sym (late_form t (omega (arith, six.1)));
          no_gap_before = hello_gap text (omega arith);
          no_gap_after = hello_gap t (omega (arith, long));
          segments_before = hello_segments text (omega arith);
          segments_after = hello_segments t (omega (arith, long));
          fences_before = hello_fences text (omega arith);
          fences_after = hello_fences t (omega (arith, long));
        })
        | inr other ↦ subst P (sym (hello_item text b early ∙ ap (λ c. cond c (item.Hello (form_of t)) item.Nothing) other.0)) (record {
          no_fault = no_fault;
          same_form = early_form t (omega (arith, long, other.1)) ∙ sym (early_form text early);
          quiet = says_of.KeepsSegments (hello_segments t (omega (arith, long)) ∙ sym (hello_segments text (omega arith)))
              (hello_gap t (omega (arith, long)) ∙ sym (hello_gap text (omega arith)));
          same_prints = ap (flat_map sent_prints) (hello_segments t (omega (arith, long)) ∙ sym (hello_segments text (omega arith)));
          same_fences = hello_fences t (omega (arith, long)) ∙ sym (hello_fences text (omega arith));
        })
      ]

  -- behind the hello
  module _ (late : 6 ≤ length text) where
    abbrev kind : ℕ
    kind = slice_index (last_packet (text ++ b ∷ [])) 0

    abbrev count : ℕ
    count = length (last_packet (text ++ b ∷ []))

    same_form : heard_form (text ++ b ∷ []) ≡ heard_form text
    same_form =
        let long : length (text ++ b ∷ []) ≡ length text + 1 = length-append text (b ∷ []) in
        late_form (text ++ b ∷ []) (omega (arith, long, late))
        ∙ ap (λ n. record { channels = n; factor = factor_of (text ++ b ∷ []) }) (same_channels text b (omega (arith, late)))
        ∙ ap (λ n. record { channels = channels_of text; factor = n }) (same_factor text b (omega (arith, late)))
        ∙ sym (late_form text late)

    hears : says_of.hears_prints text ≡ carries_prints text
    hears = ap (λ form. form.channels == 0) (late_form text late)

    gain : Is text b late Data → says_of.GainsByte text b
    gain by = elim (next_segments text b) [
      | NewSegment gap grown ↦ absurd (true_isnt_false (sym gap ∙ by.begin_test))
      | SameSegment front part no_gap old new ↦ record {
        front = front;
        segment = part;
        before = old;
        after = new ∙ ap (λ c. front ++ (part ++ cond c (last_byte (text ++ b ∷ []) ∷ []) []) ∷ []) by.data_test
            ∙ ap (λ byte. front ++ (part ++ byte ∷ []) ∷ []) (last_byte-append text b);
        no_gap_before = gap_before text b late ∙ (gap_of_data kind count by).0;
        no_gap_after = (gap_of_data kind count by).1;
      }
    ]

    sound_says : Is text b late Data → carries_prints text ≡ false → says_of.SaysByte b limit text b
    sound_says by sound = record {
      no_fault = no_fault;
      same_form = same_form;
      is_last = refl;
      sounds = hears ∙ sound;
      gain = gain by;
      same_fences = no_fence by.fence_test;
    }

    -- a byte of a print
    prints_say : (by : Is text b late Data) → carries_prints text ≡ true → Says (item_of (text ++ b ∷ [])) limit text b
    prints_say by carries =
        let P : Item → Type 0 = λ i. Says i limit text b in
        let gained : says_of.GainsByte text b = gain by in
        let last : last_segment text ≡ gained.segment = last_segment-append text gained.front gained.segment gained.before in
        let left : rest_of 8 (last_segment text) ≡ rest_of 8 gained.segment = ap (rest_of 8) last in
        let same_long : length (rest_of 8 (last_segment text)) ≡ length (rest_of 8 gained.segment) = ap length left in
        elim (next_prints text b) [
          | NoPrint gap same last_after ↦ absurd (true_isnt_false (sym gap ∙ by.begin_test))
          | NoData no_gap no_data same last_after ↦ absurd (true_isnt_false (sym by.data_test ∙ no_data))
          | PartOfPrint no_gap data_byte short same rest ↦
              subst P (sym (prints_item text b late by carries [] (completed-more all_sent_prints text b [] (same ∙ sym (append-nil (all_sent_prints text)))))) (record {
                no_fault = no_fault;
                same_form = same_form;
                quiet = says_of.PartOfPrint (hears ∙ carries) gained (sent-part gained.segment b (omega (arith, short, same_long)));
                same_prints = same;
                same_fences = no_fence by.fence_test;
              })
          | WholePrint no_gap data_byte full grown rest ↦
              subst P (sym (prints_item text b late by carries (sent_print (rest_of 8 (last_segment text) ++ b ∷ []) ∷ [])
              (completed-more all_sent_prints text b (sent_print (rest_of 8 (last_segment text) ++ b ∷ []) ∷ []) grown))) (record {
                no_fault = no_fault;
                same_form = same_form;
                carries = hears ∙ carries;
                gain = gained;
                sent = sent-whole gained.segment b (omega (arith, full, same_long)) ∙ ap (λ bytes. sent_prints gained.segment ++ sent_print (bytes ++ b ∷ []) ∷ []) (sym left);
                more_prints = grown;
                same_fences = no_fence by.fence_test;
              })
        ]

    part_says : (part : Part) → Is text b late part → Says (item_of (text ++ b ∷ [])) limit text b
    part_says Data by =
        let P : Item → Type 0 = λ i. Says i limit text b in
        elim (cases_Bool (carries_prints text)) [
          | inl carries ↦ prints_say by carries
          | inr sound ↦ subst P (sym (sound_item text b late by sound)) (sound_says by sound)
        ]
    part_says FenceEnd by =
        let P : Item → Type 0 = λ i. Says i limit text b in
        subst P (sym (fence_item text b late by)) (record {
          no_fault = no_fault;
          same_form = same_form;
          same_segments = keeps_segments by.begin_test by.data_test;
          no_gap_before = gap_before text b late ∙ (gap_of_fence kind count by).0;
          no_gap_after = (gap_of_fence kind count by).1;
          more_fences = fences_by true by.fence_test;
        })
    part_says GapBegin by =
        let P : Item → Type 0 = λ i. Says i limit text b in
        subst P (sym (gap_begin_item text b late by)) (record {
          no_fault = no_fault;
          same_form = same_form;
          quiet = says_of.BeginsGap (new_segment by.begin_test) (gap_before text b late ∙ (gap_of_begin kind count by).0) (gap_of_begin kind count by).1;
          same_prints = sends_nothing text b by.data_test;
          same_fences = no_fence by.fence_test;
        })
    part_says GapEnd by =
        let P : Item → Type 0 = λ i. Says i limit text b in
        subst P (sym (gap_end_item text b late by)) (record {
          no_fault = no_fault;
          same_form = same_form;
          same_segments = keeps_segments by.begin_test by.data_test;
          gap_before = gap_before text b late ∙ (gap_of_end kind count by).0;
          no_gap_after = (gap_of_end kind count by).1;
          same_fences = no_fence by.fence_test;
        })
    part_says Other by =
        let P : Item → Type 0 = λ i. Says i limit text b in
        subst P (sym (other_item text b late by)) (record {
          no_fault = no_fault;
          same_form = same_form;
          quiet = says_of.KeepsSegments (keeps_segments by.begin_test by.data_test) (gap_of_other kind count by ∙ sym (gap_before text b late));
          same_prints = sends_nothing text b by.data_test;
          same_fences = no_fence by.fence_test;
        })

    late_says : Says (item_of (text ++ b ∷ [])) limit text b
    late_says = part_says (part_of 3 kind count) (says kind count)

  item_says : Says (item_of (text ++ b ∷ [])) limit text b
  item_says = elim (leb_tells 6 (length text)) [ inl late ↦ late_says late.1 | inr early ↦ hello_says early.1 ]

-- what the item at a text's last byte tells
pub says_at : (limit : ℕ) (text : List ℕ) (b : ℕ) → Says (item_at limit (text ++ b ∷ [])) limit text b
unfolding item_at
says_at limit text b =
    let made : Option WireFault → Item = λ o. option_map_or (λ fault. item.Fault fault) o (item_of (text ++ b ∷ [])) in
    let P : Item → Type 0 = λ i. Says i limit text b in
    elim (none_or_some (station_fault limit (text ++ b ∷ []))) [
      | inr some ↦ subst P (sym (ap made some.1)) (says_fault limit text b some.0 some.1)
      | inl none ↦ subst P (sym (ap made none)) (item_says limit text b none)
    ]

-- the same of an item that a push answered
pub item_tells : (item : Item) (limit : ℕ) (text : List ℕ) (b : ℕ) → item ≡ item_at limit (text ++ b ∷ []) → Says item limit text b
item_tells item limit text b is = let P : Item → Type 0 = λ i. Says i limit text b in subst P (sym is) (says_at limit text b)
