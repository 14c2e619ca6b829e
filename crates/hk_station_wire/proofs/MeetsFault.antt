-- What a byte meets: in the hello by its place, and behind it by the packet that it belongs to.
use Rattle.std.proofs.Common.{◌≡◌, ℕ, ◌+◌, ◌-◌, ◌<◌, ◌≤◌, List, [], ◌∷◌, ◌++◌, length, take, drop, refl, sym, ◌∙◌, ap, arith, length-append, Bool, true, false, inl, inr, Option, None, Some, cond, slice_index}
use Rattle.std.proofs.lemmas.List.{append-nil}
use Rattle.std.proofs.lemmas.Bool.{lt-ltb, le-ltb}
use Rattle.std.proofs.lemmas.Bool.Decides.{leb_tells}
use Rattle.std.proofs.Math.Seq.{take-append_seam, get_or-append_seam}
use Rattle.std.specs.Prelude.{◌&&◌, ◌==◌, nat_lt, not}
use Rattle.std.specs.Option.{option_or}
use Rattle.std.specs.Int.{w16, w32, from_be_bytes}
use Rattle.std.specs.List.{list_any}
use Rattle.hk_base.specs.declared.plain.WireFault.{WireFault}
use Rattle.hk_base.specs.declared.plain.WireFault.TheVariants.{BadHello, BadKind, BadLength, BadMask, TooLong}
use Rattle.hk_spec_streams.specs.Pieces.{first_that_holds, last_bytes, completed}
use Rattle.hk_spec_streams.specs.Station.{DATA, station_met, station_length_fits, has_bad_mask, channels_of, hello_allows}
use Rattle.hk_station_wire.specs.LastPacket.{last_packet, all_sent_prints, ends_with_data}
use Rattle.hk_station_wire.proofs.GrowingSegments.{packets_short}
use Rattle.hk_spec_streams.proofs.Completed.{completed-more}
use Rattle.hk_station_wire.proofs.GrowingPrints.{next_prints, NoPrint, NoData, PartOfPrint, WholePrint}
use Rattle.hk_wire.specs.declared.packet.LengthSize.TheVariants.{Two}
use Rattle.hk_wire.specs.Held.{length_in}
use Rattle.hk_station_wire.specs.Steps.{is_kind, head_fault}

-- the five tests, and what stands beside each
abbrev rows : Bool → Bool → Bool → Bool → Bool → ℕ → ℕ → Option WireFault
rows a b c d e limit place = first_that_holds ((a, TooLong limit) ∷ (b, BadHello place) ∷ (c, BadKind place) ∷ (d, BadLength (place - 1)) ∷ (e, BadMask place) ∷ [])

pub true_isnt_false : true ≡ false → ⊥
true_isnt_false e = cc

only_hello : (b : Bool) (limit place : ℕ) → rows false b false false false limit place ≡ cond b (Some (BadHello place)) None
only_hello true limit place = refl
only_hello false limit place = refl

only_packet : (c d e : Bool) (limit place : ℕ) → rows false false c d e limit place
    ≡ option_or (first_that_holds ((c, BadKind place) ∷ (d, BadLength (place - 1)) ∷ [])) (cond e (Some (BadMask place)) None)
only_packet true d e limit place = refl
only_packet false true e limit place = refl
only_packet false false true limit place = refl
only_packet false false false limit place = refl

-- whether the last byte completes a print with too many weak bits
abbrev pub bad_print : List ℕ → Bool
bad_print text = list_any (has_bad_mask (channels_of text)) (completed all_sent_prints text)

-- the five tests of a text with one more byte
met_rows : (limit : ℕ) (text : List ℕ) (b : ℕ) → station_met limit (text ++ b ∷ []) ≡ rows
    (nat_lt limit (length text + 1))
    (nat_lt (length text) 6 && not (hello_allows (length text) (slice_index text 4) b))
    ((length (last_packet (text ++ b ∷ [])) == 1) && not (is_kind (slice_index (last_packet (text ++ b ∷ [])) 0)))
    ((length (last_packet (text ++ b ∷ [])) == 3)
    && not (station_length_fits (slice_index (last_packet (text ++ b ∷ [])) 0) (from_be_bytes w16 (drop 1 (last_packet (text ++ b ∷ []))))))
    (bad_print (text ++ b ∷ [])) limit (length text)
unfolding station_met
met_rows limit text b =
    let t : List ℕ = text ++ b ∷ [] in
    let bytes : List ℕ = last_packet (text ++ b ∷ []) in
    let long : length (text ++ b ∷ []) ≡ length text + 1 = length-append text (b ∷ []) in
    let place : length (text ++ b ∷ []) - 1 ≡ length text = omega (arith, long) in
    let kind : Bool = (length bytes == 1) && not (is_kind (slice_index bytes 0)) in
    let fits : Bool = (length bytes == 3) && not (station_length_fits (slice_index bytes 0) (from_be_bytes w16 (drop 1 bytes))) in
    let bad : Bool = bad_print (text ++ b ∷ []) in
    let all : Bool → ℕ → List ℕ → ℕ → ℕ → Option WireFault = λ over p before byte from. first_that_holds ((over, TooLong limit)
    ∷ (nat_lt p 6 && not (hello_allows (length before) (slice_index before 4) byte), BadHello p)
    ∷ (kind, BadKind p) ∷ (fits, BadLength from) ∷ (bad, BadMask p) ∷ []) in
    let from : length text + 1 - 2 ≡ length text - 1 = omega arith in
    ap (λ n. all (nat_lt limit n) (length t - 1) (take (length t - 1) t) (slice_index t (length t - 1)) (length t - 1 + 1 - 2)) long
    ∙ ap (λ p. all (nat_lt limit (length text + 1)) p (take p t) (slice_index t p) (p + 1 - 2)) place
    ∙ ap (λ before. all (nat_lt limit (length text + 1)) (length text) before (slice_index t (length text)) (length text + 1 - 2)) (take-append_seam text (b ∷ []))
    ∙ ap (λ byte. all (nat_lt limit (length text + 1)) (length text) text byte (length text + 1 - 2)) (get_or-append_seam text b [] 0)
    ∙ ap (λ f. all (nat_lt limit (length text + 1)) (length text) text b f) from

-- the byte at the limit isn't looked at
pub met_limit : (text : List ℕ) (b : ℕ) → station_met (length text) (text ++ b ∷ []) ≡ Some (TooLong (length text))
met_limit text b =
    met_rows (length text) text b
    ∙ ap (λ a. rows a (nat_lt (length text) 6 && not (hello_allows (length text) (slice_index text 4) b))
    ((length (last_packet (text ++ b ∷ [])) == 1) && not (is_kind (slice_index (last_packet (text ++ b ∷ [])) 0)))
    ((length (last_packet (text ++ b ∷ [])) == 3)
    && not (station_length_fits (slice_index (last_packet (text ++ b ∷ [])) 0) (from_be_bytes w16 (drop 1 (last_packet (text ++ b ∷ []))))))
    (bad_print (text ++ b ∷ [])) (length text) (length text)) (lt-ltb (length text) (length text + 1) (omega arith))

over_limit : (b c d e : Bool) (limit place : ℕ) → rows true b c d e limit place ≡ None → ⊥
over_limit b c d e limit place is = cc

-- where a byte meets nothing, there was room for it
pub met_room : (limit : ℕ) (text : List ℕ) (b : ℕ) → station_met limit (text ++ b ∷ []) ≡ None → length text < limit
met_room limit text b fine = elim (leb_tells (length text + 1) limit) [
  | inl room ↦ omega (arith, room.1)
  | inr full ↦
      let bytes : List ℕ = last_packet (text ++ b ∷ []) in
      let hello : Bool = nat_lt (length text) 6 && not (hello_allows (length text) (slice_index text 4) b) in
      let kind : Bool = (length bytes == 1) && not (is_kind (slice_index bytes 0)) in
      let fits : Bool = (length bytes == 3) && not (station_length_fits (slice_index bytes 0) (from_be_bytes w16 (drop 1 bytes))) in
      absurd (over_limit hello kind fits (bad_print (text ++ b ∷ [])) limit (length text)
      (sym (met_rows limit text b ∙ ap (λ a. rows a hello kind fits (bad_print (text ++ b ∷ [])) limit (length text)) (lt-ltb limit (length text + 1) full.1)) ∙ fine))
]

-- only a byte of data completes a print
pub sends_nothing : (text : List ℕ) (b : ℕ) → ends_with_data (text ++ b ∷ []) ≡ false → all_sent_prints (text ++ b ∷ []) ≡ all_sent_prints text
sends_nothing text b none = elim (next_prints text b) [
  | NoPrint gap same last ↦ same
  | NoData no_gap no_data same last ↦ same
  | PartOfPrint no_gap data_byte short same rest ↦ same
  | WholePrint no_gap data_byte full grown rest ↦ absurd (true_isnt_false (sym data_byte ∙ none))
]

-- a byte that completes no print
pub no_print : (text : List ℕ) (b : ℕ) → all_sent_prints (text ++ b ∷ []) ≡ all_sent_prints text → completed all_sent_prints (text ++ b ∷ []) ≡ []
no_print text b same = completed-more all_sent_prints text b [] (same ∙ sym (append-nil (all_sent_prints text)))

pub no_bad_print : (text : List ℕ) (b : ℕ) → all_sent_prints (text ++ b ∷ []) ≡ all_sent_prints text → bad_print (text ++ b ∷ []) ≡ false
no_bad_print text b same = ap (list_any (has_bad_mask (channels_of (text ++ b ∷ [])))) (no_print text b same)

turned : (c : Bool) (o : Option WireFault) → cond (not c) o None ≡ cond c None o
turned true o = refl
turned false o = refl

hello_sends_nothing : (text : List ℕ) (b : ℕ) → length text < 6 → all_sent_prints (text ++ b ∷ []) ≡ all_sent_prints text
hello_sends_nothing text b early =
    let long : length (text ++ b ∷ []) ≡ length text + 1 = length-append text (b ∷ []) in
    let bytes : last_packet (text ++ b ∷ []) ≡ [] = ap last_bytes (packets_short (text ++ b ∷ []) (omega (arith, long))) in
    let no_data : ends_with_data (text ++ b ∷ []) ≡ false = ap (λ bs. (slice_index bs 0 == DATA) && nat_lt 3 (length bs)) bytes in
    sends_nothing text b no_data

-- in the hello
pub met_hello : (limit : ℕ) (text : List ℕ) (b : ℕ) → length text < 6 → length text < limit
    → station_met limit (text ++ b ∷ []) ≡ cond (hello_allows (length text) (slice_index text 4) b) None (Some (BadHello (length text)))
met_hello limit text b early room =
    let long : length (text ++ b ∷ []) ≡ length text + 1 = length-append text (b ∷ []) in
    let bytes : last_packet (text ++ b ∷ []) ≡ [] = ap last_bytes (packets_short (text ++ b ∷ []) (omega (arith, long))) in
    let kind : ((length (last_packet (text ++ b ∷ [])) == 1) && not (is_kind (slice_index (last_packet (text ++ b ∷ [])) 0))) ≡ false =
    ap (λ bs. (length bs == 1) && not (is_kind (slice_index bs 0))) bytes in
    let fits : ((length (last_packet (text ++ b ∷ [])) == 3)
    && not (station_length_fits (slice_index (last_packet (text ++ b ∷ [])) 0) (from_be_bytes w16 (drop 1 (last_packet (text ++ b ∷ [])))))) ≡ false =
    ap (λ bs. (length bs == 3) && not (station_length_fits (slice_index bs 0) (from_be_bytes w16 (drop 1 bs)))) bytes in
    let p : ℕ = length text in
    let allowed : Bool = hello_allows (length text) (slice_index text 4) b in
    met_rows limit text b
    ∙ ap (λ a. rows a (nat_lt p 6 && not allowed) ((length (last_packet (text ++ b ∷ [])) == 1) && not (is_kind (slice_index (last_packet (text ++ b ∷ [])) 0)))
    ((length (last_packet (text ++ b ∷ [])) == 3)
    && not (station_length_fits (slice_index (last_packet (text ++ b ∷ [])) 0) (from_be_bytes w16 (drop 1 (last_packet (text ++ b ∷ []))))))
    (bad_print (text ++ b ∷ [])) limit p) (le-ltb limit (length text + 1) (omega arith))
    ∙ ap (λ c. rows false (nat_lt p 6 && not allowed) c
    ((length (last_packet (text ++ b ∷ [])) == 3)
    && not (station_length_fits (slice_index (last_packet (text ++ b ∷ [])) 0) (from_be_bytes w16 (drop 1 (last_packet (text ++ b ∷ []))))))
    (bad_print (text ++ b ∷ [])) limit p) kind
    ∙ ap (λ d. rows false (nat_lt p 6 && not allowed) false d (bad_print (text ++ b ∷ [])) limit p) fits
    ∙ ap (λ e. rows false (nat_lt p 6 && not allowed) false false e limit p) (no_bad_print text b (hello_sends_nothing text b early))
    ∙ ap (λ c. rows false (c && not allowed) false false false limit p) (lt-ltb (length text) 6 early)
    ∙ only_hello (not allowed) limit p
    ∙ turned allowed (Some (BadHello p))

be_two : (bytes : List ℕ) → from_be_bytes w16 (take 2 bytes) ≡ from_be_bytes w16 bytes
be_two [] = refl
be_two (a ∷ []) = refl
be_two (a ∷ b ∷ bytes) = refl

pub be_four : (bytes : List ℕ) → from_be_bytes w32 (take 4 bytes) ≡ from_be_bytes w32 bytes
be_four [] = refl
be_four (a ∷ []) = refl
be_four (a ∷ b ∷ []) = refl
be_four (a ∷ b ∷ c ∷ []) = refl
be_four (a ∷ b ∷ c ∷ d ∷ bytes) = refl

pub length_in_two : (bytes : List ℕ) → length_in Two bytes ≡ from_be_bytes w16 (drop 1 bytes)
length_in_two bytes = be_two (drop 1 bytes)

-- behind the hello
pub met_packet : (limit : ℕ) (text : List ℕ) (b : ℕ) → 6 ≤ length text → length text < limit
    → station_met limit (text ++ b ∷ []) ≡ option_or
    (head_fault 3 (length text) (length (last_packet (text ++ b ∷ []))) (slice_index (last_packet (text ++ b ∷ [])) 0) (length_in Two (last_packet (text ++ b ∷ []))))
    (cond (bad_print (text ++ b ∷ [])) (Some (BadMask (length text))) None)
met_packet limit text b late room =
    let p : ℕ = length text in
    let bytes : List ℕ = last_packet (text ++ b ∷ []) in
    let allowed : Bool = hello_allows (length text) (slice_index text 4) b in
    let kind : Bool = (length bytes == 1) && not (is_kind (slice_index bytes 0)) in
    let bad : Bool = bad_print (text ++ b ∷ []) in
    let fits : ℕ → Bool = λ n. (length bytes == 3) && not (station_length_fits (slice_index bytes 0) n) in
    met_rows limit text b
    ∙ ap (λ a. rows a (nat_lt p 6 && not allowed) kind (fits (from_be_bytes w16 (drop 1 bytes))) bad limit p) (le-ltb limit (length text + 1) (omega arith))
    ∙ ap (λ c. rows false (c && not allowed) kind (fits (from_be_bytes w16 (drop 1 bytes))) bad limit p) (le-ltb (length text) 6 late)
    ∙ ap (λ n. rows false false kind (fits n) bad limit p) (sym (length_in_two bytes))
    ∙ only_packet kind (fits (length_in Two bytes)) bad limit p
