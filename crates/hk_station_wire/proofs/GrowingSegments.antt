-- A station's text with one more byte: its packets, segments, sent prints and fences.
use Rattle.std.proofs.Common.{◌≡◌, ℕ, ◌+◌, ◌-◌, ◌<◌, ◌≤◌, List, [], ◌∷◌, ◌++◌, length, drop, map, flat_map, slice_index, refl, sym, ◌∙◌, ap, arith, length-append, append_assoc, Bool, true, false, inl, inr, cond}
use Rattle.std.proofs.lemmas.List.{append-nil, drop_all, map-append}
use Rattle.std.proofs.lemmas.Grind.{flat_map-append}
use Rattle.std.proofs.lemmas.List.Splits.{slice_split-cons_yes, slice_split-cons_no}
use Rattle.std.proofs.lemmas.Bool.{eqb-true, le-leb, cases_Bool}
use Rattle.std.proofs.lemmas.Bool.Decides.{leb_tells, eqb_tells}
use Rattle.std.proofs.Math.Seq.{get_or-append_seam}
use Rattle.std.specs.Prelude.{◌&&◌, ◌==◌, nat_lt, if◌then◌else◌}
use Rattle.std.specs.Int.{w16}
use Rattle.std.specs.List.{slice_split, onto_first, list_all}
use Rattle.hk_spec_streams.specs.Pieces.{Piece, pieces, pieces_within, last_bytes, is_whole}
use Rattle.hk_spec_streams.specs.Grammar.{packets, packet_size, kind_of, ends_at_start}
use Rattle.hk_spec_streams.specs.Station.{station_grammar, segments, data_of, DATA, GAP}
use Rattle.hk_station_wire.specs.LastPacket.{last_packet, last_byte, begins_gap, ends_with_data}
use Rattle.hk_spec_streams.proofs.PacketSize.{packet_size_is_size}
use Rattle.hk_spec_streams.proofs.GrowingPieces.{last_bytes-append}
use Rattle.hk_spec_streams.proofs.GrowingPackets.{all_whole, Next, Begins, Goes, next_behind, last_bytes-next, over}

-- no packet before the hello is there
pub packets_short : (text : List ℕ) → length text ≤ 6 → packets station_grammar text ≡ []
unfolding packets pieces_within
packets_short text h = ap (λ bytes. pieces (packet_size w16) 6 bytes) (drop_all 6 text h)

pub next_packet : (text : List ℕ) (b : ℕ) → 6 ≤ length text
    → Next (packet_size w16) (length text) b (packets station_grammar text) (packets station_grammar (text ++ b ∷ []))
unfolding packets
next_packet text b h = next_behind (packet_size w16) (packet_size_is_size w16) 6 b text h

-- the last packet is the byte alone where the last one was over, and else the last one with the byte behind it
pub last_packet-next : (text : List ℕ) (b : ℕ) → 6 ≤ length text
    → last_packet (text ++ b ∷ []) ≡ (if over (packet_size w16) (last_packet text) then b ∷ [] else last_packet text ++ b ∷ [])
last_packet-next text b h = last_bytes-next (packet_size w16) (length text) b _ _ (next_packet text b h)

pub last_byte-append : (text : List ℕ) (b : ℕ) → last_byte (text ++ b ∷ []) ≡ b
last_byte-append text b =
    let n : length (text ++ b ∷ []) ≡ length text + 1 = length-append text (b ∷ []) in
    let at : length (text ++ b ∷ []) - 1 ≡ length text = omega (arith, n) in
    ap (slice_index (text ++ b ∷ [])) at ∙ get_or-append_seam text b [] 0

gap_has_no_data : (kind : ℕ) (c : Bool) (b : ℕ) → (kind == GAP) ≡ true → cond ((kind == DATA) && c) (b ∷ []) [] ≡ []
gap_has_no_data kind c b gap =
    let is : kind ≡ GAP = eqb-true _ _ gap in
    ap (λ k. cond ((k == DATA) && c) (b ∷ []) []) is

-- parts of a list between the items that pass: an item more goes to the last part, or begins a new one
record Parts {A : Type 0} (p : A → Bool) (xs : List A) : Type 0 where
  front : List (List A)
  part : List A
  is : slice_split p xs ≡ front ++ part ∷ []
  joins : (x : A) → p x ≡ false → slice_split p (xs ++ x ∷ []) ≡ front ++ (part ++ x ∷ []) ∷ []
  begins : (x : A) → p x ≡ true → slice_split p (xs ++ x ∷ []) ≡ (front ++ part ∷ []) ++ [] ∷ []

onto_parts : {A : Type 0} (p : A → Bool) (y : A) (ys : List A) → p y ≡ false → (front : List (List A)) (part : List A) → slice_split p ys ≡ front ++ part ∷ []
    → ((x : A) → p x ≡ false → slice_split p (ys ++ x ∷ []) ≡ front ++ (part ++ x ∷ []) ∷ [])
    → ((x : A) → p x ≡ true → slice_split p (ys ++ x ∷ []) ≡ (front ++ part ∷ []) ++ [] ∷ [])
    → Parts p (y ∷ ys)
onto_parts p y ys stays [] part is joins begins = record {
  front = [];
  part = y ∷ part;
  is = slice_split-cons_no p y ys stays ∙ ap (onto_first y) is;
  joins = λ x no. slice_split-cons_no p y (ys ++ x ∷ []) stays ∙ ap (onto_first y) (joins x no);
  begins = λ x yes. slice_split-cons_no p y (ys ++ x ∷ []) stays ∙ ap (onto_first y) (begins x yes);
}
onto_parts p y ys stays (f ∷ front) part is joins begins = record {
  front = (y ∷ f) ∷ front;
  part = part;
  is = slice_split-cons_no p y ys stays ∙ ap (onto_first y) is;
  joins = λ x no. slice_split-cons_no p y (ys ++ x ∷ []) stays ∙ ap (onto_first y) (joins x no);
  begins = λ x yes. slice_split-cons_no p y (ys ++ x ∷ []) stays ∙ ap (onto_first y) (begins x yes);
}

parts_of : {A : Type 0} (p : A → Bool) (xs : List A) → Parts p xs
parts_of p [] = record {
  front = [];
  part = [];
  is = refl;
  joins = λ x no. ap (λ c. cond c ([] ∷ [] ∷ []) ((x ∷ []) ∷ [])) no;
  begins = λ x yes. ap (λ c. cond c ([] ∷ [] ∷ []) ((x ∷ []) ∷ [])) yes;
}
parts_of p (y ∷ ys) =
    let later = parts_of p ys in
    elim (cases_Bool (p y)) [
      | inl cuts ↦ record {
        front = [] ∷ later.front;
        part = later.part;
        is = slice_split-cons_yes p y ys cuts ∙ ap (λ parts. [] ∷ parts) later.is;
        joins = λ x no. slice_split-cons_yes p y (ys ++ x ∷ []) cuts ∙ ap (λ parts. [] ∷ parts) (later.joins x no);
        begins = λ x yes. slice_split-cons_yes p y (ys ++ x ∷ []) cuts ∙ ap (λ parts. [] ∷ parts) (later.begins x yes);
      }
      | inr stays ↦ onto_parts p y ys stays later.front later.part later.is later.joins later.begins
    ]

-- a packet's data, which are the same in each text
abbrev pub packet_data : Piece → List ℕ
packet_data = data_of []

abbrev segments_of : List Piece → List (List ℕ)
segments_of ps = map (flat_map packet_data) (slice_split (λ packet. kind_of packet == GAP) ps)

-- the same of segments
record Segments (ps : List Piece) : Type 0 where
  front : List (List ℕ)
  part : List ℕ
  is : segments_of ps ≡ front ++ part ∷ []
  joins : (x : Piece) → (kind_of x == GAP) ≡ false → segments_of (ps ++ x ∷ []) ≡ front ++ (part ++ packet_data x) ∷ []
  begins : (x : Piece) → (kind_of x == GAP) ≡ true → segments_of (ps ++ x ∷ []) ≡ (front ++ part ∷ []) ++ [] ∷ []

segments_parts : (ps : List Piece) → Segments ps
segments_parts ps =
    let parts = parts_of (λ packet. kind_of packet == GAP) ps in
    let join : List Piece → List ℕ = flat_map packet_data in
    record {
      front = map (flat_map packet_data) parts.front;
      part = flat_map packet_data parts.part;
      is = ap (map join) parts.is ∙ map-append join parts.front (parts.part ∷ []);
      joins = λ x no.
          ap (map join) (parts.joins x no) ∙ map-append join parts.front ((parts.part ++ x ∷ []) ∷ [])
          ∙ ap (λ last. map join parts.front ++ last ∷ [])
          (flat_map-append packet_data parts.part (x ∷ []) ∙ ap (λ xs. flat_map packet_data parts.part ++ xs) (append-nil (packet_data x)));
      begins = λ x yes.
          ap (map join) (parts.begins x yes) ∙ map-append join (parts.front ++ parts.part ∷ []) ([] ∷ [])
          ∙ ap (λ all. all ++ [] ∷ []) (map-append join parts.front (parts.part ∷ []));
    }

abbrev data_byte : List ℕ → ℕ → List ℕ
data_byte bytes b = if (slice_index bytes 0 == DATA) && nat_lt 3 (length bytes) then b ∷ [] else []

abbrev pub piece_at : ℕ → List ℕ → Piece
piece_at place bytes = record { place = place; bytes = bytes }

data_in : (c : Bool) (xs ys : List ℕ) → cond c (xs ++ ys) [] ≡ cond c xs [] ++ cond (c && true) ys []
data_in true xs ys = refl
data_in false xs ys = refl

no_data : (c : Bool) (ys : List ℕ) → ◌≡◌ {A = List ℕ} (cond c [] []) (cond c [] [] ++ cond (c && false) ys [])
no_data true ys = refl
no_data false ys = refl

-- a byte more in a packet that has begun
data_of-append : (place b : ℕ) (bytes : List ℕ) → 0 < length bytes
    → packet_data (piece_at place (bytes ++ b ∷ [])) ≡ packet_data (piece_at place bytes) ++ data_byte (bytes ++ b ∷ []) b
data_of-append place b [] h = absurd (omega arith)
data_of-append place b (x ∷ []) h = no_data (x == DATA) (b ∷ [])
data_of-append place b (x ∷ y ∷ []) h = no_data (x == DATA) (b ∷ [])
data_of-append place b (x ∷ y ∷ z ∷ zs) h =
    let long : length (zs ++ b ∷ []) ≡ length zs + 1 = length-append zs (b ∷ []) in
    let test : nat_lt 3 (length (x ∷ y ∷ z ∷ (zs ++ b ∷ []))) ≡ true =
    elim (leb_tells 4 (length (x ∷ y ∷ z ∷ (zs ++ b ∷ [])))) [ inl is ↦ is.0 | inr isnt ↦ absurd (omega (arith, isnt.1, long)) ] in
    data_in (x == DATA) zs (b ∷ []) ∙ ap (λ c. cond (x == DATA) zs [] ++ cond ((x == DATA) && c) (b ∷ []) []) (sym test)

kind-append : (place b : ℕ) (bytes : List ℕ) → 0 < length bytes → kind_of (piece_at place (bytes ++ b ∷ [])) ≡ kind_of (piece_at place bytes)
kind-append place b [] h = absurd (omega arith)
kind-append place b (x ∷ bytes) h = refl

-- the payload byte of a data packet that a text ends with, if it ends with one
abbrev pub data_gained : List ℕ → List ℕ
data_gained text = if ends_with_data text then last_byte text ∷ [] else []

-- One byte more: the kind byte of a gap begins a new segment, and else the last segment gains the byte where it is data.
pub data NextSegments (text : List ℕ) (b : ℕ) : Type 0 where
  NewSegment : begins_gap (text ++ b ∷ []) ≡ true → segments (text ++ b ∷ []) ≡ segments text ++ [] ∷ [] → NextSegments text b
  SameSegment : (front : List (List ℕ)) (part : List ℕ) → begins_gap (text ++ b ∷ []) ≡ false → segments text ≡ front ++ part ∷ []
      → segments (text ++ b ∷ []) ≡ front ++ (part ++ data_gained (text ++ b ∷ [])) ∷ [] → NextSegments text b

segments_are : (text : List ℕ) → segments text ≡ segments_of (packets station_grammar text)
unfolding segments
segments_are text = refl

false_and : (a b : Bool) → a ≡ false → (a && b) ≡ false
false_and a b isnt = ap (λ c. c && b) isnt

same_either : (c : Bool) → ◌≡◌ {A = List ℕ} (cond c [] []) []
same_either true = refl
same_either false = refl

never : (c : Bool) (xs : List ℕ) → cond (c && false) xs [] ≡ []
never true xs = refl
never false xs = refl

-- in the hello there is no packet
next_segments_hello : (text : List ℕ) (b : ℕ) → length text < 6 → NextSegments text b
next_segments_hello text b h =
    let long : length (text ++ b ∷ []) ≡ length text + 1 = length-append text (b ∷ []) in
    let none : packets station_grammar text ≡ [] = packets_short text (omega arith) in
    let none_after : packets station_grammar (text ++ b ∷ []) ≡ [] = packets_short (text ++ b ∷ []) (omega (arith, long)) in
    let bytes : last_packet (text ++ b ∷ []) ≡ [] = ap last_bytes none_after in
    let no_gap : begins_gap (text ++ b ∷ []) ≡ false = ap (λ bs. (length bs == 1) && (slice_index bs 0 == GAP)) bytes in
    let no_data : data_gained (text ++ b ∷ []) ≡ [] =
    ap (λ bs. cond ((slice_index bs 0 == DATA) && nat_lt 3 (length bs)) (last_byte (text ++ b ∷ []) ∷ []) []) bytes in
    SameSegment [] [] no_gap (segments_are text ∙ ap segments_of none)
    (segments_are (text ++ b ∷ []) ∙ ap segments_of none_after ∙ sym (ap (λ gained. gained ∷ []) no_data))

-- the byte begins a packet
next_segments_begin : (text : List ℕ) (b place : ℕ)
    → packets station_grammar (text ++ b ∷ []) ≡ packets station_grammar text ++ piece_at place (b ∷ []) ∷ [] → NextSegments text b
next_segments_begin text b place grown =
    let parts = segments_parts (packets station_grammar text) in
    let bytes : last_packet (text ++ b ∷ []) ≡ b ∷ [] = ap last_bytes grown ∙ last_bytes-append (packets station_grammar text) (piece_at place (b ∷ [])) in
    let gap : begins_gap (text ++ b ∷ []) ≡ (b == GAP) = ap (λ bs. (length bs == 1) && (slice_index bs 0 == GAP)) bytes in
    let old : segments text ≡ parts.front ++ parts.part ∷ [] = segments_are text ∙ parts.is in
    let new : segments (text ++ b ∷ []) ≡ segments_of (packets station_grammar text ++ piece_at place (b ∷ []) ∷ []) =
    segments_are (text ++ b ∷ []) ∙ ap segments_of grown in
    elim (cases_Bool (b == GAP)) [
      | inl is ↦ NewSegment (gap ∙ is) (new ∙ parts.begins (piece_at place (b ∷ [])) is ∙ sym (ap (λ all. all ++ [] ∷ []) old))
      | inr isnt ↦
          let none : packet_data (piece_at place (b ∷ [])) ≡ [] = same_either (b == DATA) in
          let gained : data_gained (text ++ b ∷ []) ≡ [] =
          ap (λ bs. cond ((slice_index bs 0 == DATA) && nat_lt 3 (length bs)) (last_byte (text ++ b ∷ []) ∷ []) []) bytes ∙ never (b == DATA) (last_byte (text ++ b ∷ []) ∷ []) in
          SameSegment parts.front parts.part (gap ∙ isnt) old
          (new ∙ parts.joins (piece_at place (b ∷ [])) isnt ∙ ap (λ more. parts.front ++ (parts.part ++ more) ∷ []) (none ∙ sym gained))
    ]

longer_than_one : (bytes : List ℕ) (b : ℕ) → 0 < length bytes → (length (bytes ++ b ∷ []) == 1) ≡ false
longer_than_one bytes b h =
    let long : length (bytes ++ b ∷ []) ≡ length bytes + 1 = length-append bytes (b ∷ []) in
    elim (eqb_tells (length (bytes ++ b ∷ [])) 1) [ inl one ↦ absurd (omega (arith, one.1, long)) | inr other ↦ other.0 ]

-- the byte goes to a packet that has begun
next_segments_go : (text : List ℕ) (b : ℕ) (front : List Piece) (place : ℕ) (bytes : List ℕ) → 0 < length bytes
    → packets station_grammar text ≡ front ++ piece_at place bytes ∷ []
    → packets station_grammar (text ++ b ∷ []) ≡ front ++ piece_at place (bytes ++ b ∷ []) ∷ [] → NextSegments text b
next_segments_go text b front place bytes some old grown =
    let parts = segments_parts front in
    let longer : List ℕ = bytes ++ b ∷ [] in
    let kind : kind_of (piece_at place longer) ≡ kind_of (piece_at place bytes) = kind-append place b bytes some in
    let last : last_packet (text ++ b ∷ []) ≡ longer = ap last_bytes grown ∙ last_bytes-append front (piece_at place longer) in
    let no_gap : begins_gap (text ++ b ∷ []) ≡ false =
    ap (λ bs. (length bs == 1) && (slice_index bs 0 == GAP)) last ∙ false_and (length longer == 1) (slice_index longer 0 == GAP) (longer_than_one bytes b some) in
    let before : segments text ≡ segments_of (front ++ piece_at place bytes ∷ []) = segments_are text ∙ ap segments_of old in
    let after : segments (text ++ b ∷ []) ≡ segments_of (front ++ piece_at place longer ∷ []) = segments_are (text ++ b ∷ []) ∙ ap segments_of grown in
    let gained : data_gained (text ++ b ∷ []) ≡ data_byte longer b =
    ap (λ bs. cond ((slice_index bs 0 == DATA) && nat_lt 3 (length bs)) (last_byte (text ++ b ∷ []) ∷ []) []) last
    ∙ ap (λ byte. cond ((slice_index longer 0 == DATA) && nat_lt 3 (length longer)) (byte ∷ []) []) (last_byte-append text b) in
    elim (cases_Bool (kind_of (piece_at place bytes) == GAP)) [
      | inl is ↦
          let still : (kind_of (piece_at place longer) == GAP) ≡ true = ap (λ k. k == GAP) kind ∙ is in
          let none : data_byte longer b ≡ [] = gap_has_no_data (slice_index longer 0) (nat_lt 3 (length longer)) b still in
          SameSegment (parts.front ++ parts.part ∷ []) [] no_gap (before ∙ parts.begins (piece_at place bytes) is)
          (after ∙ parts.begins (piece_at place longer) still ∙ sym (ap (λ more. (parts.front ++ parts.part ∷ []) ++ more ∷ []) (gained ∙ none)))
      | inr isnt ↦
          let still : (kind_of (piece_at place longer) == GAP) ≡ false = ap (λ k. k == GAP) kind ∙ isnt in
          SameSegment parts.front (parts.part ++ packet_data (piece_at place bytes)) no_gap (before ∙ parts.joins (piece_at place bytes) isnt)
          (after ∙ parts.joins (piece_at place longer) still
          ∙ ap (λ more. parts.front ++ (parts.part ++ more) ∷ []) (data_of-append place b bytes some)
          ∙ ap (λ part. parts.front ++ part ∷ []) (sym (append_assoc parts.part (packet_data (piece_at place bytes)) (data_byte longer b)))
          ∙ sym (ap (λ more. parts.front ++ ((parts.part ++ packet_data (piece_at place bytes)) ++ more) ∷ []) gained))
    ]

pub next_segments : (text : List ℕ) (b : ℕ) → NextSegments text b
next_segments text b = elim (leb_tells 6 (length text)) [
  | inr early ↦ next_segments_hello text b (omega (arith, early.1))
  | inl late ↦ elim (next_packet text b late.1) [
    | Begins begins grown ↦ next_segments_begin text b (length text) grown
    | Goes front last goes old grown is ↦ next_segments_go text b front last.place last.bytes is.some old grown
  ]
]

-- behind the hello a packet may begin where there is none, or the last one is whole
pub starts : (text : List ℕ) → 6 ≤ length text → ends_at_start station_grammar text ≡ over (packet_size w16) (last_packet text)
unfolding packets
starts text late =
    ap (λ c. c && list_all (is_whole (packet_size w16)) (packets station_grammar text)) (le-leb 6 (length text) late)
    ∙ all_whole (packet_size w16) (packet_size_is_size w16) (length (drop 6 text)) 6 (drop 6 text) (omega arith)
