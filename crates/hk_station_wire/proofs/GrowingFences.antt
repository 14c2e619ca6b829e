-- A station's text with one more byte: its fences.
use Rattle.std.proofs.Common.{◌≡◌, ℕ, ◌+◌, List, [], ◌∷◌, ◌++◌, length, drop, filter_map, slice_index, refl, sym, ◌∙◌, ap, arith, length-append, Bool, true, false, inl, inr, Option, None, Some, cond}
use Rattle.std.proofs.lemmas.List.{append-nil, drop_all}
use Rattle.std.proofs.lemmas.List.Elements.{filter_map-append}
use Rattle.std.proofs.lemmas.Bool.Decides.{leb_tells, eqb_tells}
use Rattle.std.proofs.Math.Seq.{drop-nil}
use Rattle.std.specs.Prelude.{◌&&◌, ◌==◌, if◌then◌else◌}
use Rattle.std.specs.Int.{w16, w32, from_be_bytes}
use Rattle.std.specs.List.{cons_option}
use Rattle.hk_spec_streams.specs.Pieces.{Piece, last_bytes, completed}
use Rattle.hk_spec_streams.specs.Grammar.{packets, packet_size}
use Rattle.hk_spec_streams.specs.Station.{station_grammar, fences, Fence, fence_of, FENCE}
use Rattle.hk_station_wire.specs.LastPacket.{last_packet}
use Rattle.hk_spec_streams.proofs.GrowingPieces.{last_bytes-append}
use Rattle.hk_spec_streams.proofs.GrowingPackets.{Begins, Goes, over}
use Rattle.hk_station_wire.proofs.GrowingSegments.{packets_short, next_packet, piece_at}
use Rattle.hk_spec_streams.proofs.Completed.{completed-append, completed-more}

-- a packet as a fence, which is the same in each text
abbrev pub as_fence : Piece → Option Fence
as_fence = fence_of []

fences_are : (text : List ℕ) → fences text ≡ filter_map as_fence (packets station_grammar text)
unfolding fences
fences_are text = refl

-- a fence's last byte completes it, and no other byte completes one
abbrev pub fence_in : ℕ → List ℕ → List Fence
fence_in place bytes = if (slice_index bytes 0 == FENCE) && (length bytes == 7)
    then record { asked = from_be_bytes w32 (drop 3 bytes); place = place } ∷ [] else []

fence_if : (c : Bool) (fence : Fence) → cons_option (cond c (Some fence) None) [] ≡ cond c (fence ∷ []) []
fence_if true fence = refl
fence_if false fence = refl

fences_in_packet : (place : ℕ) (bytes : List ℕ) → cons_option (as_fence (piece_at place bytes)) [] ≡ fence_in (place + 6) bytes
fences_in_packet place bytes =
    let fence : Fence = record { asked = from_be_bytes w32 (drop 3 bytes); place = place + 6 } in
    fence_if ((slice_index bytes 0 == FENCE) && (length bytes == 7)) fence

fences-last : (front : List Piece) (place : ℕ) (bytes : List ℕ)
    → filter_map as_fence (front ++ piece_at place bytes ∷ []) ≡ filter_map as_fence front ++ fence_in (place + 6) bytes
fences-last front place bytes =
    filter_map-append as_fence front (piece_at place bytes ∷ []) ∙ ap (λ more. filter_map as_fence front ++ more) (fences_in_packet place bytes)

never_fence : (c : Bool) (fs : List Fence) → cond (c && false) fs [] ≡ []
never_fence true fs = refl
never_fence false fs = refl

no_fence : (place : ℕ) (bytes : List ℕ) → (length bytes == 7) ≡ false → fence_in place bytes ≡ []
no_fence place bytes isnt =
    ap (λ c. cond ((slice_index bytes 0 == FENCE) && c) (record { asked = from_be_bytes w32 (drop 3 bytes); place = place } ∷ []) []) isnt
    ∙ never_fence (slice_index bytes 0 == FENCE) (record { asked = from_be_bytes w32 (drop 3 bytes); place = place } ∷ [])

fences_go : (text : List ℕ) (b : ℕ) (front : List Piece) (place : ℕ) (bytes : List ℕ) → place + length bytes ≡ length text
    → packets station_grammar text ≡ front ++ piece_at place bytes ∷ []
    → packets station_grammar (text ++ b ∷ []) ≡ front ++ piece_at place (bytes ++ b ∷ []) ∷ []
    → completed fences (text ++ b ∷ []) ≡ fence_in (length text) (bytes ++ b ∷ [])
fences_go text b front place bytes ends old grown =
    let longer : List ℕ = bytes ++ b ∷ [] in
    let long : length (bytes ++ b ∷ []) ≡ length bytes + 1 = length-append bytes (b ∷ []) in
    let before : fences text ≡ filter_map as_fence front ++ fence_in (place + 6) bytes =
    fences_are text ∙ ap (filter_map as_fence) old ∙ fences-last front place bytes in
    let after : fences (text ++ b ∷ []) ≡ filter_map as_fence front ++ fence_in (place + 6) longer =
    fences_are (text ++ b ∷ []) ∙ ap (filter_map as_fence) grown ∙ fences-last front place longer in
    elim (eqb_tells (length (bytes ++ b ∷ [])) 7) [
      | inl seven ↦
          let six : (length bytes == 7) ≡ false = elim (eqb_tells (length bytes) 7) [ inl is ↦ absurd (omega (arith, is.1, seven.1, long)) | inr isnt ↦ isnt.0 ] in
          let there : place + 6 ≡ length text = omega (arith, ends, seven.1, long) in
          let first : fences text ≡ filter_map as_fence front =
          before ∙ ap (λ more. filter_map as_fence front ++ more) (no_fence (place + 6) bytes six) ∙ append-nil (filter_map as_fence front) in
          completed-more fences text b (fence_in (length text) longer)
          (after ∙ ap (λ p. filter_map as_fence front ++ fence_in p longer) there ∙ sym (ap (λ fs. fs ++ fence_in (length text) longer) first))
      | inr other ↦
          let none : fences (text ++ b ∷ []) ≡ filter_map as_fence front =
          after ∙ ap (λ more. filter_map as_fence front ++ more) (no_fence (place + 6) longer other.0) ∙ append-nil (filter_map as_fence front) in
          let enough : length (fences text) ≡ length (filter_map as_fence front) + length (fence_in (place + 6) bytes) =
          ap length before ∙ length-append (filter_map as_fence front) (fence_in (place + 6) bytes) in
          completed-append fences text b ∙ ap (drop (length (fences text))) none
          ∙ drop_all (length (fences text)) (filter_map as_fence front) (omega (arith, enough))
          ∙ sym (no_fence (length text) longer other.0)
    ]

pub fences_completed : (text : List ℕ) (b : ℕ) → completed fences (text ++ b ∷ []) ≡ fence_in (length text) (last_packet (text ++ b ∷ []))
fences_completed text b = elim (leb_tells 6 (length text)) [
  | inr early ↦
      let long : length (text ++ b ∷ []) ≡ length text + 1 = length-append text (b ∷ []) in
      let none : packets station_grammar (text ++ b ∷ []) ≡ [] = packets_short (text ++ b ∷ []) (omega (arith, long, early.1)) in
      completed-append fences text b ∙ ap (drop (length (fences text))) (fences_are (text ++ b ∷ []) ∙ ap (filter_map as_fence) none)
      ∙ drop-nil (length (fences text)) ∙ sym (ap (λ bytes. fence_in (length text) (last_bytes bytes)) none)
  | inl late ↦ elim (next_packet text b late.1) [
    | Begins begins grown ↦
        completed-more fences text b []
        (fences_are (text ++ b ∷ []) ∙ ap (filter_map as_fence) grown ∙ fences-last (packets station_grammar text) (length text) (b ∷ [])
        ∙ ap (λ more. filter_map as_fence (packets station_grammar text) ++ more) (no_fence (length text + 6) (b ∷ []) refl)
        ∙ ap (λ fs. fs ++ []) (sym (fences_are text)))
        ∙ sym (ap (fence_in (length text)) (ap last_bytes grown ∙ last_bytes-append (packets station_grammar text) (piece_at (length text) (b ∷ []))) ∙ no_fence (length text) (b ∷ []) refl)
    | Goes front last goes old grown is ↦
        fences_go text b front last.place last.bytes is.ends old grown
        ∙ sym (ap (fence_in (length text)) (ap last_bytes grown ∙ last_bytes-append front (piece_at last.place (last.bytes ++ b ∷ []))))
  ]
]

same_fence : (place end b : ℕ) (bytes : List ℕ) → place + length bytes ≡ end → fence_in (place + 6) (bytes ++ b ∷ []) ≡ fence_in end (bytes ++ b ∷ [])
same_fence place end b bytes ends =
    let long : length (bytes ++ b ∷ []) ≡ length bytes + 1 = length-append bytes (b ∷ []) in
    elim (eqb_tells (length (bytes ++ b ∷ [])) 7) [
      | inl seven ↦ let there : place + 6 ≡ end = omega (arith, ends, seven.1, long) in ap (λ p. fence_in p (bytes ++ b ∷ [])) there
      | inr other ↦ no_fence (place + 6) (bytes ++ b ∷ []) other.0 ∙ sym (no_fence end (bytes ++ b ∷ []) other.0)
    ]

-- The fences gain what the byte completes, where a fence that isn't whole has not come to its seventh byte.
pub fences-append : (text : List ℕ) (b : ℕ) → ((place : ℕ) → over (packet_size w16) (last_packet text) ≡ false → fence_in place (last_packet text) ≡ [])
    → fences (text ++ b ∷ []) ≡ fences text ++ fence_in (length text) (last_packet (text ++ b ∷ []))
fences-append text b sound = elim (leb_tells 6 (length text)) [
  | inr early ↦
      let long : length (text ++ b ∷ []) ≡ length text + 1 = length-append text (b ∷ []) in
      let none : packets station_grammar text ≡ [] = packets_short text (omega (arith, early.1)) in
      let none_after : packets station_grammar (text ++ b ∷ []) ≡ [] = packets_short (text ++ b ∷ []) (omega (arith, long, early.1)) in
      fences_are (text ++ b ∷ []) ∙ ap (filter_map as_fence) none_after
      ∙ sym (ap (λ fs. fs ++ fence_in (length text) (last_packet (text ++ b ∷ []))) (fences_are text ∙ ap (filter_map as_fence) none)
      ∙ ap (λ ps. fence_in (length text) (last_bytes ps)) none_after)
  | inl late ↦ elim (next_packet text b late.1) [
    | Begins begins grown ↦
        fences_are (text ++ b ∷ []) ∙ ap (filter_map as_fence) grown ∙ fences-last (packets station_grammar text) (length text) (b ∷ [])
        ∙ ap (λ fs. fs ++ fence_in (length text + 6) (b ∷ [])) (sym (fences_are text))
        ∙ ap (λ more. fences text ++ more) (no_fence (length text + 6) (b ∷ []) refl
        ∙ sym (ap (fence_in (length text)) (ap last_bytes grown ∙ last_bytes-append (packets station_grammar text) (piece_at (length text) (b ∷ []))) ∙ no_fence (length text) (b ∷ []) refl))
    | Goes front last goes old grown is ↦
        let bytes : last_packet text ≡ last.bytes = ap last_bytes old ∙ last_bytes-append front last in
        let longer : last_packet (text ++ b ∷ []) ≡ last.bytes ++ b ∷ [] = ap last_bytes grown ∙ last_bytes-append front (piece_at last.place (last.bytes ++ b ∷ [])) in
        let none : fence_in (last.place + 6) last.bytes ≡ [] = ap (fence_in (last.place + 6)) (sym bytes) ∙ sound (last.place + 6) goes in
        let before : fences text ≡ filter_map as_fence front =
        fences_are text ∙ ap (filter_map as_fence) old ∙ fences-last front last.place last.bytes ∙ ap (λ more. filter_map as_fence front ++ more) none
        ∙ append-nil (filter_map as_fence front) in
        fences_are (text ++ b ∷ []) ∙ ap (filter_map as_fence) grown ∙ fences-last front last.place (last.bytes ++ b ∷ [])
        ∙ ap (λ fs. fs ++ fence_in (last.place + 6) (last.bytes ++ b ∷ [])) (sym before)
        ∙ ap (λ more. fences text ++ more) (same_fence last.place (length text) b last.bytes is.ends ∙ sym (ap (fence_in (length text)) longer))
  ]
]
