-- The blocks of a text begin those of any longer one, and so do those of what is seen of it.
use Rattle.std.proofs.Common.{◌≡◌, ℕ, zero, suc, ◌+◌, ◌-◌, ◌*◌, ◌<◌, ◌≤◌, Option, Some, None, List, [], ◌∷◌, ◌++◌, length, map, take, drop, sym, ◌∙◌, ap, arith, append-nil, inl, inr}
use Rattle.std.specs.List.{enumerate_from}
use Rattle.std.proofs.lemmas.Bool.Decides.{leb_tells}
use Rattle.std.proofs.lemmas.List.{take-append-drop}
use mathlib.Core.List.{IsPrefix}
use Rattle.hk_base.specs.declared.plain.Print.{Print}
use Rattle.hk_spec_sound.specs.Windows.{windows}
use Rattle.hk_spec_sound.specs.Prints.{Analysis, full_analysis}
use Rattle.hk_spec_sound.proofs.Growing.{Grows, by_one, after}
use Rattle.hk_spec_streams.specs.Station.{segments, sent_print, prints_of, channels_of, factor_of, station_met, station_fault, station_seen}
use Rattle.hk_spec_streams.specs.Blocks.{Setting, Block, nth_block, blocks, blocks_of_segment}
use Rattle.hk_spec_streams.proofs.Optional.{none_or_some}
use Rattle.hk_spec_streams.proofs.NextFault.{seen_of-all, fault_of-none, fault_of-some, fault_of-stays}
use Rattle.hk_spec_streams.proofs.GrowingBlocks.{SameForm, prints_in, blocks-last, blocks-begun, blocks-grown, no_prints, no_blocks}
use Rattle.hk_spec_streams.proofs.GrowingSound.{mapped, numbered, windowed_by, sound_prints}
use Rattle.hk_station_wire.proofs.GrowingSegments.{NewSegment, SameSegment, data_gained, next_segments}
use Rattle.hk_station_wire.proofs.LastItems.{hello_segments, same_channels, same_factor}

-- more bytes of a segment have more prints
prints_grow : (a : Analysis) (flips channels factor : ℕ) → Grows (prints_of a flips channels factor)
prints_grow a flips zero factor = after (map sent_print) (windows 8 8) (mapped sent_print) (windowed_by ℕ 8 8)
prints_grow a flips (suc channels) factor = sound_prints a flips (suc channels) factor

-- more prints have more blocks
segment_grows : (s : Setting) (n : ℕ) → Grows (blocks_of_segment s n)
segment_grows s n =
    after (map (nth_block s n)) (λ prints. enumerate_from 0 (windows s.block.size s.block.hop prints)) (mapped (nth_block s n))
    (after (enumerate_from 0) (windows s.block.size s.block.hop) (numbered (List Print) 0) (windowed_by Print s.block.size s.block.hop))

module _ (s : Setting) (full : s.analysis ≡ full_analysis) (some : 0 < s.block.size) where
  none_in : (text : List ℕ) (n : ℕ) → blocks_of_segment s n (prints_in s text []) ≡ []
  none_in text n = ap (blocks_of_segment s n) (no_prints s.analysis full s.flips (channels_of text) (factor_of text)) ∙ no_blocks s n some

  -- in the hello no block is complete
  in_hello : (text : List ℕ) → length text ≤ 6 → blocks s text ≡ []
  in_hello text few = blocks-last s text [] [] (hello_segments text few) ∙ none_in text 0

  -- one byte more
  next_blocks : (text : List ℕ) (b : ℕ) → (more : List Block) × (blocks s (text ++ b ∷ []) ≡ blocks s text ++ more)
  unfolding Grows
  next_blocks text b = elim (leb_tells 6 (length text)) [
    | inr early ↦ (blocks s (text ++ b ∷ []), sym (ap (λ bs. bs ++ blocks s (text ++ b ∷ [])) (in_hello text (omega (arith, early.1)))))
    | inl late ↦
        let same : SameForm s text (text ++ b ∷ []) = record { channels = same_channels text b (omega (arith, late.1)); factor = same_factor text b (omega (arith, late.1)) } in
        elim (next_segments text b) [
          | NewSegment gap begun ↦ ([], blocks-begun s text (text ++ b ∷ []) same begun (none_in text (length (segments text))) ∙ sym (append-nil (blocks s text)))
          | SameSegment front part no_gap old new ↦
              let gained : List ℕ = data_gained (text ++ b ∷ []) in
              let grown = after (blocks_of_segment s (length front)) (prints_in s text) (segment_grows s (length front)) (prints_grow s.analysis s.flips (channels_of text) (factor_of text)) part gained in
              (grown.0, blocks-grown s text (text ++ b ∷ []) front part (part ++ gained) grown.0 same old new grown.1)
        ]
  ]

  pub blocks_grow : (text more : List ℕ) → (bs : List Block) × (blocks s (text ++ more) ≡ blocks s text ++ bs)
  unfolding Grows
  blocks_grow text more = by_one (blocks s) next_blocks text more

-- what is seen of a text begins what is seen of a longer one
seen_grows : (limit : ℕ) → Grows (station_seen limit)
seen_grows limit = by_one (station_seen limit) (λ text b. elim (none_or_some (station_fault limit text)) [
  | inr met ↦ ([], (fault_of-stays (station_met limit) text b met.0 met.1).1 ∙ sym (append-nil (station_seen limit text)))
  | inl fine ↦
      let all : station_seen limit text ≡ text = seen_of-all (station_met limit) text fine in
      elim (none_or_some (station_met limit (text ++ b ∷ []))) [
        | inr met ↦ ([], (fault_of-some (station_met limit) text b met.0 fine met.1).1 ∙ sym all ∙ sym (append-nil (station_seen limit text)))
        | inl none ↦ (b ∷ [], seen_of-all (station_met limit) (text ++ b ∷ []) (fault_of-none (station_met limit) text b fine none) ∙ ap (λ t. t ++ b ∷ []) (sym all))
      ]
])

-- the blocks of a front of a text begin those of all of it
pub front_has_front : (s : Setting) → s.analysis ≡ full_analysis → 0 < s.block.size → (limit n : ℕ) (text : List ℕ)
    → IsPrefix (blocks s (station_seen limit (take n text))) (blocks s (station_seen limit text))
unfolding Grows
front_has_front s full some limit n text =
    let seen_blocks : List ℕ → List Block = λ t. blocks s (station_seen limit t) in
    let grown = after (blocks s) (station_seen limit) (blocks_grow s full some) (seen_grows limit) (take n text) (drop n text) in
    (grown.0, sym grown.1 ∙ ap seen_blocks (take-append-drop n text))
