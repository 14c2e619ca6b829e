-- What a print adds to the blocks of a segment, as the ring tells it.
use Rattle.std.proofs.Common.{◌≡◌, ℕ, ◌+◌, ◌*◌, List, [], ◌∷◌, ◌++◌, length, map, sym, ◌∙◌, ap, arith, true, cond, inl, inr}
use Rattle.std.proofs.lemmas.List.{append-nil, map-append}
use Rattle.std.proofs.lemmas.Bool.{cases_Bool}
use Rattle.std.specs.List.{enumerate_from}
use Rattle.hk_base.specs.declared.plain.Print.{Print}
use Rattle.hk_spec_sound.specs.Windows.{windows}
use Rattle.hk_spec_streams.specs.Blocks.{BlockRule, Setting, block_at, nth_block, blocks_of_segment}
use Rattle.hk_spec_streams.proofs.GrowingBlocks.{enumerate-append}
use Rattle.hk_block.specs.Ring.{Ring, Takes, AddsBlock, PlacesBlock, BLOCK_SIZE, completes_block, first_word, block_in}
use Rattle.hk_block.specs.Ring as rings

module _ (s : Setting) (n : ℕ) (old new : Ring) (p : Print) (prints : List Print) (size : s.block.size ≡ BLOCK_SIZE) (rule : old.block ≡ s.block)
    (takes : Takes old p new) (adds : AddsBlock old p new) (places : PlacesBlock old p new) (has : rings.HasLastPrints old prints) where
  hop : old.block.hop ≡ s.block.hop
  hop = ap (λ (r : BlockRule). r.hop) rule

  hop_stays : new.block.hop ≡ old.block.hop
  hop_stays = ap (λ (r : BlockRule). r.hop) takes.0

  abbrev before : List (List Print)
  before = windows BLOCK_SIZE old.block.hop prints

  windows_are : (ps : List Print) → windows s.block.size s.block.hop ps ≡ windows BLOCK_SIZE old.block.hop ps
  windows_are ps = ap (λ m. windows m s.block.hop ps) size ∙ ap (λ m. windows BLOCK_SIZE m ps) (sym hop)

  after_are : windows s.block.size s.block.hop (prints ++ p ∷ []) ≡ before ++ cond (completes_block new) (new.last ∷ []) []
  after_are = windows_are (prints ++ p ∷ []) ∙ ap (λ m. windows BLOCK_SIZE m (prints ++ p ∷ [])) (sym hop_stays) ∙ adds prints has

  before_are : map (nth_block s n) (enumerate_from 0 before) ≡ blocks_of_segment s n prints
  before_are = ap (λ ws. map (nth_block s n) (enumerate_from 0 ws)) (sym (windows_are prints))

  placed : completes_block new ≡ true → s.block.hop * (0 + length before) ≡ first_word new
  placed is =
      let count : 0 + length before ≡ length before = omega arith in
      ap (λ m. s.block.hop * m) count ∙ ap (λ h. h * length before) (sym hop ∙ sym hop_stays) ∙ sym (places prints has is)

  pub ring_adds : blocks_of_segment s n (prints ++ p ∷ []) ≡ blocks_of_segment s n prints ++ cond (completes_block new) (block_in n new ∷ []) []
  ring_adds = ap (λ ws. map (nth_block s n) (enumerate_from 0 ws)) after_are ∙ elim (cases_Bool (completes_block new)) [
    | inr is ↦
        ap (λ c. map (nth_block s n) (enumerate_from 0 (before ++ cond c (new.last ∷ []) []))) is
        ∙ ap (λ ws. map (nth_block s n) (enumerate_from 0 ws)) (append-nil before) ∙ before_are ∙ sym (append-nil (blocks_of_segment s n prints))
        ∙ sym (ap (λ c. blocks_of_segment s n prints ++ cond c (block_in n new ∷ []) []) is)
    | inl is ↦
        ap (λ c. map (nth_block s n) (enumerate_from 0 (before ++ cond c (new.last ∷ []) []))) is
        ∙ ap (map (nth_block s n)) (enumerate-append 0 before (new.last ∷ []))
        ∙ map-append (nth_block s n) (enumerate_from 0 before) ((0 + length before, new.last) ∷ [])
        ∙ ap (λ bs. bs ++ nth_block s n (0 + length before, new.last) ∷ []) before_are
        ∙ ap (λ m. blocks_of_segment s n prints ++ block_at s.block n m new.last ∷ []) (placed is)
        ∙ ap (λ r. blocks_of_segment s n prints ++ block_at r n (first_word new) new.last ∷ []) (sym rule ∙ sym takes.0)
        ∙ sym (ap (λ c. blocks_of_segment s n prints ++ cond c (block_in n new ∷ []) []) is)
  ]
