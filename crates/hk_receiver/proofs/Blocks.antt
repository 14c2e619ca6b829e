-- The blocks of a text by the form that was heard, and with one byte more.
use Rattle.std.proofs.Common.{◌≡◌, ℕ, ◌<◌, List, [], ◌∷◌, ◌++◌, length, sym, ◌∙◌, ap, arith, append_assoc, inl, inr}
use Rattle.std.proofs.lemmas.List.{append-nil}
use Rattle.std.proofs.lemmas.Bool.Decides.{leb_tells}
use Rattle.hk_base.specs.declared.plain.Form.{Form}
use Rattle.hk_spec_sound.specs.Prints.{full_analysis}
use Rattle.hk_spec_streams.specs.Station.{segments, channels_of, factor_of, heard_form}
use Rattle.hk_spec_streams.specs.Blocks.{Setting, Block, blocks, blocks_of_segment}
use Rattle.hk_spec_streams.proofs.GrowingBlocks.{blocks_in, blocks_are, blocks_in-last, no_prints, no_blocks}
use Rattle.hk_station_wire.proofs.LastItems.{hello_segments}
use Rattle.hk_station_wire.proofs.ItemLaws.{late_form}
use Rattle.hk_receiver.specs.Segment.{prints_by}

module _ (s : Setting) (full : s.analysis ≡ full_analysis) (some : 0 < s.block.size) where
  abbrev blocks_by : Form → List (List ℕ) → List Block
  blocks_by form parts = blocks_in s form.channels form.factor parts

  -- an empty segment has no block
  pub none_of : (form : Form) (n : ℕ) → blocks_of_segment s n (prints_by s form []) ≡ []
  none_of form n = ap (blocks_of_segment s n) (no_prints s.analysis full s.flips form.channels form.factor) ∙ no_blocks s n some

  none_by : (form : Form) → blocks_by form ([] ∷ []) ≡ []
  none_by form = blocks_in-last s form.channels form.factor [] [] ∙ none_of form 0

  pub blocks_heard : (text : List ℕ) → blocks s text ≡ blocks_by (heard_form text) (segments text)
  blocks_heard text = blocks_are s text ∙ elim (leb_tells 6 (length text)) [
    | inl late ↦ sym (ap (λ form. blocks_in s form.channels form.factor (segments text)) (late_form text late.1))
    | inr early ↦
        let one : segments text ≡ [] ∷ [] = hello_segments text (omega (arith, early.1)) in
        ap (blocks_in s (channels_of text) (factor_of text)) one ∙ none_by (record { channels = channels_of text; factor = factor_of text })
        ∙ sym (ap (blocks_in s (heard_form text).channels (heard_form text).factor) one ∙ none_by (heard_form text))
  ]

  pub none_yet : (text : List ℕ) → segments text ≡ [] ∷ [] → blocks s text ≡ []
  none_yet text one = blocks_heard text ∙ ap (blocks_by (heard_form text)) one ∙ none_by (heard_form text)

  module _ (text longer : List ℕ) (same_form : heard_form longer ≡ heard_form text) where
    by_form : blocks s longer ≡ blocks_by (heard_form text) (segments longer)
    by_form = blocks_heard longer ∙ ap (λ form. blocks_by form (segments longer)) same_form

    -- no segment grew
    pub same_blocks : segments longer ≡ segments text → blocks s longer ≡ blocks s text ++ []
    same_blocks stay = by_form ∙ ap (blocks_by (heard_form text)) stay ∙ sym (append-nil (blocks s text) ∙ blocks_heard text)

    -- a segment was begun
    pub begun_blocks : segments longer ≡ segments text ++ [] ∷ [] → blocks s longer ≡ blocks s text ++ []
    begun_blocks begun =
        by_form ∙ ap (blocks_by (heard_form text)) begun ∙ blocks_in-last s (heard_form text).channels (heard_form text).factor (segments text) []
        ∙ ap (λ bs. blocks_by (heard_form text) (segments text) ++ bs) (none_of (heard_form text) (length (segments text)))
        ∙ ap (λ bs. bs ++ []) (sym (blocks_heard text))

    -- the last segment grew
    pub grown_blocks : (front : List (List ℕ)) (part grown : List ℕ) (more : List Block) → segments text ≡ front ++ part ∷ [] → segments longer ≡ front ++ grown ∷ []
        → blocks_of_segment s (length front) (prints_by s (heard_form text) grown) ≡ blocks_of_segment s (length front) (prints_by s (heard_form text) part) ++ more
        → blocks s longer ≡ blocks s text ++ more
    grown_blocks front part grown more before after grows =
        let form : Form = heard_form text in
        let old : List Block = blocks_by (heard_form text) front in
        by_form ∙ ap (blocks_by form) after ∙ blocks_in-last s form.channels form.factor front grown ∙ ap (λ bs. old ++ bs) grows
        ∙ sym (append_assoc old (blocks_of_segment s (length front) (prints_by s form part)) more)
        ∙ ap (λ bs. bs ++ more) (sym (blocks_heard text ∙ ap (blocks_by form) before ∙ blocks_in-last s form.channels form.factor front part))
