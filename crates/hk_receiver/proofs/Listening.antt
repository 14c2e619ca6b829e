-- Bytes of sound that complete no print, one after another.
use Rattle.std.proofs.Common.{◌≡◌, ℕ, suc, ◌<◌, ◌≤◌, List, [], ◌∷◌, ◌++◌, length, take, sym, ◌∙◌, ap, subst, arith, append_assoc, false, None}
use Rattle.std.proofs.lemmas.List.{append-nil}
use Rattle.hk_base.specs.declared.plain.Form.{Form}
use Rattle.hk_spec_sound.specs.Prints.{full_analysis}
use Rattle.hk_spec_streams.specs.Station.{segments, station_fault, station_met, heard_form}
use Rattle.hk_spec_streams.specs.Blocks.{blocks, blocks_of_segment}
use Rattle.hk_spec_streams.proofs.NextFault.{fault_of-before}
use Rattle.hk_spec_settings.specs.Settings.{Rules}
use Rattle.hk_station_wire.specs.declared.item.Item.TheVariants as item
use Rattle.hk_station_wire.specs.LastPacket.{gap_is_open}
use Rattle.hk_station_wire.specs.Says.{SaysByte}
use Rattle.hk_station_wire.specs.Sounding.{AreSound}
use Rattle.hk_station_wire.proofs.ItemLaws.{item_tells}
use Rattle.hk_receiver.specs.Quiet.{AreQuiet}
use Rattle.hk_receiver.specs.Segment.{prints_by}
use Rattle.hk_receiver.proofs.Blocks.{grown_blocks}
use Rattle.hk_receiver.proofs.Holding.{same_last}

module _ (rules : Rules) (full : rules.setting.analysis ≡ full_analysis) (some : 0 < rules.setting.block.size) (form : Form) (front : List (List ℕ)) where
  -- The text is heard in the form, without a fault, and its last segment goes on.
  pub record Sounds (text part : List ℕ) : Type 0 where
    pub no_fault : station_fault rules.bytes text ≡ None
    pub form_is : heard_form text ≡ form
    pub segments_are : segments text ≡ front ++ part ∷ []
    pub no_gap : gap_is_open text ≡ false

  -- the bytes are quiet, and the segment goes on
  pub record Listened (text part bytes : List ℕ) : Type 0 where
    pub quiet : AreQuiet rules text bytes
    pub sounds : Sounds (text ++ bytes) (part ++ bytes)
    pub same_blocks : blocks rules.setting (text ++ bytes) ≡ blocks rules.setting text

  -- none of the bytes completes a print of the segment
  abbrev pub NoPrint : List ℕ → List ℕ → Type 0
  NoPrint part bytes = (k : ℕ) → k ≤ length bytes → prints_by rules.setting form (part ++ take k bytes) ≡ prints_by rules.setting form part

  -- one of them
  module _ (text part : List ℕ) (b : ℕ) (bytes : List ℕ) (sounds : Sounds text part) (says : SaysByte b rules.bytes text b) (none : NoPrint part (b ∷ bytes)) where
    goes_on : Sounds (text ++ b ∷ []) (part ++ b ∷ [])
    goes_on =
        let same = same_last front says.gain.front part says.gain.segment (sym sounds.segments_are ∙ says.gain.before) in
        record {
          no_fault = says.no_fault.after;
          form_is = says.same_form ∙ sounds.form_is;
          segments_are = says.gain.after ∙ ap (λ parts. parts ++ (says.gain.segment ++ b ∷ []) ∷ []) (sym same.0)
              ∙ ap (λ segment. front ++ (segment ++ b ∷ []) ∷ []) (sym same.1);
          no_gap = says.gain.no_gap_after;
        }

    no_block : blocks rules.setting (text ++ b ∷ []) ≡ blocks rules.setting text
    no_block =
        let s = rules.setting in
        let same : prints_by rules.setting (heard_form text) (part ++ b ∷ []) ≡ prints_by rules.setting (heard_form text) part =
        subst (λ f. prints_by rules.setting f (part ++ b ∷ []) ≡ prints_by rules.setting f part) (sym sounds.form_is) (none 1 (omega arith)) in
        grown_blocks s full some text (text ++ b ∷ []) says.same_form front part (part ++ b ∷ []) [] sounds.segments_are goes_on.segments_are
        (ap (blocks_of_segment s (length front)) same ∙ sym (append-nil (blocks_of_segment s (length front) (prints_by s (heard_form text) part))))
        ∙ append-nil (blocks s text)

    no_print_later : NoPrint (part ++ b ∷ []) bytes
    no_print_later k few =
        ap (prints_by rules.setting form) (append_assoc part (b ∷ []) (take k bytes)) ∙ none (suc k) (omega (arith, few)) ∙ sym (none 1 (omega arith))

    listened_later : Listened (text ++ b ∷ []) (part ++ b ∷ []) bytes → Listened text part (b ∷ bytes)
    listened_later rest = record {
      quiet = (
        record { meets_none = (fault_of-before (station_met rules.bytes) text b says.no_fault.after).1; same_blocks = no_block; same_fences = says.same_fences },
        rest.quiet,
      );
      sounds = subst (λ longer. Sounds longer (part ++ b ∷ bytes)) (append_assoc text (b ∷ []) bytes)
          (subst (Sounds ((text ++ b ∷ []) ++ bytes)) (append_assoc part (b ∷ []) bytes) rest.sounds);
      same_blocks = ap (blocks rules.setting) (sym (append_assoc text (b ∷ []) bytes)) ∙ rest.same_blocks ∙ no_block;
    }

  pub listened : (bytes text part : List ℕ) → Sounds text part → AreSound rules.bytes text bytes → NoPrint part bytes → Listened text part bytes
  listened [] text part sounds sound none = record {
    quiet = tt;
    sounds = subst (λ longer. Sounds longer (part ++ [])) (sym (append-nil text)) (subst (Sounds text) (sym (append-nil part)) sounds);
    same_blocks = ap (blocks rules.setting) (append-nil text);
  }
  listened (b ∷ bytes) text part sounds sound none =
      let says = item_tells (item.Byte b) rules.bytes text b (sym sound.0) in
      listened_later text part b bytes sounds says none
      (listened bytes (text ++ b ∷ []) (part ++ b ∷ []) (goes_on text part b bytes sounds says none) sound.1 (no_print_later text part b bytes sounds says none))
