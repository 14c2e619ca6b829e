-- A segment with one more byte, or none yet.
use Rattle.std.proofs.Common.{◌≡◌, ℕ, zero, suc, List, [], ◌∷◌, ◌++◌, refl, sym, ◌∙◌, ap, subst, Bool, true, false, cond, Option}
use Rattle.std.proofs.lemmas.List.{append-nil}
use Rattle.std.proofs.lemmas.Bool.{eqb-true}
use Rattle.std.specs.Prelude.{◌==◌}
use Rattle.std.specs.Option.{option_to_list}
use Rattle.hk_base.specs.declared.plain.Form.{Form}
use Rattle.hk_base.specs.declared.plain.Print.{Print}
use Rattle.hk_spec_sound.specs.Prints.{full_analysis, prints_of_sound}
use Rattle.hk_spec_streams.specs.Station.{prints_of, sent_prints}
use Rattle.hk_spec_streams.specs.Blocks.{Setting, blocks_of_segment}
use Rattle.hk_spec_streams.proofs.GrowingBlocks.{no_prints}
use Rattle.hk_front.specs.Hearing.{Hearing, KeepsRules}
use Rattle.hk_front.specs.Hearing as fronts
use Rattle.hk_block.specs.Ring.{Ring, Takes, AddsBlock, PlacesBlock, completes_block, block_in}
use Rattle.hk_block.specs.Ring as rings
use Rattle.hk_receiver.specs.declared.segment.Segment.{Segment}
use Rattle.hk_receiver.specs.Segment.{AreFor, HasBytes, Hears, Gains, prints_by}
use Rattle.hk_receiver.proofs.RingBlocks.{ring_adds}

-- another front and another ring that were made alike
pub still_for : (s : Setting) {front more : Hearing} {ring next : Ring} → AreFor s front ring → more.flips ≡ front.flips → next.block ≡ ring.block → AreFor s more next
still_for s set same_flips same_rule = record {
  analysis = set.analysis;
  flips_are = set.flips_are ∙ sym same_flips;
  cuts = record { size = set.cuts.size; rule = set.cuts.rule ∙ sym same_rule };
}

pub none_by : (s : Setting) (form : Form) → s.analysis ≡ full_analysis → prints_by s form [] ≡ []
none_by s form full = no_prints s.analysis full s.flips form.channels form.factor

-- the front's prints are those of the segment
by_front : (s : Setting) (n factor : ℕ) (bytes : List ℕ) → s.analysis ≡ full_analysis → (n == 0) ≡ false → prints_of s.analysis s.flips n factor bytes ≡ prints_of_sound full_analysis s.flips n factor bytes
by_front s zero factor bytes full none = absurd (cc)
by_front s (suc n) factor bytes full none = ap (λ a. prints_of_sound a s.flips (suc n) factor bytes) full

module _ (s : Setting) (form : Form) (old : Segment) (bytes : List ℕ) (has : HasBytes s form old bytes) (b : ℕ) where
  abbrev prints : List Print
  prints = prints_by s form bytes

  module _ (sound : (form.channels == 0) ≡ false) where
    pub of_front : (all : List ℕ) → prints_by s form all ≡ fronts.prints_in old.front all
    of_front all =
        let h = has.hears sound in
        by_front s form.channels form.factor all has.set.analysis sound
        ∙ ap (λ n. prints_of_sound full_analysis n form.channels form.factor all) has.set.flips_are
        ∙ ap (λ n. prints_of_sound full_analysis old.front.flips n form.factor all) (sym h.channels)
        ∙ ap (λ n. prints_of_sound full_analysis old.front.flips (fronts.channels_of old.front) n all) (sym h.factor)

    pub heard : (given : Option Print) → fronts.prints_in old.front (bytes ++ b ∷ []) ≡ fronts.prints_in old.front bytes ++ option_to_list given
        → prints_by s form (bytes ++ b ∷ []) ≡ prints_by s form bytes ++ option_to_list given
    heard given is = of_front (bytes ++ b ∷ []) ∙ is ∙ ap (λ ps. ps ++ option_to_list given) (sym (of_front bytes))

    pub hears_on : (new : Segment) → KeepsRules old.front new.front → fronts.HasAnalysed new.front (bytes ++ b ∷ []) → Hears s form new (bytes ++ b ∷ [])
    hears_on new keeps taken = record {
      channels = keeps.1.0 ∙ (has.hears sound).channels;
      factor = keeps.1.1 ∙ (has.hears sound).factor;
      taken = taken;
    }

  -- a byte that completes no print
  pub goes_on : (new : Segment) → new.ring ≡ old.ring → new.front.flips ≡ old.front.flips → prints_by s form (bytes ++ b ∷ []) ≡ prints_by s form bytes
      → ((form.channels == 0) ≡ false → Hears s form new (bytes ++ b ∷ [])) → HasBytes s form new (bytes ++ b ∷ [])
  goes_on new same_ring same_flips same hears = record {
    set = still_for s has.set same_flips (ap (λ ring. ring.block) same_ring);
    prints = subst (λ ring. rings.HasLastPrints ring (prints_by s form (bytes ++ b ∷ []))) (sym same_ring) (subst (rings.HasLastPrints old.ring) (sym same) has.prints);
    hears = hears;
  }

  pub gains_none : (new : Segment) → new.ring ≡ old.ring → new.front.flips ≡ old.front.flips → prints_by s form (bytes ++ b ∷ []) ≡ prints_by s form bytes
      → ((form.channels == 0) ≡ false → Hears s form new (bytes ++ b ∷ [])) → Gains s form old bytes b false new
  gains_none new same_ring same_flips same hears = record {
    goes_on = goes_on new same_ring same_flips same hears;
    more_blocks = ap (blocks_of_segment s old.number) same ∙ sym (append-nil (blocks_of_segment s old.number prints));
  }

  -- a byte that completes a print
  pub gains_print : (new : Segment) (p : Print) (full : Bool) → new.number ≡ old.number → prints_by s form (bytes ++ b ∷ []) ≡ prints_by s form bytes ++ p ∷ []
      → Takes old.ring p new.ring → AddsBlock old.ring p new.ring → PlacesBlock old.ring p new.ring → full ≡ completes_block new.ring
      → new.front.flips ≡ old.front.flips → ((form.channels == 0) ≡ false → Hears s form new (bytes ++ b ∷ [])) → Gains s form old bytes b full new
  gains_print new p full same_number grown takes adds places is same_flips hears = record {
    goes_on = record {
      set = still_for s has.set same_flips takes.0;
      prints = subst (rings.HasLastPrints new.ring) (sym grown) (takes.1 prints has.prints);
      hears = hears;
    };
    more_blocks = ap (blocks_of_segment s old.number) grown
        ∙ ring_adds s old.number old.ring new.ring p prints has.set.cuts.size (sym has.set.cuts.rule) takes adds places has.prints
        ∙ ap (λ c. blocks_of_segment s old.number prints ++ cond c (block_in old.number new.ring ∷ []) []) (sym is)
        ∙ ap (λ n. blocks_of_segment s old.number prints ++ cond full (block_in n new.ring ∷ []) []) (sym same_number);
  }

-- bytes of sound that complete no print
module _ (s : Setting) (form : Form) (old : Segment) (bytes more : List ℕ) (has : HasBytes s form old bytes) (sound : (form.channels == 0) ≡ false) where
  pub no_print_heard : fronts.prints_in old.front (bytes ++ more) ≡ fronts.prints_in old.front bytes → prints_by s form (bytes ++ more) ≡ prints_by s form bytes
  no_print_heard same = of_front s form old bytes has 0 sound (bytes ++ more) ∙ same ∙ sym (of_front s form old bytes has 0 sound bytes)

  pub listens_on : (new : Segment) → new.ring ≡ old.ring → KeepsRules old.front new.front → fronts.HasAnalysed new.front (bytes ++ more)
      → prints_by s form (bytes ++ more) ≡ prints_by s form bytes → HasBytes s form new (bytes ++ more)
  listens_on new same_ring keeps taken same = record {
    set = still_for s has.set keeps.0 (ap (λ ring. ring.block) same_ring);
    prints = subst (λ ring. rings.HasLastPrints ring (prints_by s form (bytes ++ more))) (sym same_ring) (subst (rings.HasLastPrints old.ring) (sym same) has.prints);
    hears = λ _. record {
      channels = keeps.1.0 ∙ (has.hears sound).channels;
      factor = keeps.1.1 ∙ (has.hears sound).factor;
      taken = taken;
    };
  }

-- no byte yet, in this form
pub empty : (s : Setting) (form : Form) (segment : Segment) → AreFor s segment.front segment.ring → rings.HasLastPrints segment.ring []
    → ((form.channels == 0) ≡ false → Hears s form segment []) → HasBytes s form segment []
empty s form segment set none hears = record {
  set = set;
  prints = subst (rings.HasLastPrints segment.ring) (sym (none_by s form set.analysis)) none;
  hears = hears;
}

pub no_print : (s : Setting) (form : Form) (segment : Segment) → HasBytes s form segment [] → rings.HasLastPrints segment.ring []
no_print s form segment has = subst (rings.HasLastPrints segment.ring) (none_by s form has.set.analysis) has.prints

-- prints that are sent are taken as they are
pub as_sent : (s : Setting) (form : Form) → (form.channels == 0) ≡ true → (bytes : List ℕ) → prints_by s form bytes ≡ sent_prints bytes
as_sent s form none bytes = ap (λ n. prints_of s.analysis s.flips n form.factor bytes) (eqb-true form.channels 0 none)

-- a part of a print that is sent changes nothing
pub gains_part : (s : Setting) (form : Form) (segment : Segment) (bytes : List ℕ) (b : ℕ) → HasBytes s form segment bytes → (form.channels == 0) ≡ true
    → sent_prints (bytes ++ b ∷ []) ≡ sent_prints bytes → Gains s form segment bytes b false segment
gains_part s form segment bytes b has none same =
    gains_none s form segment bytes has b segment refl refl (as_sent s form none (bytes ++ b ∷ []) ∙ same ∙ sym (as_sent s form none bytes))
    (λ sound. absurd (let odd : true ≡ false = sym none ∙ sound in cc))
