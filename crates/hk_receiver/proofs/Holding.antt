-- What is held of a text with one byte more, and what the byte brings.
use Rattle.std.proofs.Common.{◌≡◌, ℕ, ◌+◌, ◌<◌, List, [], ◌∷◌, ◌++◌, length, refl, sym, ◌∙◌, ap, subst, length-append, append_assoc, Bool, true, false, cond}
use Rattle.std.proofs.lemmas.List.{append-nil}
use Rattle.hk_base.specs.declared.plain.Form.{Form}
use Rattle.hk_spec_sound.specs.Prints.{full_analysis}
use Rattle.hk_spec_streams.specs.Station.{segments, sent_prints, heard_form}
use Rattle.hk_station_wire.specs.LastPacket.{gap_is_open}
use Rattle.hk_spec_streams.specs.Blocks.{Setting, Block, blocks, blocks_of_segment}
use Rattle.hk_station_wire.specs.Says.{GainsByte, KeepsSegments, BeginsGap, PartOfPrint, SaysNothing, SaysHello, SaysGap}
use Rattle.hk_receiver.specs.declared.segment.Segment.{Segment}
use Rattle.hk_block.specs.Ring.{block_in}
use Rattle.hk_receiver.specs.Segment.{HasBytes, Gains, prints_by}
use Rattle.hk_receiver.specs.Kept.{HasSegments}
use Rattle.hk_receiver.proofs.Blocks.{same_blocks, begun_blocks, grown_blocks, none_yet}
use Rattle.hk_receiver.proofs.Segments.{gains_part}

-- two lists with the same last item
pub same_last : {A : Type 0} (xs ys : List A) (x y : A) → xs ++ x ∷ [] ≡ ys ++ y ∷ [] → (xs ≡ ys) × (x ≡ y)
same_last [] [] x y is = (refl, cc)
same_last [] (b ∷ []) x y is = absurd (cc)
same_last [] (b ∷ c ∷ ys) x y is = absurd (cc)
same_last (a ∷ []) [] x y is = absurd (cc)
same_last (a ∷ c ∷ xs) [] x y is = absurd (cc)
same_last (a ∷ xs) (b ∷ ys) x y is =
    let first : a ≡ b = cc in
    let rest : xs ++ x ∷ [] ≡ ys ++ y ∷ [] = cc in
    let found = same_last xs ys x y rest in
    (ap (λ z. z ∷ xs) first ∙ ap (λ zs. b ∷ zs) found.0, found.1)

module _ (s : Setting) (full : s.analysis ≡ full_analysis) (some : 0 < s.block.size) (text : List ℕ) (b : ℕ) (segment : Segment) (h : HasSegments s segment text) where
  abbrev t : List ℕ
  t = text ++ b ∷ []

  pub closed : gap_is_open text ≡ false → segments text ≡ h.before ++ h.bytes ∷ []
  closed shut = h.are ∙ ap (λ g. h.before ++ h.bytes ∷ cond g ([] ∷ []) []) shut

  -- what is held, and what the byte adds to the blocks
  pub record Step (next : Segment) (more : List Block) : Type 0 where
    pub holds : HasSegments s next t
    pub more_blocks : blocks s t ≡ blocks s text ++ more

  -- no segment grew, and no gap began or ended
  pub stays : heard_form (text ++ b ∷ []) ≡ heard_form text → segments (text ++ b ∷ []) ≡ segments text → gap_is_open (text ++ b ∷ []) ≡ gap_is_open text → Step segment []
  stays same_form same gap = record {
    holds = record {
      before = h.before;
      bytes = h.bytes;
      are = same ∙ h.are ∙ ap (λ g. h.before ++ h.bytes ∷ cond g ([] ∷ []) []) (sym gap);
      number = h.number;
      has = subst (λ form. HasBytes s form segment h.bytes) (sym same_form) h.has;
    };
    more_blocks = same_blocks s full some text t same_form same;
  }

  begins_gap : heard_form (text ++ b ∷ []) ≡ heard_form text → segments (text ++ b ∷ []) ≡ segments text ++ [] ∷ [] → gap_is_open text ≡ false
      → gap_is_open (text ++ b ∷ []) ≡ true → Step segment []
  begins_gap same_form begun shut gapped = record {
    holds = record {
      before = h.before;
      bytes = h.bytes;
      are = begun ∙ ap (λ parts. parts ++ [] ∷ []) (closed shut) ∙ append_assoc h.before (h.bytes ∷ []) ([] ∷ [])
          ∙ ap (λ g. h.before ++ h.bytes ∷ cond g ([] ∷ []) []) (sym gapped);
      number = h.number;
      has = subst (λ form. HasBytes s form segment h.bytes) (sym same_form) h.has;
    };
    more_blocks = begun_blocks s full some text t same_form begun;
  }

  -- a gap ends
  pub ends_gap : (limit : ℕ) → SaysGap limit text b → (next : Segment) → next.number ≡ segment.number + 1
      → ((form : Form) (bytes : List ℕ) → HasBytes s form segment bytes → HasBytes s form next []) → Step next []
  ends_gap limit says next count anew = record {
    holds = record {
      before = h.before ++ h.bytes ∷ [];
      bytes = [];
      are = says.same_segments ∙ h.are ∙ ap (λ g. h.before ++ h.bytes ∷ cond g ([] ∷ []) []) says.gap_before
          ∙ sym (append_assoc h.before (h.bytes ∷ []) ([] ∷ []))
          ∙ ap (λ g. (h.before ++ h.bytes ∷ []) ++ [] ∷ cond g ([] ∷ []) []) (sym says.no_gap_after);
      number = count ∙ ap (λ n. n + 1) h.number ∙ sym (length-append h.before (h.bytes ∷ []));
      has = subst (λ form. HasBytes s form next []) (sym says.same_form) (anew (heard_form text) h.bytes h.has);
    };
    more_blocks = same_blocks s full some text t says.same_form says.same_segments;
  }

  -- the hello tells the form
  pub hears_form : (form : Form) (limit : ℕ) → SaysHello form limit text b → (next : Segment) → next.number ≡ segment.number
      → ((before : Form) → HasBytes s before segment [] → HasBytes s form next []) → Step next []
  hears_form form limit says next same_number anew =
      let only = same_last h.before [] h.bytes [] (sym (closed says.no_gap_before) ∙ says.segments_before) in
      record {
        holds = record {
          before = [];
          bytes = [];
          are = says.segments_after ∙ ap (λ g. [] ∷ cond g ([] ∷ []) []) (sym says.no_gap_after);
          number = same_number ∙ h.number ∙ ap length only.0;
          has = subst (λ f. HasBytes s f next []) says.form_is (anew (heard_form text) (subst (HasBytes s (heard_form text) segment) only.1 h.has));
        };
        more_blocks = none_yet s full some t says.segments_after ∙ sym (append-nil (blocks s text) ∙ none_yet s full some text says.segments_before);
      }

  -- the segment's bytes gain one
  module _ (gain : GainsByte text b) (same_form : heard_form (text ++ b ∷ []) ≡ heard_form text) where
    same : (h.before ≡ gain.front) × (h.bytes ≡ gain.segment)
    same = same_last h.before gain.front h.bytes gain.segment (sym (closed gain.no_gap_before) ∙ gain.before)

    pub of_bytes : (P : List ℕ → Type 0) → P gain.segment → P h.bytes
    of_bytes P is = subst P (sym same.1) is

    after : segments (text ++ b ∷ []) ≡ h.before ++ (h.bytes ++ b ∷ []) ∷ []
    after = gain.after ∙ ap (λ front. front ++ (gain.segment ++ b ∷ []) ∷ []) (sym same.0) ∙ ap (λ bytes. h.before ++ (bytes ++ b ∷ []) ∷ []) (sym same.1)

    pub grows : (next : Segment) (full_block : Bool) → next.number ≡ segment.number → Gains s (heard_form text) segment h.bytes b full_block next
        → Step next (cond full_block (block_in next.number next.ring ∷ []) [])
    grows next full_block same_number gains = record {
      holds = record {
        before = h.before;
        bytes = h.bytes ++ b ∷ [];
        are = after ∙ ap (λ g. h.before ++ (h.bytes ++ b ∷ []) ∷ cond g ([] ∷ []) []) (sym gain.no_gap_after);
        number = same_number ∙ h.number;
        has = subst (λ form. HasBytes s form next (h.bytes ++ b ∷ [])) (sym same_form) gains.goes_on;
      };
      more_blocks =
          let more : List Block = cond full_block (block_in next.number next.ring ∷ []) [] in
          grown_blocks s full some text t same_form h.before h.bytes (h.bytes ++ b ∷ []) more (closed gain.no_gap_before) after
          (subst (λ n. blocks_of_segment s n (prints_by s (heard_form text) (h.bytes ++ b ∷ [])) ≡ blocks_of_segment s n (prints_by s (heard_form text) h.bytes) ++ more)
          h.number gains.more_blocks);
    }

  -- nothing comes of the byte
  pub nothing : (limit : ℕ) → SaysNothing limit text b → Step segment []
  nothing limit says = elim says.quiet [
    | KeepsSegments same gap ↦ stays says.same_form same gap
    | BeginsGap begun shut gapped ↦ begins_gap says.same_form begun shut gapped
    | PartOfPrint carries gain same ↦ grows gain says.same_form segment false refl
        (gains_part s (heard_form text) segment h.bytes b h.has carries (of_bytes gain says.same_form (λ bytes. sent_prints (bytes ++ b ∷ []) ≡ sent_prints bytes) same))
  ]
