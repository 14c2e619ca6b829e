-- A segment and the bytes of it that came.
use Rattle.std.specs.Prelude.{◌≡◌, ℕ, ◌==◌, Bool, false, if◌then◌else◌, List, [], ◌∷◌, ◌++◌}
use Rattle.hk_base.specs.declared.plain.Form.{Form}
use Rattle.hk_base.specs.declared.plain.Print.{Print}
use Rattle.hk_spec_sound.specs.Prints.{full_analysis}
use Rattle.hk_spec_streams.specs.Station.{prints_of}
use Rattle.hk_spec_streams.specs.Blocks.{Setting, blocks_of_segment}
use Rattle.hk_front.specs.Hearing as fronts
use Rattle.hk_block.specs.Ring.{Ring, block_in}
use Rattle.hk_block.specs.Ring as rings
use Rattle.hk_receiver.specs.declared.segment.Segment.{Segment}

abbrev pub ring_in : Segment → Ring
ring_in segment = segment.ring

abbrev pub segment_number : Segment → ℕ
segment_number segment = segment.number

-- The front and the ring were made for this setting: sound is analysed in full.
pub record AreFor (s : Setting) (front : fronts.Hearing) (ring : Ring) : Type 0 where
  pub analysis : s.analysis ≡ full_analysis
  pub flips_are : s.flips ≡ front.flips
  pub cuts : rings.IsFor s ring

-- the prints of a segment of these bytes, in a stream of this form
abbrev pub prints_by : Setting → Form → List ℕ → List Print
prints_by s form bytes = prints_of s.analysis s.flips form.channels form.factor bytes

-- The front hears sound of the form, and has taken these bytes of it.
pub record Hears (s : Setting) (form : Form) (segment : Segment) (bytes : List ℕ) : Type 0 where
  pub channels : fronts.channels_of segment.front ≡ form.channels
  pub factor : fronts.factor_of segment.front ≡ form.factor
  pub taken : fronts.HasAnalysed segment.front bytes

-- The segment has taken these bytes of a stream of this form: the ring has their prints, and the front hears them where they are sound.
pub record HasBytes (s : Setting) (form : Form) (segment : Segment) (bytes : List ℕ) : Type 0 where
  pub set : AreFor s segment.front segment.ring
  pub prints : rings.HasLastPrints segment.ring (prints_by s form bytes)
  pub hears : (form.channels == 0) ≡ false → Hears s form segment bytes

-- One byte more: the segment goes on, and its blocks gain the one that the byte completes.
pub record Gains (s : Setting) (form : Form) (old : Segment) (bytes : List ℕ) (byte : ℕ) (full : Bool) (new : Segment) : Type 0 where
  pub goes_on : HasBytes s form new (bytes ++ byte ∷ [])
  pub more_blocks : blocks_of_segment s old.number (prints_by s form (bytes ++ byte ∷ []))
      ≡ blocks_of_segment s old.number (prints_by s form bytes) ++ (if full then block_in new.number new.ring ∷ [] else [])
