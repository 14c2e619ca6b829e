-- The blocks of a text whose last segment grows.
use Rattle.std.proofs.Common.{◌≡◌, ℕ, zero, suc, ◌+◌, ◌-◌, ◌*◌, ◌/◌, ◌<◌, ℤ, List, [], ◌∷◌, ◌++◌, length, map, refl, sym, ◌∙◌, ap, arith, append_assoc, cond, Bool, true, false}
use Rattle.std.proofs.lemmas.Bool.{lt-ltb}
use Rattle.std.proofs.lemmas.List.{append-nil, length-map}
use Rattle.std.proofs.lemmas.List.FromFn.{length-map-range_with_len}
use Rattle.std.proofs.Math.Nat.{zero-div}
use Rattle.std.proofs.lemmas.Grind.{flat_map-append}
use Rattle.std.specs.Prelude.{flat_map, nat_lt}
use Rattle.std.specs.List.{enumerate_from, range_with_len}
use Rattle.hk_base.specs.declared.plain.Print.{Print}
use Rattle.hk_spec_sound.specs.Windows.{windows, window, window_count, adjacent}
use Rattle.hk_spec_sound.specs.Samples.{decimated, weighted_mean}
use Rattle.hk_spec_sound.specs.Spectrum.{transform, energies}
use Rattle.hk_spec_sound.specs.Prints.{Analysis, full_analysis, windowed, frame_energies, differences, print_of, prints_of_samples, prints_of_sound}
use Rattle.hk_spec_sound.proofs.Silence.{windows-nil, samples_of-nil}
use Rattle.hk_spec_streams.specs.Station.{segments, channels_of, factor_of, prints_of}
use Rattle.hk_spec_streams.specs.Blocks.{Setting, Block, nth_block, blocks, blocks_of_segment}

pub enumerate-append : {A : Type 0} (n : ℕ) (xs ys : List A) → enumerate_from n (xs ++ ys) ≡ enumerate_from n xs ++ enumerate_from (n + length xs) ys
enumerate-append n [] ys = let same : n ≡ n + 0 = omega arith in ap (λ m. enumerate_from m ys) same
enumerate-append n (x ∷ xs) ys =
    let same : n + 1 + length xs ≡ n + suc (length xs) = omega arith in
    ap (λ zs. (n, x) ∷ zs) (enumerate-append (n + 1) xs ys ∙ ap (λ m. enumerate_from (n + 1) xs ++ enumerate_from m ys) same)

module _ (s : Setting) where
  abbrev pub prints_in : List ℕ → List ℕ → List Print
  prints_in text segment = prints_of s.analysis s.flips (channels_of text) (factor_of text) segment

  -- the blocks of these segments, which are numbered from 0, of a text with this form
  abbrev pub blocks_in : ℕ → ℕ → List (List ℕ) → List Block
  blocks_in channels factor parts = flat_map (λ p. blocks_of_segment s p.0 (prints_of s.analysis s.flips channels factor p.1)) (enumerate_from 0 parts)

  pub blocks_are : (text : List ℕ) → blocks s text ≡ blocks_in (channels_of text) (factor_of text) (segments text)
  unfolding blocks
  blocks_are text = refl

  pub blocks_in-last : (channels factor : ℕ) (front : List (List ℕ)) (segment : List ℕ)
      → blocks_in channels factor (front ++ segment ∷ []) ≡ blocks_in channels factor front ++ blocks_of_segment s (length front) (prints_of s.analysis s.flips channels factor segment)
  blocks_in-last channels factor front segment =
      let of_part : ℕ × List ℕ → List Block = λ p. blocks_of_segment s p.0 (prints_of s.analysis s.flips channels factor p.1) in
      let count : 0 + length front ≡ length front = omega arith in
      ap (flat_map of_part) (enumerate-append 0 front (segment ∷ []))
      ∙ flat_map-append of_part (enumerate_from 0 front) ((0 + length front, segment) ∷ [])
      ∙ ap (λ bs. blocks_in channels factor front ++ bs) (append-nil (of_part (0 + length front, segment)) ∙ ap (λ n. of_part (n, segment)) count)

  -- the blocks of the segments before the last, and those of the last
  pub blocks-last : (text : List ℕ) (front : List (List ℕ)) (segment : List ℕ) → segments text ≡ front ++ segment ∷ []
      → blocks s text ≡ blocks_in (channels_of text) (factor_of text) front ++ blocks_of_segment s (length front) (prints_in text segment)
  blocks-last text front segment is =
      blocks_are text ∙ ap (blocks_in (channels_of text) (factor_of text)) is ∙ blocks_in-last (channels_of text) (factor_of text) front segment

  -- the form of a text that goes on stays
  pub record SameForm (text longer : List ℕ) : Type 0 where
    pub channels : channels_of longer ≡ channels_of text
    pub factor : factor_of longer ≡ factor_of text

  pub same_prints_in : (text longer segment : List ℕ) → SameForm text longer → prints_in longer segment ≡ prints_in text segment
  same_prints_in text longer segment same =
      ap (λ n. prints_of s.analysis s.flips n (factor_of longer) segment) same.channels
      ∙ ap (λ n. prints_of s.analysis s.flips (channels_of text) n segment) same.factor

  same_blocks_in : (text longer : List ℕ) (parts : List (List ℕ)) → SameForm text longer
      → blocks_in (channels_of longer) (factor_of longer) parts ≡ blocks_in (channels_of text) (factor_of text) parts
  same_blocks_in text longer parts same =
      ap (λ n. blocks_in n (factor_of longer) parts) same.channels ∙ ap (λ n. blocks_in (channels_of text) n parts) same.factor

  -- no segment grew
  pub blocks-same : (text longer : List ℕ) → SameForm text longer → segments longer ≡ segments text → blocks s longer ≡ blocks s text
  blocks-same text longer same stay =
      blocks_are longer ∙ same_blocks_in text longer (segments longer) same
      ∙ ap (blocks_in (channels_of text) (factor_of text)) stay ∙ sym (blocks_are text)

  -- the last segment grew to one whose blocks are those of before and some more
  pub blocks-grown : (text longer : List ℕ) (front : List (List ℕ)) (segment grown : List ℕ) (more : List Block) → SameForm text longer
      → segments text ≡ front ++ segment ∷ [] → segments longer ≡ front ++ grown ∷ []
      → blocks_of_segment s (length front) (prints_in text grown) ≡ blocks_of_segment s (length front) (prints_in text segment) ++ more
      → blocks s longer ≡ blocks s text ++ more
  blocks-grown text longer front segment grown more same before after grows =
      let old : List Block = blocks_in (channels_of text) (factor_of text) front in
      blocks-last longer front grown after
      ∙ ap (λ bs. bs ++ blocks_of_segment s (length front) (prints_in longer grown)) (same_blocks_in text longer front same)
      ∙ ap (λ ps. old ++ blocks_of_segment s (length front) ps) (same_prints_in text longer grown same)
      ∙ ap (λ bs. old ++ bs) grows
      ∙ sym (append_assoc old (blocks_of_segment s (length front) (prints_in text segment)) more)
      ∙ ap (λ bs. bs ++ more) (sym (blocks-last text front segment before))

  -- a segment without a block was begun
  pub blocks-begun : (text longer : List ℕ) → SameForm text longer → segments longer ≡ segments text ++ [] ∷ []
      → blocks_of_segment s (length (segments text)) (prints_in text []) ≡ [] → blocks s longer ≡ blocks s text
  blocks-begun text longer same begun none =
      let old : List Block = blocks_in (channels_of text) (factor_of text) (segments text) in
      blocks-last longer (segments text) [] begun
      ∙ ap (λ bs. bs ++ blocks_of_segment s (length (segments text)) (prints_in longer [])) (same_blocks_in text longer (segments text) same)
      ∙ ap (λ ps. old ++ blocks_of_segment s (length (segments text)) ps) (same_prints_in text longer [] same)
      ∙ ap (λ bs. old ++ bs) none ∙ append-nil old ∙ sym (blocks_are text)

one_window : (c : Bool) (size step : ℕ) → cond c 0 ((0 - size) / step + 1) < 2
one_window true size step = omega arith
one_window false size step =
    let none : 0 - size ≡ 0 = omega arith in
    let same : (0 - size) / step ≡ 0 = ap (λ n. n / step) none ∙ zero-div step in
    omega (arith, same)

-- fewer samples than a frame has give no print
few_samples : (flips : ℕ) (ys : List ℤ) → length ys < 2048 → prints_of_samples full_analysis flips ys ≡ []
unfolding prints_of_samples frame_energies full_analysis windows
few_samples flips ys few =
    ap (λ n. map (λ e. print_of flips (differences e.0 e.1)) (adjacent (map (λ frame. energies full_analysis.edges (transform full_analysis.points full_analysis.stages (windowed full_analysis.points frame)))
    (map (window 2048 64 ys) (range_with_len 0 n)))))
    (ap (λ c. cond c 0 ((length ys - 2048) / 64 + 1)) (lt-ltb (length ys) 2048 few))

no_more : (factor : ℕ) → length (decimated factor []) ≡ window_count (2 * factor - 1) factor 0
unfolding decimated windows
no_more factor =
    length-map (windows {A = ℤ} (2 * factor - 1) factor []) (weighted_mean factor)
    ∙ length-map-range_with_len (window {A = ℤ} (2 * factor - 1) factor []) 0 (window_count (2 * factor - 1) factor 0)

no_sound : (flips channels factor : ℕ) → prints_of_sound full_analysis flips (suc channels) factor [] ≡ []
unfolding prints_of_sound decimated windows
no_sound flips channels factor =
    let one : window_count (2 * factor - 1) factor 0 < 2 = one_window (nat_lt 0 (2 * factor - 1)) (2 * factor - 1) factor in
    let count : length (decimated factor []) < 2048 = omega (arith, one, no_more factor) in
    ap (λ samples. prints_of_samples full_analysis flips (decimated factor samples)) (samples_of-nil (suc channels) (omega arith)) ∙ few_samples flips (decimated factor []) count

-- an empty segment has no print
pub no_prints : (a : Analysis) → a ≡ full_analysis → (flips channels factor : ℕ) → prints_of a flips channels factor [] ≡ []
unfolding windows
no_prints a full flips zero factor = refl
no_prints a full flips (suc channels) factor = ap (λ of. prints_of_sound of flips (suc channels) factor []) full ∙ no_sound flips channels factor

-- no print has no block
pub no_blocks : (s : Setting) (n : ℕ) → 0 < s.block.size → blocks_of_segment s n [] ≡ []
no_blocks s n some = ap (λ ws. map (nth_block s n) (enumerate_from 0 ws)) (windows-nil s.block.size s.block.hop some)
