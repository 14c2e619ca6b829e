-- A sample more completes a frame, or doesn't.
use Rattle.std.proofs.Common.{◌≡◌, ℕ, ◌+◌, ◌-◌, ◌<◌, List, [], ◌∷◌, ◌++◌, length, drop, true, false, ap, sym, ◌∙◌, arith, length-append, length-drop, ℤ}
use Rattle.std.proofs.Math.Seq.{drop-nil}
use Rattle.circular_buffer.specs.Buffer.{keep_last}
use Rattle.hk_spec_sound.specs.Windows.{begun}
use Rattle.hk_spec_sound.proofs.BegunWindows.{windows-whole, windows-begun, begun-nil}
use Rattle.hk_spec_sound.proofs.LastWindows.{completes-whole, completes-part, begun-last, last-more}
use Rattle.hk_frames.specs.Recent.{Recent, HasLastSamples, FRAME_LEN, FRAME_STEP, completes_frame, frames_of}

-- at first nothing was taken
pub taken_nothing : (recent : Recent) → recent.last ≡ [] → recent.missing ≡ FRAME_LEN → HasLastSamples recent []
taken_nothing recent empty all = record {
  last = empty ∙ sym (drop-nil (0 - FRAME_LEN));
  missing = omega (arith, ap length (begun-nil {A = ℤ} FRAME_LEN FRAME_STEP), all);
}

-- the last samples of the ring and the one that comes are the last of all
still_last : (recent : Recent) (samples : List ℤ) (y : ℤ) → HasLastSamples recent samples
    → keep_last FRAME_LEN (recent.last ++ y ∷ []) ≡ drop (length (samples ++ y ∷ []) - FRAME_LEN) (samples ++ y ∷ [])
still_last recent samples y has = ap (λ last. keep_last FRAME_LEN (last ++ y ∷ [])) has.last ∙ last-more FRAME_LEN samples y

pub taken_whole : (recent : Recent) (last samples : List ℤ) (y : ℤ) → last ≡ keep_last FRAME_LEN (recent.last ++ y ∷ []) → recent.missing ≡ 1
    → HasLastSamples recent samples
    → HasLastSamples (record { last = last; missing = FRAME_STEP }) (samples ++ y ∷ [])
    × (true ≡ completes_frame (length samples + 1))
    × (frames_of (samples ++ y ∷ []) ≡ frames_of samples ++ last ∷ [])
taken_whole recent last samples y is one has =
    let begins : length (begun FRAME_LEN FRAME_STEP samples) + 1 ≡ FRAME_LEN = omega (arith, has.missing, one) in
    let law = windows-whole FRAME_LEN FRAME_STEP samples y (omega arith) (omega arith) begins in
    let frame = begun FRAME_LEN FRAME_STEP samples ++ y ∷ [] in
    let ends = is ∙ still_last recent samples y has in (
      record {
        last = ends;
        missing = omega (arith, ap length law.1, length-drop FRAME_STEP frame, length-append (begun FRAME_LEN FRAME_STEP samples) (y ∷ []), begins);
      },
      sym (completes-whole FRAME_LEN FRAME_STEP samples (omega arith) (omega arith) begins),
      law.0 ∙ ap (λ frame. frames_of samples ++ frame ∷ []) (begun-last FRAME_LEN FRAME_STEP samples y (omega arith) begins ∙ sym ends),
    )

pub taken_part : (recent : Recent) (last samples : List ℤ) (y : ℤ) → last ≡ keep_last FRAME_LEN (recent.last ++ y ∷ []) → 1 < recent.missing
    → HasLastSamples recent samples
    → HasLastSamples (record { last = last; missing = recent.missing - 1 }) (samples ++ y ∷ [])
    × (false ≡ completes_frame (length samples + 1))
    × (frames_of (samples ++ y ∷ []) ≡ frames_of samples)
taken_part recent last samples y is more has =
    let begins : length (begun FRAME_LEN FRAME_STEP samples) + 1 < FRAME_LEN = omega (arith, has.missing, more) in
    let law = windows-begun FRAME_LEN FRAME_STEP samples y (omega arith) (omega arith) begins in (
      record {
        last = is ∙ still_last recent samples y has;
        missing = omega (arith, ap length law.1, length-append (begun FRAME_LEN FRAME_STEP samples) (y ∷ []), has.missing, more);
      },
      sym (completes-part FRAME_LEN FRAME_STEP samples (omega arith) (omega arith) begins),
      law.0,
    )

-- how many samples there are then
pub length-keep_last : (size : ℕ) (xs : List ℤ) (x : ℤ) → length (keep_last size (xs ++ x ∷ [])) ≡ length xs + 1 - (length xs + 1 - size)
length-keep_last size xs x = length-drop (length (xs ++ x ∷ []) - size) (xs ++ x ∷ []) ∙ ap (λ n. n - (n - size)) (length-append xs (x ∷ []))
