-- What a replay prints tells whether all its streams ended in order.
use Rattle.std.proofs.Common.{◌≡◌, ℕ, ◌++◌, List, [], ◌∷◌, length, ap, sym, ◌∙◌, arith, length-append}
use Rattle.std.specs.List.{list_all}
use Rattle.hk_spec_lines.proofs.LastBytes.{newlines, newlines_behind}
use Rattle.hk_spec_settings.specs.Settings.{Rules}
use Rattle.hk_spec_runs.specs.Replay.{scene_of, out, summary, replay}
use Rattle.hk_spec_runs.specs.Outcome.{has_ended}
use Rattle.hk_spec_runs.proofs.SceneEnds.{scene_kept}
use Rattle.hk_spec_runs.proofs.LastLines.{Told, summary_tells}

-- equal lists end alike, in ends of the same length
same_last : {A : Type 0} (a b x y : List A) → length x ≡ length y → a ++ x ≡ b ++ y → x ≡ y
same_last [] [] x y long e = e
same_last [] (c ∷ b) x y long e =
    let all : length x ≡ length ((c ∷ b) ++ y) = ap length e in
    absurd (omega (arith, long, all, length-append b y))
same_last (c ∷ a) [] x y long e =
    let all : length ((c ∷ a) ++ x) ≡ length y = ap length e in
    absurd (omega (arith, long, all, length-append a x))
same_last (c ∷ a) (d ∷ b) x y long e = same_last a b x y long (cc)

module _ (rules : Rules) (input : List ℕ) where
  tells : (refused : List ℕ) → Told rules (scene_of rules input refused)
  tells refused = summary_tells rules (scene_of rules input refused) (scene_kept rules input refused)

  newlines_are : (refused : List ℕ) → newlines 0 (replay rules input refused) ≡ newlines 0 (out rules input refused) ++ (tells refused).told
  unfolding replay
  newlines_are refused = newlines_behind (out rules input refused) (summary rules (scene_of rules input refused)) (tells refused).told 0 (tells refused).has

-- Equal replays of an input ended alike, whichever commands were refused for memory.
pub ends_are_told : (rules : Rules) (input some others : List ℕ)
    → replay rules input some ≡ replay rules input others
    → has_ended rules (scene_of rules input some) ≡ has_ended rules (scene_of rules input others)
ends_are_told rules input some others same =
    let one : Told rules (scene_of rules input some) = tells rules input some in
    let two : Told rules (scene_of rules input others) = tells rules input others in
    let told : one.told ≡ two.told =
    same_last (newlines 0 (out rules input some)) (newlines 0 (out rules input others)) one.told two.told (one.as_many ∙ sym two.as_many)
    (sym (newlines_are rules input some) ∙ ap (newlines 0) same ∙ newlines_are rules input others) in
    sym one.all ∙ ap (list_all (λ b. b)) told ∙ two.all
