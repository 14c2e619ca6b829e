-- What a text's last byte completes of a list that grows with the text.
use Rattle.std.proofs.Common.{◌≡◌, ℕ, ◌+◌, ◌-◌, List, [], ◌∷◌, ◌++◌, length, take, drop, ◌∙◌, ap, arith, length-append}
use Rattle.std.proofs.Math.Seq.{take-append_seam, drop-append_seam}
use Rattle.hk_spec_streams.specs.Pieces.{completed}

-- what the last byte completes of a list that grows with the text
pub completed-append : {A : Type 0} (items : List ℕ → List A) (text : List ℕ) (b : ℕ)
    → completed items (text ++ b ∷ []) ≡ drop (length (items text)) (items (text ++ b ∷ []))
completed-append items text b =
    let long : length (text ++ b ∷ []) ≡ length text + 1 = length-append text (b ∷ []) in
    let before : length (text ++ b ∷ []) - 1 ≡ length text = omega (arith, long) in
    ap (λ n. drop (length (items (take n (text ++ b ∷ [])))) (items (text ++ b ∷ []))) before
    ∙ ap (λ t. drop (length (items t)) (items (text ++ b ∷ []))) (take-append_seam text (b ∷ []))

pub completed-more : {A : Type 0} (items : List ℕ → List A) (text : List ℕ) (b : ℕ) (more : List A)
    → items (text ++ b ∷ []) ≡ items text ++ more → completed items (text ++ b ∷ []) ≡ more
completed-more items text b more grown =
    completed-append items text b ∙ ap (drop (length (items text))) grown ∙ drop-append_seam (items text) more
