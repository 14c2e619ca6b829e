-- The last four bytes, as the next byte comes.
use Rattle.std.proofs.Common.{◌≡◌, ℕ, ◌+◌, ◌-◌, List, [], ◌∷◌, ◌++◌, length, drop, refl, sym, ◌∙◌, ap, arith, length-append, append_assoc}
use Rattle.std.specs.Prelude.{slice_index_or}
use Rattle.std.proofs.lemmas.List.{drop-append-le, drop-drop, length-drop}
use Rattle.hk_operator_wire.specs.declared.recent.LastFour.{LastFour}
use Rattle.hk_operator_wire.specs.Heads.{HasLastFour, four_of}

-- four bytes moved on by one
abbrev pub moved : List ℕ → ℕ → List ℕ
moved xs b = slice_index_or xs 1 0 ∷ slice_index_or xs 2 0 ∷ slice_index_or xs 3 0 ∷ b ∷ []

pub moved_is : (xs : List ℕ) (b : ℕ) → length xs ≡ 4 → moved xs b ≡ drop 1 (xs ++ b ∷ [])
moved_is [] b four = absurd (omega arith)
moved_is (x ∷ []) b four = absurd (omega arith)
moved_is (x ∷ y ∷ []) b four = absurd (omega arith)
moved_is (x ∷ y ∷ z ∷ []) b four = absurd (omega arith)
moved_is (x ∷ y ∷ z ∷ w ∷ []) b four = refl
moved_is (x ∷ y ∷ z ∷ w ∷ v ∷ xs) b four = absurd (omega arith)

pub four_there : (recent : LastFour) (bytes : List ℕ) → HasLastFour recent bytes → length (four_of recent) ≡ 4
four_there recent bytes e =
    let long : length (e.before ++ bytes) ≡ length e.before + length bytes = length-append e.before bytes in
    let left : length (drop (length bytes) (e.before ++ bytes)) ≡ length (e.before ++ bytes) - length bytes = length-drop (length bytes) (e.before ++ bytes) in
    let four : length e.before ≡ 4 = e.four in
    ap length e.is ∙ (omega (arith, long, left, four))

pub begins : (old new : LastFour) (bytes : List ℕ) (b : ℕ) → HasLastFour old bytes → four_of new ≡ moved (four_of old) b → HasLastFour new (b ∷ [])
begins old new bytes b e is = record {
  before = four_of old;
  four = four_there old bytes e;
  is = is ∙ moved_is (four_of old) b (four_there old bytes e);
}

pub goes_on : (old new : LastFour) (bytes : List ℕ) (b : ℕ) → HasLastFour old bytes → four_of new ≡ moved (four_of old) b → HasLastFour new (bytes ++ b ∷ [])
goes_on old new bytes b e is =
    let n : ℕ = length bytes in
    let all : List ℕ = e.before ++ bytes in
    let long : length (e.before ++ bytes) ≡ length e.before + length bytes = length-append e.before bytes in
    let more : length (bytes ++ b ∷ []) ≡ length bytes + 1 = length-append bytes (b ∷ []) in
    record {
      before = e.before;
      four = e.four;
      is = is ∙ moved_is (four_of old) b (four_there old bytes e)
          ∙ ap (λ xs. drop 1 (xs ++ b ∷ [])) e.is
          ∙ ap (drop 1) (sym (drop-append-le n all (b ∷ []) (omega (arith, long))))
          ∙ drop-drop 1 n (all ++ b ∷ [])
          ∙ ap (drop (n + 1)) (append_assoc e.before bytes (b ∷ []))
          ∙ ap (λ k. drop k (e.before ++ (bytes ++ b ∷ []))) (sym more);
    }
