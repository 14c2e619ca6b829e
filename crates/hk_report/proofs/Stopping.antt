-- Where texts of a kind go wrong, from part to part.
use Rattle.std.proofs.Common.{◌≡◌, ℕ, ◌+◌, ◌^◌, ◌<◌, ◌≤◌, inl, inr, List, [], ◌∷◌, ◌++◌, refl, sym, ◌∙◌, ap, subst, append_assoc, arith, Result, Ok, Err, IfErr}
use Rattle.std.specs.Result.{IsErrAnd}
use Rattle.std.specs.Fmt.{decimal}
use Rattle.std.proofs.lemmas.List.{append_cancel_left}
use Rattle.hk_report.specs.LineReading.{IsDigit, IsCut, GoesOn, Stops, StopsBefore, Differs, LeavesWord, LeavesNumber, LeavesField, Behind, Numeral, Field}
use Rattle.hk_report.specs.declared.read.Misfit.{Misfit}
use Rattle.hk_report.proofs.Numbers.{split_number, digit_too_many, not_cut}

-- what may follow a number: there are such texts, and none begins with a digit
pub record FollowsNumber (K : List ℕ → Type 0) : Type 0 where
  pub sample : List ℕ
  pub member : K sample
  pub cut : (t : List ℕ) → K t → IsCut t

pub behind_follows : (c : ℕ) (word : List ℕ) (K : List ℕ → Type 0) (k : List ℕ) → (IsDigit c → ⊥) → K k → FollowsNumber (Behind (c ∷ word) K)
behind_follows c word K k other member = record {
  sample = (c ∷ word) ++ k;
  member = (k, refl, member);
  cut = λ t h. subst IsCut (sym h.1) other;
}

pub field_follows : (c : ℕ) (word : List ℕ) (most : ℕ) (K : List ℕ → Type 0) → (IsDigit c → ⊥) → FollowsNumber K → FollowsNumber (Field (c ∷ word) most K)
field_follows c word most K other f = behind_follows c word (Numeral most K) (decimal 0 ++ f.sample) other (0, f.sample, omega arith, refl, f.member)

-- at the exit of a call that went wrong
pub stopped : {T : Type 0} (K : List ℕ → Type 0) (text : List ℕ) (r : Result T Misfit) (e : Misfit) → IsErrAnd r (λ y. y ≡ e) → StopsBefore K text e.left.now → IfErr r (λ misfit. StopsBefore K text misfit.left.now)
stopped K text (Ok x) e is s = tt
stopped K text (Err y) e is s = subst (λ misfit. StopsBefore K text misfit.left.now) (sym is) s

goes_on_itself : (left : List ℕ) → GoesOn left left
goes_on_itself [] = refl
goes_on_itself (c ∷ left) = (left, refl)

goes_on_behind : (good left more : List ℕ) → GoesOn left more → GoesOn (good ++ left) (good ++ more)
goes_on_behind [] left more on = on
goes_on_behind (c ∷ good) left more on = (good ++ more, refl)

-- what goes wrong is no text of that kind
pub stops_none : (K : List ℕ → Type 0) (text left : List ℕ) → StopsBefore K text left → K text → ⊥
stops_none K text left s member = s.2.refused left (goes_on_itself left) (subst K s.1 member)

-- behind a front that only those of that kind may follow
pub stops_behind_front : (K L : List ℕ → Type 0) (front text rest left : List ℕ) → ((t : List ℕ) → K t → L (front ++ t)) → ((t : List ℕ) → GoesOn rest t → L (front ++ t) → K t)
    → text ≡ front ++ rest → StopsBefore K rest left → StopsBefore L text left
stops_behind_front K L front text rest left to from e s = (
  front ++ s.0,
  e ∙ ap (λ t. front ++ t) s.1 ∙ sym (append_assoc front s.0 left),
  record {
    begins = (s.2.begins.0, subst L (sym (append_assoc front s.0 s.2.begins.0)) (to (s.0 ++ s.2.begins.0) s.2.begins.1));
    refused = λ more on h.
        let begun : GoesOn rest (s.0 ++ more) = subst (λ t. GoesOn t (s.0 ++ more)) (sym s.1) (goes_on_behind s.0 left more on) in
        s.2.refused more on (from (s.0 ++ more) begun (subst L (append_assoc front s.0 more) h));
  },
)

-- a kind among others, to which all those belong that begin as the text does
pub stops_among : (K L : List ℕ → Type 0) (text left : List ℕ) → ((t : List ℕ) → K t → L t) → ((t : List ℕ) → GoesOn text t → L t → K t) → StopsBefore K text left → StopsBefore L text left
stops_among K L text left to from s = stops_behind_front K L [] text text left to from refl s

pub still_cut : (text t : List ℕ) → IsCut text → GoesOn text t → IsCut t
still_cut [] t cut on = subst IsCut (sym on) tt
still_cut (c ∷ text) t cut on = subst IsCut (sym on.1) cut

-- the same texts, described otherwise
pub same_kind : (K L : List ℕ → Type 0) (text left : List ℕ) → ((t : List ℕ) → K t → L t) → ((t : List ℕ) → L t → K t) → StopsBefore K text left → StopsBefore L text left
same_kind K L text left to from s = (
  s.0,
  s.1,
  record {
    begins = (s.2.begins.0, to (s.0 ++ s.2.begins.0) s.2.begins.1);
    refused = λ more on member. s.2.refused more on (from (s.0 ++ more) member);
  },
)

pub another_byte : (c : ℕ) (left more rest : List ℕ) → Differs c left → GoesOn left more → more ≡ c ∷ rest → ⊥
another_byte c [] more rest differs on e = let empty : more ≡ [] = on in cc
another_byte c (d ∷ left) more rest differs on e = let same : more ≡ d ∷ on.0 = on.1 in differs (let x : d ≡ c = cc in x)

-- a kind whose texts all begin with a word, and a text left in the word
pub stops_in_word : (K : List ℕ → Type 0) (word text left k : List ℕ) → K (word ++ k) → ((t : List ℕ) → K t → (r : List ℕ) × (t ≡ word ++ r))
    → (good : List ℕ) × (text ≡ good ++ left) × LeavesWord word good left → StopsBefore K text left
stops_in_word K word text left k member all w =
    let good : List ℕ = w.0 in
    let c : ℕ = w.2.0 in
    let missing : List ℕ = w.2.1 in
    let spelled : (r : List ℕ) → word ++ r ≡ good ++ (c ∷ missing ++ r) = λ r. ap (λ t. t ++ r) w.2.2 ∙ append_assoc good (c ∷ missing) r in (
      good,
      w.1,
      record {
        begins = (c ∷ missing ++ k, subst K (spelled k) member);
        refused = λ more on h. let r : (r : List ℕ) × (good ++ more ≡ word ++ r) = all (good ++ more) h in
            another_byte c left more (missing ++ r.0) w.2.3 on (append_cancel_left good more (c ∷ missing ++ r.0) (r.1 ∙ spelled r.0));
      },
    )

-- left in a word
pub stops_in_behind : (K : List ℕ → Type 0) (word text left k : List ℕ) → K k → (good : List ℕ) × (text ≡ good ++ left) × LeavesWord word good left → StopsBefore (Behind word K) text left
stops_in_behind K word text left k member w = stops_in_word (Behind word K) word text left k (k, refl, member) (λ t h. (h.0, h.1)) w

-- behind a whole word
pub stops_behind : (K : List ℕ → Type 0) (word text rest left : List ℕ) → text ≡ word ++ rest → StopsBefore K rest left → StopsBefore (Behind word K) text left
stops_behind K word text rest left e s = (
  word ++ s.0,
  e ∙ ap (λ t. word ++ t) s.1 ∙ sym (append_assoc word s.0 left),
  record {
    begins = (s.2.begins.0, (s.0 ++ s.2.begins.0, append_assoc word s.0 s.2.begins.0, s.2.begins.1));
    refused = λ more on h.
        let same : s.0 ++ more ≡ h.0 = append_cancel_left word (s.0 ++ more) h.0 (sym (append_assoc word s.0 more) ∙ h.1) in
        s.2.refused more on (subst K (sym same) h.2);
  },
)

-- behind a whole number
pub stops_after_number : (K : List ℕ → Type 0) (most n : ℕ) (text rest left : List ℕ) → most < 2 ^ 64 → FollowsNumber K → n ≤ most → text ≡ decimal n ++ rest → IsCut rest
    → StopsBefore K rest left → StopsBefore (Numeral most K) text left
stops_after_number K most n text rest left fits follows small e cut s = (
  decimal n ++ s.0,
  e ∙ ap (λ t. decimal n ++ t) s.1 ∙ sym (append_assoc (decimal n) s.0 left),
  record {
    begins = (s.2.begins.0, (n, s.0 ++ s.2.begins.0, small, append_assoc (decimal n) s.0 s.2.begins.0, s.2.begins.1));
    refused = λ more on h.
        let cut' : IsCut (s.0 ++ more) = still_cut (s.0 ++ left) (s.0 ++ more) (subst IsCut s.1 cut) (goes_on_behind s.0 left more on) in
        let same : (n ≡ h.0) × (s.0 ++ more ≡ h.1) = split_number n h.0 (s.0 ++ more) h.1 (omega arith) (omega (arith, h.2)) cut' (follows.cut h.1 h.4) (sym (append_assoc (decimal n) s.0 more) ∙ h.3) in
        s.2.refused more on (subst K (sym same.1) h.4);
  },
)

-- no number, or a digit too many
stops_in_number : (K : List ℕ → Type 0) (most : ℕ) (good left : List ℕ) → most < 2 ^ 64 → FollowsNumber K → LeavesNumber most good left → Stops (Numeral most K) good left
stops_in_number K most good left fits follows (inl none) = record {
  begins = (decimal 0 ++ follows.sample, (0, follows.sample, omega arith, ap (λ g. g ++ (decimal 0 ++ follows.sample)) none.0, follows.member));
  refused = λ more on h.
      let same : more ≡ decimal h.0 ++ h.1 = sym (ap (λ g. g ++ more) none.0) ∙ h.3 in
      not_cut h.0 h.1 (omega (arith, h.2)) (subst IsCut same (still_cut left more none.1 on));
}
stops_in_number K most good left fits follows (inr many) =
    let n : ℕ = many.0 in
    let digit : ℕ = many.1 in
    record {
      begins = (follows.sample, (n, follows.sample, many.4, ap (λ g. g ++ follows.sample) many.3, follows.member));
      refused = λ more on h.
          let next : (rest : List ℕ) × (more ≡ (48 + digit) ∷ rest) = subst (λ l. GoesOn l more) many.6 on in
          digit_too_many most n digit h.0 next.0 h.1 h.2 fits many.4 many.5 many.7 (follows.cut h.1 h.4)
          (ap (λ t. decimal n ++ t) (sym next.1) ∙ ap (λ g. g ++ more) (sym many.3) ∙ h.3);
    }

-- a word and a number, left in one of them
pub stops_in_field : (K : List ℕ → Type 0) (word : List ℕ) (most : ℕ) (text left : List ℕ) → most < 2 ^ 64 → FollowsNumber K
    → (good : List ℕ) × (text ≡ good ++ left) × LeavesField word most good left → StopsBefore (Field word most K) text left
stops_in_field K word most text left fits follows w =
    elim w.2 [
      | inl in_word ↦ stops_in_word (Field word most K) word text left (decimal 0 ++ follows.sample) (decimal 0 ++ follows.sample, refl, (0, follows.sample, omega arith, refl, follows.member)) (λ t h. (h.0, h.1)) (w.0, w.1, in_word)
      | inr in_number ↦
          stops_behind (Numeral most K) word text (in_number.0 ++ left) left (w.1 ∙ ap (λ g. g ++ left) in_number.1 ∙ append_assoc word in_number.0 left)
          (in_number.0, refl, stops_in_number K most in_number.0 left fits follows in_number.2)
    ]

-- behind a whole word and number
pub stops_after_field : (K : List ℕ → Type 0) (word : List ℕ) (most n : ℕ) (text rest left : List ℕ) → most < 2 ^ 64 → FollowsNumber K → n ≤ most
    → text ≡ word ++ decimal n ++ rest → IsCut rest → StopsBefore K rest left → StopsBefore (Field word most K) text left
stops_after_field K word most n text rest left fits follows small e cut s =
    stops_behind (Numeral most K) word text (decimal n ++ rest) left (e ∙ append_assoc word (decimal n) rest)
    (stops_after_number K most n (decimal n ++ rest) rest left fits follows small refl cut s)
