-- How many words there are, in a song's nodes and in slots.
use Rattle.std.proofs.Common.{◌≡◌, ℕ, ◌+◌, ◌<◌, Bool, List, [], ◌∷◌, length, set, get_or, refl, ap, sym, ◌∙◌, arith, cond, Option, None}
use Rattle.std.specs.List.{count_by, sum_by, flat_map}
use Rattle.std.proofs.lemmas.List.Concat.{flat_map-cons, length-flat_map}
use Rattle.std.proofs.lemmas.List.Sums.{sum_by-cons, sum_by-append, sum_by-set}
use Rattle.hk_table.specs.Index.{words_in, all_words}

pub count_by-flat_map : {X A : Type 0} (p : A → Bool) (f : X → List A) (xs : List X) → count_by p (flat_map f xs) ≡ sum_by (λ x. count_by p (f x)) xs
count_by-flat_map p f [] = refl
count_by-flat_map p f (x ∷ xs) =
    ap (count_by p) (flat_map-cons f x xs) ∙ sum_by-append (λ a. cond (p a) 1 0) (f x) (flat_map f xs)
    ∙ ap (λ n. count_by p (f x) + n) (count_by-flat_map p f xs) ∙ sym (sum_by-cons (λ x. count_by p (f x)) x xs)

-- the words of one slot are others
pub count-set : (p : ℕ → Bool) (slots : List (Option (List ℕ))) (i : ℕ) (new : Option (List ℕ)) → i < length slots
    → count_by p (all_words (set slots i new)) + count_by p (words_in (get_or slots i None)) ≡ count_by p (all_words slots) + count_by p (words_in new)
count-set p slots i new low =
    omega (
      arith,
      count_by-flat_map p words_in (set slots i new),
      count_by-flat_map p words_in slots,
      sum_by-set (λ slot. count_by p (words_in slot)) slots i new None low,
    )

pub length-set_words : (slots : List (Option (List ℕ))) (i : ℕ) (new : Option (List ℕ)) → i < length slots
    → length (all_words (set slots i new)) + length (words_in (get_or slots i None)) ≡ length (all_words slots) + length (words_in new)
length-set_words slots i new low =
    omega (arith, length-flat_map words_in (set slots i new), length-flat_map words_in slots, sum_by-set (λ slot. length (words_in slot)) slots i new None low)
