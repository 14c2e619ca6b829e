-- Three lists side by side.
use Rattle.std.specs.Prelude.{◌≡◌, ℕ, List, length, slice_get, Some}

-- As many of one as before and as many of the other, and this of each before and after, and its other.
pub record EachOf {A B : Type 0} (P : A → A → B → Type 0) (old new : List A) (others : List B) : Type 0 where
  pub as_many : length new ≡ length old
  pub one_each : length others ≡ length old
  pub each : (i : ℕ) (a b : A) (other : B) → slice_get old i ≡ Some a → slice_get new i ≡ Some b → slice_get others i ≡ Some other → P a b other

-- It stands at some place of some of these lists.
abbrev pub IsOneOf : {A : Type 0} → List (List A) → A → Type 0
IsOneOf {A} lists x = (list : List A) × (i k : ℕ) × (slice_get lists i ≡ Some list) × (slice_get list k ≡ Some x)
