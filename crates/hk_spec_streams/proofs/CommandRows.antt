-- What holds of each row of the kinds of command.
use Rattle.std.proofs.Common.{◌≡◌, ℕ, List, [], ◌∷◌, refl, Bool, true, false, Option, Some, None, cond, map}
use Rattle.std.specs.Prelude.{◌==◌, ◌||◌, find, is_some}
use Rattle.std.specs.Option.{option_map_or}
use Rattle.hk_spec_streams.specs.Pieces.{is_one_of}
use Rattle.hk_spec_streams.specs.Commands.{Row, Sound, Nothing, KINDS, ADD_WORDS, OPEN_SONG, AUDIO, CLOSE, WITHDRAW, PUBLISH, numbers, row_of, has_id, content_of}

-- of no row, and of each of these
abbrev pub Each : {X : Type 0} → (Option X → Type 0) → List X → Type 0
Each P [] = Unit {0}
Each P (x ∷ xs) = P (Some x) × Each P xs

found_by : {X : Type 0} (P : Option X → Type 0) (t : Bool) (x : X) (o : Option X) → P (Some x) → P o → P (cond t (Some x) o)
found_by P true x o here there = here
found_by P false x o here there = there

-- what holds of each of a list, and of none, holds of what is found in it
pub find-each : {X : Type 0} (P : Option X → Type 0) (p : X → Bool) (xs : List X) → P None → Each P xs → P (find p xs)
find-each P p [] none each = none
find-each P p (x ∷ xs) none each = found_by P (p x) x (find p xs) each.0 (find-each P p xs none each.1)

pub by_row : (P : Option Row → Type 0) (number : ℕ) → P None → P (Some ADD_WORDS) → P (Some OPEN_SONG) → P (Some AUDIO) → P (Some CLOSE) → P (Some WITHDRAW) → P (Some PUBLISH)
    → P (row_of number)
by_row P number none add opens audio close withdraw publish =
    find-each P (λ row. row.number == number) KINDS none (add, (opens, (audio, (close, (withdraw, (publish, tt))))))

-- sound fills a payload
pub sound_has_no_id : (number : ℕ) → content_of number ≡ Sound → has_id number ≡ false
sound_has_no_id number = by_row (λ o. option_map_or (λ row. row.content) o Nothing ≡ Sound → option_map_or (λ row. row.has_id) o false ≡ false) number
    (λ is. refl) (λ is. absurd (cc)) (λ is. absurd (cc)) (λ is. refl) (λ is. refl) (λ is. absurd (cc)) (λ is. refl)

-- a number is among the kinds exactly where it has a row
any-find : {X : Type 0} (n : ℕ) (f : X → ℕ) (xs : List X) → is_one_of (map f xs) n ≡ is_some (find (λ x. f x == n) xs)
any-find n f [] = refl
any-find n f (x ∷ xs) = by (f x == n) (any-find n f xs)
  where
    by : (t : Bool) → is_one_of (map f xs) n ≡ is_some (find (λ x. f x == n) xs) → (t || is_one_of (map f xs) n) ≡ is_some (cond t (Some x) (find (λ x. f x == n) xs))
    by true rest = refl
    by false rest = rest

pub is_kind : (number : ℕ) → is_one_of numbers number ≡ is_some (row_of number)
is_kind number = any-find number (λ (row : Row). row.number) KINDS
