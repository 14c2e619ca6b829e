-- How many bytes numbers, prints and commands take.
use Rattle.std.proofs.Common.{◌≡◌, ℕ, ◌+◌, ◌*◌, List, [], ◌∷◌, ◌++◌, length, flat_map, refl, arith}
use Rattle.std.specs.Int.{w32, to_be_bytes}
use Rattle.hk_base.specs.declared.plain.Print.{Print}
use Rattle.hk_spec_streams.specs.Commands.{ADD_WORDS}
use Rattle.hk_spec_made.specs.Input.{print_bytes, command_bytes}

pub length-words : (words : List ℕ) → length (flat_map (to_be_bytes w32) words) ≡ 4 * length words
length-words [] = refl
length-words (word ∷ words) = omega (arith, length-words words)

pub length-prints : (print_of : ℕ → Print) (places : List ℕ) → length (flat_map (λ i. print_bytes (print_of i)) places) ≡ 8 * length places
length-prints print_of [] = refl
length-prints print_of (place ∷ places) = omega (arith, length-prints print_of places)

pub length-add : (id : ℕ) (words : List ℕ)
    → length (command_bytes ADD_WORDS.number (to_be_bytes w32 id ++ flat_map (to_be_bytes w32) words)) ≡ 9 + 4 * length words
length-add id words = omega (arith, length-words words)
