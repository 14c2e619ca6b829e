-- Writers called one after another, up to the first that fails.
use Rattle.std.proofs.Common.{◌≡◌, ℕ, ◌+◌, ◌<◌, ◌≤◌, ◌∙◌, List, [], ◌++◌, Option, Result, Ok, Err, refl, sym, ap, subst, take, drop, get_or, length, append_assoc, length-append, arith}
use Rattle.std.specs.List.{flat_map}
use Rattle.std.proofs.lemmas.List.{take-append-drop, take_more, flat_map_more}
use Rattle.std.proofs.lemmas.Grind.{flat_map-append}
use Rattle.hk_base.specs.Devices.{Wrote, WroteFront, Rose}
use Rattle.hk_base.specs.Writing.{HasWritten, HasFailed, Writes}
use Rattle.hk_base.specs.declared.sink.Sink.{Ghosts}
use Rattle.hk_base.proofs.Taking.{Wrote-nothing, Wrote-append}

pub rose_never_falls : (p q : ℕ) → Rose p q → p ≤ q
rose_never_falls p q h = omega (arith, h)

-- a front of a text is one of the text and more
pub front_then : (a b : List ℕ) (x y : Option (List ℕ)) → WroteFront a x y → WroteFront (a ++ b) x y
front_then a b x y h = (h.0, h.1 ++ b, ap (λ t. t ++ b) h.2 ∙ append_assoc h.0 h.1 b, omega (arith, length-append h.1 b, h.3), h.4)

-- a whole text, and then a front of another
pub then_front : (a b : List ℕ) (x y z : Option (List ℕ)) → Wrote a x y → WroteFront b y z → WroteFront (a ++ b) x z
then_front a b x y z whole h = (a ++ h.0, h.1, ap (λ t. a ++ t) h.2 ∙ sym (append_assoc a h.0 h.1), h.3, Wrote-append a h.0 x y z whole h.4)

module _ {K : Type 0} {sink : Ghosts K} where
  pub written-nothing : {x : K} → HasWritten sink [] x x
  written-nothing {x} = record { appended = Wrote-nothing (sink.written x); stays = refl }

  pub written-append : {a b : List ℕ} {x y z : K} → HasWritten sink a x y → HasWritten sink b y z → HasWritten sink (a ++ b) x z
  written-append {a} {b} first second = record { appended = Wrote-append a b _ _ _ first.appended second.appended; stays = second.stays ∙ first.stays }

  pub failed_within : {a : List ℕ} (b : List ℕ) {x y : K} → HasFailed sink a x y → HasFailed sink (a ++ b) x y
  failed_within {a} b torn = record { front = front_then a b _ _ torn.front; cause = torn.cause }

  pub failed_behind : {a b : List ℕ} {x y z : K} → HasWritten sink a x y → HasFailed sink b y z → HasFailed sink (a ++ b) x z
  failed_behind {a} {b} {x} {y} {z} whole torn = record {
    front = then_front a b _ _ _ whole.appended torn.front;
    cause = subst (λ n. Rose n (sink.faults z)) whole.stays torn.cause;
  }

  -- a writer that failed fails in all that begins with its text
  pub torn_then : {T E : Type 0} {a : List ℕ} (b : List ℕ) {e : E} {x y : K} → Writes sink {T = T} a (Err e) x y → Writes sink {T = T} (a ++ b) (Err e) x y
  torn_then b w = record { whole = tt; torn = failed_within b w.torn }

  -- a whole text, and then what the last writer did
  pub whole_then : {T U E : Type 0} {a b : List ℕ} {u : U} {r : Result T E} {x y z : K}
      → Writes sink {E = E} a (Ok u) x y → Writes sink b r y z → Writes sink (a ++ b) r x z
  whole_then {r = Ok v} w last = record { whole = written-append w.whole last.whole; torn = tt }
  whole_then {r = Err e} w last = record { whole = tt; torn = failed_behind w.whole last.torn }

  -- the same text, its parts set out otherwise
  pub same_text : {T E : Type 0} {a b : List ℕ} {r : Result T E} {x y : K} → a ≡ b → Writes sink a r x y → Writes sink b r x y
  same_text {r} {x} {y} e w = subst (λ text. Writes sink text r x y) e w

  -- the texts of the first items were written, and then the writer of the next failed
  pub torn_at : {X : Type 0} (f : X → List ℕ) (xs : List X) (i : ℕ) (d : X) {x y z : K} → i < length xs
      → HasWritten sink (flat_map f (take i xs)) x y → HasFailed sink (f (get_or xs i d)) y z → HasFailed sink (flat_map f xs) x z
  torn_at f xs i d {x} {y} {z} h first second =
      let one_more = flat_map_more f [] (take i xs) (get_or xs i d) ∙ ap (flat_map f) (sym (take_more xs i d h)) in
      let all = sym (flat_map-append f (take (i + 1) xs) (drop (i + 1) xs)) ∙ ap (flat_map f) (take-append-drop (i + 1) xs) in
      subst (λ text. HasFailed sink text x z) (ap (λ t. t ++ flat_map f (drop (i + 1) xs)) one_more ∙ all) (failed_within (flat_map f (drop (i + 1) xs)) (failed_behind first second))
