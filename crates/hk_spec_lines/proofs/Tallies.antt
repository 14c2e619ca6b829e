-- What is counted in reports and replies: each mark stands where its thing is told, and nowhere else.
use Rattle.std.proofs.Common.{◌≡◌, ℕ, zero, suc, ◌+◌, ◌<◌, ◌≤◌, ◌/◌, ◌%◌, Bool, true, false, cond, List, [], ◌∷◌, ◌++◌, length, refl, sym, ap, ◌∙◌, subst, arith, codes, append_assoc, lt-ltb, ne_eqb}
use Rattle.std.specs.Prelude.{◌==◌, flat_map}
use Rattle.std.specs.Fmt.{decimal, digits, digits_onto, digit_glyph}
use Rattle.hk_base.specs.declared.plain.Match.{Match}
use Rattle.hk_base.specs.declared.plain.Head.{Head}
use Rattle.hk_base.specs.declared.plain.Reason.TheVariants.{Duplicate, Short, Unknown, SongsFull, PositionsFull, VersionsFull, SongOpen, NoSongOpen, NoMemory}
use Rattle.hk_base.specs.declared.plain.What.{What}
use Rattle.hk_base.specs.declared.plain.What.TheVariants.{Done, Published, Refused}
use Rattle.hk_spec_lines.specs.Lines.{NEWLINE, numbered, match_text, list_text, line, what_text, reply_line, Printed, Report, Replied, printed_text}
use Rattle.hk_spec_lines.specs.Make.{Tally, nothing_counted, one_if, counted, tally_of, with_reply, with_printed}

-- a text has no T, and counts so much beside what comes behind it
abbrev pub Counts : List ℕ → (Tally → Tally) → Type 0
Counts text more = (rest : List ℕ) → tally_of (text ++ rest) ≡ more (tally_of rest)

-- a text counts nothing
abbrev pub IsUnmarked : List ℕ → Type 0
IsUnmarked text = Counts text (λ t. t)

-- one text behind another
pub Counts-append : (front text : List ℕ) (more further : Tally → Tally) → Counts front more → Counts text further → Counts (front ++ text) (λ t. more (further t))
Counts-append front text more further first second rest =
    ap tally_of (append_assoc front text rest) ∙ first (text ++ rest) ∙ ap more (second rest)

-- a text behind one that counts nothing
unmarked_then : (front text : List ℕ) (more : Tally → Tally) → IsUnmarked front → Counts text more → Counts (front ++ text) more
unmarked_then front text more first second = Counts-append front text (λ t. t) more first second

pub same_tally : (a b : Tally) → a.blocks ≡ b.blocks → a.matches ≡ b.matches → a.versions ≡ b.versions → a.refusals ≡ b.refusals → a ≡ b
same_tally a b bs ms vs rs =
    ap (λ n. record a { blocks = n }) bs ∙ ap (λ n. record { blocks = b.blocks; matches = n; versions = a.versions; refusals = a.refusals }) ms
    ∙ ap (λ n. record { blocks = b.blocks; matches = b.matches; versions = n; refusals = a.refusals }) vs ∙ ap (λ n. record b { refusals = n }) rs

-- a digit counts nothing
digit_unmarked : (byte : ℕ) → 48 ≤ byte → byte < 58 → IsUnmarked (byte ∷ [])
unfolding tally_of
digit_unmarked byte least most rest =
    let t : Tally = tally_of rest in
    ap (λ (b : Bool). cond b nothing_counted (counted byte t)) (ne_eqb byte 84 (λ is. omega (arith, most, is)))
    ∙ same_tally (counted byte t) t
    (ap (λ b. one_if b t.blocks) (ne_eqb byte 58 (λ is. omega (arith, most, is))))
    (ap (λ b. one_if b t.matches) (ne_eqb byte 126 (λ is. omega (arith, most, is))))
    (ap (λ b. one_if b t.versions) (ne_eqb byte 98 (λ is. omega (arith, most, is))))
    (ap (λ b. one_if b t.refusals) (ne_eqb byte 121 (λ is. omega (arith, most, is))))

glyph_unmarked : (d : ℕ) → d < 10 → IsUnmarked (digit_glyph false d ∷ [])
glyph_unmarked d small =
    subst (λ byte. IsUnmarked (byte ∷ [])) (sym (ap (λ (b : Bool). cond b (48 + d) (87 + d)) (lt-ltb d 10 small))) (digit_unmarked (48 + d) (omega arith) (omega (arith, small)))

either : (b : Bool) (xs ys : List ℕ) → IsUnmarked xs → IsUnmarked ys → IsUnmarked (cond b xs ys)
either true xs ys p q = p
either false xs ys p q = q

digits_unmarked : (k n : ℕ) (text : List ℕ) → IsUnmarked text → IsUnmarked (digits_onto k 10 false n text)
digits_unmarked zero n text behind = behind
digits_unmarked (suc k) n text behind =
    let one : IsUnmarked (digit_glyph false (n % 10) ∷ text) = unmarked_then (digit_glyph false (n % 10) ∷ []) text (λ t. t) (glyph_unmarked (n % 10) (omega arith)) behind in
    either (n / 10 == 0) (digit_glyph false (n % 10) ∷ text) (digits_onto k 10 false (n / 10) (digit_glyph false (n % 10) ∷ text)) one
    (digits_unmarked k (n / 10) (digit_glyph false (n % 10) ∷ text) one)

decimal_unmarked : (n : ℕ) → IsUnmarked (decimal n)
unfolding digits
decimal_unmarked n = digits_unmarked 64 n [] (λ rest. refl)

-- a text that counts nothing behind another
then_unmarked : (front text : List ℕ) (more : Tally → Tally) → Counts front more → IsUnmarked text → Counts (front ++ text) more
then_unmarked front text more first second = Counts-append front text more (λ t. t) first second

-- one text behind another, and neither counts anything
both_unmarked : (front text : List ℕ) → IsUnmarked front → IsUnmarked text → IsUnmarked (front ++ text)
both_unmarked front text first second = Counts-append front text (λ t. t) (λ t. t) first second

-- a word and a number
numbered_counts : (word : List ℕ) (n : ℕ) (more : Tally → Tally) → Counts (word ++ codes " ") more → Counts (numbered word n) more
numbered_counts word n more first = then_unmarked (word ++ codes " ") (decimal n) more first (decimal_unmarked n)

abbrev with_matches : ℕ → Tally → Tally
with_matches n t = record t { matches = n + t.matches }

abbrev one_match : Tally → Tally
one_match t = record t { matches = t.matches + 1 }

-- an item has one tilde
item_counts : (m : Match) → Counts (match_text m) one_match
unfolding tally_of
item_counts m =
    let front : List ℕ = decimal m.id ++ codes "@" ++ decimal m.start in
    then_unmarked (front ++ codes "~") (decimal m.errors) one_match
    (Counts-append front (codes "~") (λ t. t) one_match
    (both_unmarked (decimal m.id ++ codes "@") (decimal m.start) (both_unmarked (decimal m.id) (codes "@") (decimal_unmarked m.id) (λ rest. refl)) (decimal_unmarked m.start)) (λ rest. refl))
    (decimal_unmarked m.errors)

-- items behind one
further_count : (ms : List Match) → Counts (flat_map (λ m. codes " " ++ match_text m) ms) (with_matches (length ms))
unfolding tally_of
further_count [] rest = same_tally (tally_of rest) (with_matches 0 (tally_of rest)) refl (omega arith) refl refl
further_count (m ∷ ms) rest =
    Counts-append (codes " " ++ match_text m) (flat_map (λ m. codes " " ++ match_text m) ms) one_match (with_matches (length ms))
    (unmarked_then (codes " ") (match_text m) one_match (λ rest. refl) (item_counts m)) (further_count ms) rest
    ∙ same_tally (one_match (with_matches (length ms) (tally_of rest))) (with_matches (length (m ∷ ms)) (tally_of rest)) refl (omega arith) refl refl

list_counts : (ms : List Match) → Counts (list_text ms) (with_matches (length ms))
unfolding tally_of
list_counts [] rest = same_tally (tally_of rest) (with_matches 0 (tally_of rest)) refl (omega arith) refl refl
list_counts (m ∷ ms) rest =
    Counts-append (match_text m) (flat_map (λ m. codes " " ++ match_text m) ms) one_match (with_matches (length ms)) (item_counts m) (further_count ms) rest
    ∙ same_tally (one_match (with_matches (length ms) (tally_of rest))) (with_matches (length (m ∷ ms)) (tally_of rest)) refl (omega arith) refl refl

abbrev one_block : Tally → Tally
one_block t = record t { blocks = t.blocks + 1 }

-- a report
line_counts : (head : Head) (list : List Match) → Counts (line head list) (with_printed (Report head list))
unfolding line tally_of
line_counts head list =
    let s : List ℕ = numbered (codes "S") head.station in
    let b : List ℕ = s ++ numbered (codes " B") head.block in
    let g : List ℕ = b ++ numbered (codes " G") head.segment in
    let w : List ℕ = g ++ numbered (codes " W") head.first in
    let v : List ℕ = w ++ numbered (codes " V") head.version in
    let numbers : IsUnmarked v =
    both_unmarked w (numbered (codes " V") head.version
    ) (both_unmarked g (numbered (codes " W") head.first
    ) (both_unmarked b (numbered (codes " G") head.segment
    ) (both_unmarked s (numbered (codes " B") head.block
    ) (numbered_counts (codes "S") head.station (λ t. t) (λ rest. refl))
    (numbered_counts (codes " B") head.block (λ t. t) (λ rest. refl)))
    (numbered_counts (codes " G") head.segment (λ t. t) (λ rest. refl)))
    (numbered_counts (codes " W") head.first (λ t. t) (λ rest. refl)))
    (numbered_counts (codes " V") head.version (λ t. t) (λ rest. refl)) in
    then_unmarked (v ++ codes ": " ++ list_text list) NEWLINE (with_printed (Report head list))
    (Counts-append (v ++ codes ": ") (list_text list) one_block (with_matches (length list))
    (unmarked_then v (codes ": ") one_block numbers (λ rest. refl)) (list_counts list)) (λ rest. refl)

-- what a reply says
what_counts : (what : What) → Counts (what_text what) (with_reply what)
unfolding tally_of
what_counts Done = λ rest. refl
what_counts (Published v) = numbered_counts (codes "published") v (with_reply (Published v)) (λ rest. refl)
what_counts (Refused Duplicate) = λ rest. refl
what_counts (Refused Short) = λ rest. refl
what_counts (Refused Unknown) = λ rest. refl
what_counts (Refused SongsFull) = λ rest. refl
what_counts (Refused PositionsFull) = λ rest. refl
what_counts (Refused VersionsFull) = λ rest. refl
what_counts (Refused SongOpen) = λ rest. refl
what_counts (Refused NoSongOpen) = λ rest. refl
what_counts (Refused NoMemory) = λ rest. refl

reply_counts : (n : ℕ) (what : What) → Counts (reply_line n what) (with_reply what)
unfolding reply_line tally_of
reply_counts n what =
    let front : List ℕ = numbered (codes "O") n in
    then_unmarked (front ++ codes " " ++ what_text what) NEWLINE (with_reply what)
    (unmarked_then (front ++ codes " ") (what_text what) (with_reply what)
    (both_unmarked front (codes " ") (numbered_counts (codes "O") n (λ t. t) (λ rest. refl)) (λ rest. refl)) (what_counts what)) (λ rest. refl)

-- each line before the summary counts what it tells
pub printed_counts : (p : Printed) → Counts (printed_text p) (with_printed p)
printed_counts (Report head list) = line_counts head list
printed_counts (Replied n what) = reply_counts n what
