-- The newlines of a text, and whether the byte before each is a d. Of the lines of a summary those that tell an end in order end with a d.
use Rattle.std.proofs.Common.{◌≡◌, ℕ, zero, suc, ◌+◌, ◌<◌, ◌/◌, ◌%◌, Bool, true, false, cond, List, [], ◌∷◌, ◌++◌, refl, sym, ap, ◌∙◌, subst, arith, codes, append_assoc, lt-ltb, ne_eqb}
use Rattle.std.specs.Prelude.{◌==◌}
use Rattle.std.specs.Fmt.{decimal, digits, digits_onto, digit_glyph}
use Rattle.hk_base.specs.declared.plain.WireFault.{WireFault}
use Rattle.hk_base.specs.declared.plain.WireFault.TheVariants.{BadHello, BadKind, BadLength, BadMask, BadFormat, Cut, TooLong}
use Rattle.hk_base.specs.declared.plain.End.{End}
use Rattle.hk_base.specs.declared.plain.End.TheVariants as ends
use Rattle.hk_base.specs.declared.plain.OpEnd.{OpEnd}
use Rattle.hk_base.specs.declared.plain.OpEnd.TheVariants as op_ends
use Rattle.hk_spec_lines.specs.Lines.{NEWLINE, numbered, fault_text, end_text, operator_end_text, station_line, operator_line}

-- of each newline of a text whether a d is before it, where the text stands behind a byte
unfoldable pub newlines : ℕ → List ℕ → List Bool
newlines before [] = []
newlines before (byte ∷ bytes) = cond (byte == 10) ((before == 100) ∷ newlines byte bytes) (newlines byte bytes)

-- a text has these newlines, whichever byte it stands behind
abbrev pub HasNewlines : List ℕ → List Bool → Type 0
HasNewlines text told = (before : ℕ) → newlines before text ≡ told

by_byte : (is : Bool) (d : Bool) (all front told : List Bool) → all ≡ front ++ told → cond is (d ∷ all) all ≡ cond is (d ∷ front) front ++ told
by_byte true d all front told e = ap (λ bs. d ∷ bs) e
by_byte false d all front told e = e

-- the newlines of a text and of what comes behind it
pub newlines_behind : (front text : List ℕ) (told : List Bool) (before : ℕ) → HasNewlines text told → newlines before (front ++ text) ≡ newlines before front ++ told
unfolding newlines
newlines_behind [] text told before has = has before
newlines_behind (byte ∷ front) text told before has =
    by_byte (byte == 10) (before == 100) (newlines byte (front ++ text)) (newlines byte front) told (newlines_behind front text told byte has)

-- one text behind another
pub HasNewlines-append : (front text : List ℕ) (told more : List Bool) → HasNewlines front told → HasNewlines text more → HasNewlines (front ++ text) (told ++ more)
HasNewlines-append front text told more first second before = newlines_behind front text more before second ∙ ap (λ bs. bs ++ more) (first before)

glyph_is : (d : ℕ) → d < 10 → digit_glyph false d ≡ 48 + d
glyph_is d small = ap (λ (b : Bool). cond b (48 + d) (87 + d)) (lt-ltb d 10 small)

no_newline : (d : ℕ) (text : List ℕ) (told : List Bool) → newlines (48 + d) text ≡ told → HasNewlines ((48 + d) ∷ text) told
unfolding newlines
no_newline d text told e before =
    ap (λ (b : Bool). cond b ((before == 100) ∷ newlines (48 + d) text) (newlines (48 + d) text)) (ne_eqb (48 + d) 10 (λ same. omega arith)) ∙ e

one_glyph : (d : ℕ) (text : List ℕ) (told : List Bool) → ((c : ℕ) → c < 10 → newlines (48 + c) text ≡ told) → d < 10 → HasNewlines (digit_glyph false d ∷ text) told
one_glyph d text told behind small = subst (λ glyph. HasNewlines (glyph ∷ text) told) (sym (glyph_is d small)) (no_newline d text told (behind d small))

either : (told : List Bool) (b : Bool) (xs ys : List ℕ) → HasNewlines xs told → HasNewlines ys told → HasNewlines (cond b xs ys) told
either told true xs ys p q = p
either told false xs ys p q = q

-- digits have no newline, and end with a digit
digits_have : (k n : ℕ) (text : List ℕ) (told : List Bool) → ((d : ℕ) → d < 10 → newlines (48 + d) text ≡ told) → HasNewlines (digits_onto (suc k) 10 false n text) told
digits_have zero n text told behind =
    let one : HasNewlines (digit_glyph false (n % 10) ∷ text) told = one_glyph (n % 10) text told behind (omega arith) in
    either told (n / 10 == 0) (digit_glyph false (n % 10) ∷ text) (digit_glyph false (n % 10) ∷ text) one one
digits_have (suc k) n text told behind =
    let one : HasNewlines (digit_glyph false (n % 10) ∷ text) told = one_glyph (n % 10) text told behind (omega arith) in
    either told (n / 10 == 0) (digit_glyph false (n % 10) ∷ text) (digits_onto (suc k) 10 false (n / 10) (digit_glyph false (n % 10) ∷ text)) one
    (digits_have k (n / 10) (digit_glyph false (n % 10) ∷ text) told (λ d small. one (48 + d)))

digits_then : (k n : ℕ) (digits more : List ℕ) → digits_onto k 10 false n digits ++ more ≡ digits_onto k 10 false n (digits ++ more)
digits_then zero n digits more = refl
digits_then (suc k) n digits more = or_both (n / 10 == 0) _ _ _ _ refl (digits_then k (n / 10) (digit_glyph false (n % 10) ∷ digits) more)
  where
    or_both : (b : Bool) (xs ys us vs : List ℕ) → xs ++ more ≡ us → ys ++ more ≡ vs → cond b xs ys ++ more ≡ cond b us vs
    or_both true xs ys us vs p q = p
    or_both false xs ys us vs p q = q

nothing_behind : (d : ℕ) → d < 10 → newlines (48 + d) [] ≡ []
unfolding newlines
nothing_behind d small = refl

newline_behind : (d : ℕ) → d < 10 → newlines (48 + d) NEWLINE ≡ false ∷ []
unfolding newlines
newline_behind d small = ap (λ b. b ∷ []) (ne_eqb (48 + d) 100 (λ same. omega arith))

decimal_has : (n : ℕ) → HasNewlines (decimal n) []
unfolding digits
decimal_has n = digits_have 63 n [] [] nothing_behind

decimal_line_has : (n : ℕ) → HasNewlines (decimal n ++ NEWLINE) (false ∷ [])
unfolding digits
decimal_line_has n before = ap (newlines before) (digits_then 64 n [] NEWLINE) ∙ digits_have 63 n NEWLINE (false ∷ []) newline_behind before

spaced : (head : List ℕ) → HasNewlines head [] → HasNewlines (head ++ codes " ") []
unfolding newlines
spaced head has = HasNewlines-append head (codes " ") [] [] has (λ before. refl)

-- a word and a number
numbered_has : (word : List ℕ) (n : ℕ) → HasNewlines word [] → HasNewlines (numbered word n) []
numbered_has word n has = HasNewlines-append (word ++ codes " ") (decimal n) [] [] (spaced word has) (decimal_has n)

-- a line by its last word
by_last_word : (head word : List ℕ) (told : List Bool) → HasNewlines head [] → HasNewlines (word ++ NEWLINE) told → HasNewlines (head ++ codes " " ++ word ++ NEWLINE) told
by_last_word head word told has last before =
    ap (newlines before) (append_assoc (head ++ codes " ") word NEWLINE) ∙ HasNewlines-append (head ++ codes " ") (word ++ NEWLINE) [] told (spaced head has) last before

numbered_line_has : (word : List ℕ) (n : ℕ) → HasNewlines word [] → HasNewlines (numbered word n ++ NEWLINE) (false ∷ [])
numbered_line_has word n has = by_last_word word (decimal n) (false ∷ []) has (decimal_line_has n)

fault_line_has : (fault : WireFault) → HasNewlines (fault_text fault ++ NEWLINE) (false ∷ [])
unfolding newlines
fault_line_has (BadHello p) = numbered_line_has (codes "bad-hello") p (λ before. refl)
fault_line_has (BadKind p) = numbered_line_has (codes "bad-kind") p (λ before. refl)
fault_line_has (BadLength p) = numbered_line_has (codes "bad-length") p (λ before. refl)
fault_line_has (BadMask p) = numbered_line_has (codes "bad-mask") p (λ before. refl)
fault_line_has (BadFormat p) = numbered_line_has (codes "bad-format") p (λ before. refl)
fault_line_has (Cut p) = numbered_line_has (codes "cut") p (λ before. refl)
fault_line_has (TooLong limit) = numbered_line_has (codes "too-long") limit (λ before. refl)

other_end_has : (end : End) → (end ≡ ends.Ended → ⊥) → HasNewlines (end_text end ++ NEWLINE) (false ∷ [])
unfolding newlines
other_end_has ends.Ended other = absurd (other refl)
other_end_has (ends.Wire fault) other = fault_line_has fault
other_end_has (ends.FenceAhead asked found) other = numbered_line_has (numbered (codes "fence-ahead") asked) found (numbered_has (codes "fence-ahead") asked (λ before. refl))
other_end_has ends.ReadFault other = λ before. refl
other_end_has ends.SinkFault other = λ before. refl
other_end_has ends.GateFault other = λ before. refl

other_operator_end_has : (end : OpEnd) → (end ≡ op_ends.Ended → ⊥) → HasNewlines (operator_end_text end ++ NEWLINE) (false ∷ [])
unfolding newlines
other_operator_end_has op_ends.Ended other = absurd (other refl)
other_operator_end_has (op_ends.Wire fault) other = fault_line_has fault
other_operator_end_has op_ends.ReadFault other = λ before. refl
other_operator_end_has op_ends.SinkFault other = λ before. refl

ended_has : HasNewlines (codes "ended" ++ NEWLINE) (true ∷ [])
unfolding newlines
ended_has before = refl

station_head_has : (station blocks version : ℕ) → HasNewlines (numbered (numbered (numbered (codes "T S") station) blocks) version) []
unfolding newlines
station_head_has station blocks version =
    numbered_has (numbered (numbered (codes "T S") station) blocks) version (numbered_has (numbered (codes "T S") station) blocks (numbered_has (codes "T S") station (λ before. refl)))

operator_head_has : (commands version : ℕ) → HasNewlines (numbered (numbered (codes "T O") commands) version) []
unfolding newlines
operator_head_has commands version = numbered_has (numbered (codes "T O") commands) version (numbered_has (codes "T O") commands (λ before. refl))

-- the line of a station that ended in order has one newline, behind a d
pub ended_station_line : (station blocks version : ℕ) → HasNewlines (station_line station blocks version ends.Ended) (true ∷ [])
unfolding station_line
ended_station_line station blocks version =
    by_last_word (numbered (numbered (numbered (codes "T S") station) blocks) version) (codes "ended") (true ∷ []) (station_head_has station blocks version) ended_has

-- the line of a station with another end has one newline, and no d before it
pub other_station_line : (station blocks version : ℕ) (end : End) → (end ≡ ends.Ended → ⊥) → HasNewlines (station_line station blocks version end) (false ∷ [])
unfolding station_line
other_station_line station blocks version end other =
    by_last_word (numbered (numbered (numbered (codes "T S") station) blocks) version) (end_text end) (false ∷ []) (station_head_has station blocks version) (other_end_has end other)

-- the line of an operator that ended in order has one newline, behind a d
pub ended_operator_line : (commands version : ℕ) → HasNewlines (operator_line commands version op_ends.Ended) (true ∷ [])
unfolding operator_line
ended_operator_line commands version =
    by_last_word (numbered (numbered (codes "T O") commands) version) (codes "ended") (true ∷ []) (operator_head_has commands version) ended_has

-- the line of an operator with another end has one newline, and no d before it
pub other_operator_line : (commands version : ℕ) (end : OpEnd) → (end ≡ op_ends.Ended → ⊥) → HasNewlines (operator_line commands version end) (false ∷ [])
unfolding operator_line
other_operator_line commands version end other =
    by_last_word (numbered (numbered (codes "T O") commands) version) (operator_end_text end) (false ∷ []) (operator_head_has commands version) (other_operator_end_has end other)
