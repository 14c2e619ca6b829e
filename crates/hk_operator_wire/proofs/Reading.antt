-- What the whole text says of its last byte, by the last command alone.
use Rattle.std.proofs.Common.{◌≡◌, ℕ, ◌+◌, ◌-◌, ◌<◌, ◌≤◌, List, [], ◌∷◌, ◌++◌, length, take, drop, refl, sym, ◌∙◌, ap, subst, arith, length-append, Bool, true, false, Option, Some, cond, Ok, Err}
use Rattle.std.specs.Prelude.{◌==◌, ◌||◌, ◌&&◌, not, nat_lt, slice_index, if◌then◌else◌}
use Rattle.std.specs.Int.{w32, from_be_bytes}
use Rattle.std.specs.Result.{result_err, IfOk}
use Rattle.std.proofs.lemmas.List.{take-append-le, take_all, get_or_at}
use Rattle.std.proofs.lemmas.Bool.{lt-ltb, le-ltb, le-leb, ne_eqb}
use Rattle.hk_base.specs.declared.plain.WireFault.{WireFault}
use Rattle.hk_base.specs.declared.plain.WireFault.TheVariants.{BadHello, BadKind, BadLength, BadFormat, TooLong}
use Rattle.hk_spec_streams.specs.Pieces.{first_that_holds, last_bytes, is_one_of}
use Rattle.hk_spec_streams.specs.Grammar.{packet_size, ends_at_start}
use Rattle.hk_spec_streams.specs.Operator.{operator_grammar, operator_met, has_bad_format}
use Rattle.hk_spec_streams.specs.Commands.{numbers, command_length_fits}
use Rattle.hk_spec_streams.proofs.CommandRows.{is_kind}
use Rattle.hk_spec_streams.proofs.GrowingPackets.{over}
use Rattle.hk_spec_streams.proofs.GrowingCommands.{no_packets, last_command-append, ends_at_start-is}
use Rattle.hk_wire.specs.Held.{IsLast, is_over}
use Rattle.hk_wire.specs.declared.packet.LastPacket.{LastPacket}
use Rattle.hk_wire.specs.declared.packet.LengthSize.{LengthSize}
use Rattle.hk_wire.specs.declared.packet.LengthSize.TheVariants.{Four}
use Rattle.hk_operator_wire.specs.declared.item.OpItem.TheVariants as items
use Rattle.hk_operator_wire.specs.Items.{last_command, head_of, item_of}
use Rattle.hk_operator_wire.specs.Heads.{head_fault, hello_allows, hello_outcome}

-- the next byte of a command's bytes
abbrev pub next_bytes : List ℕ → ℕ → List ℕ
next_bytes bytes b = if over (packet_size w32) bytes then b ∷ [] else bytes ++ b ∷ []

pub last_command-next : (text : List ℕ) (b : ℕ) → 4 ≤ length text → last_command (text ++ b ∷ []) ≡ next_bytes (last_command text) b
last_command-next text b long = last_command-append text b long

pub in_hello : (text : List ℕ) → length text ≤ 4 → last_command text ≡ []
in_hello text short = ap last_bytes (no_packets text short)

-- the faults of a text's last byte, by how long the text is, whether its hello is wrong there, and the last command
met_by : ℕ → ℕ → Bool → List ℕ → Option WireFault
met_by limit n wrong bytes =
    first_that_holds (
    (nat_lt limit n, TooLong limit)
    ∷ (nat_lt (n - 1) 4 && wrong, BadHello (n - 1))
    ∷ ((length bytes == 1) && not (is_one_of numbers (slice_index bytes 0)), BadKind (n - 1))
    ∷ ((length bytes == 5) && not (command_length_fits (slice_index bytes 0) (from_be_bytes w32 (drop 1 bytes))), BadLength (n - 1 + 1 - 4))
    ∷ (has_bad_format bytes, BadFormat (n - 1)) ∷ [])

-- the last byte isn't the hello's
abbrev pub wrong_at : List ℕ → Bool
wrong_at text = not (hello_allows (length (take (length text - 1) text)) (slice_index text (length text - 1)))

met_is : (limit : ℕ) (text : List ℕ) → operator_met limit text ≡ met_by limit (length text) (wrong_at text) (last_command text)
unfolding operator_met met_by
met_is limit text = refl

last_at : (text : List ℕ) (b : ℕ) → slice_index (text ++ b ∷ []) (length text) ≡ b
last_at text b = get_or_at text b [] 0 (length text) refl

pub wrong-next : (text : List ℕ) (b : ℕ) → wrong_at (text ++ b ∷ []) ≡ not (hello_allows (length text) b)
wrong-next text b =
    let long : length (text ++ b ∷ []) ≡ length text + 1 = length-append text (b ∷ []) in
    let place : length (text ++ b ∷ []) - 1 ≡ length text = omega (arith, long) in
    ap (λ n. not (hello_allows (length (take n (text ++ b ∷ []))) (slice_index (text ++ b ∷ []) n))) place
    ∙ ap (λ t. not (hello_allows (length t) (slice_index (text ++ b ∷ []) (length text)))) (take-append-le (length text) text (b ∷ []) (omega arith) ∙ take_all (length text) text (omega arith))
    ∙ ap (λ x. not (hello_allows (length text) x)) (last_at text b)

met-next : (limit : ℕ) (text : List ℕ) (b : ℕ)
    → operator_met limit (text ++ b ∷ []) ≡ met_by limit (length text + 1) (not (hello_allows (length text) b)) (last_command (text ++ b ∷ []))
met-next limit text b =
    met_is limit (text ++ b ∷ [])
    ∙ ap (λ n. met_by limit n (wrong_at (text ++ b ∷ [])) (last_command (text ++ b ∷ []))) (length-append text (b ∷ []))
    ∙ ap (λ w. met_by limit (length text + 1) w (last_command (text ++ b ∷ []))) (wrong-next text b)

-- the rows of a text within the limit, one after another
rows : (t h w : Bool) (limit p q n : ℕ) (bytes : List ℕ) → Option WireFault
rows t h w limit p q n bytes =
    first_that_holds (
    (t, TooLong limit)
    ∷ (h && w, BadHello p)
    ∷ ((length bytes == 1) && not (is_one_of numbers (slice_index bytes 0)), BadKind p)
    ∷ ((length bytes == 5) && not (command_length_fits (slice_index bytes 0) n), BadLength q)
    ∷ (has_bad_format bytes, BadFormat p) ∷ [])

pub first_four : (xs : List ℕ) → from_be_bytes w32 xs ≡ from_be_bytes w32 (take 4 xs)
first_four [] = refl
first_four (a ∷ []) = refl
first_four (a ∷ b ∷ []) = refl
first_four (a ∷ b ∷ c ∷ []) = refl
first_four (a ∷ b ∷ c ∷ d ∷ xs) = refl

met_rows : (limit : ℕ) (text : List ℕ) (b : ℕ) (t h : Bool) (bytes : List ℕ) → nat_lt limit (length text + 1) ≡ t → nat_lt (length text) 4 ≡ h → last_command (text ++ b ∷ []) ≡ bytes
    → operator_met limit (text ++ b ∷ [])
    ≡ rows t h (not (hello_allows (length text) b)) limit (length text) (length text - 3) (from_be_bytes w32 (take 4 (drop 1 bytes))) bytes
unfolding met_by rows
met_rows limit text b t h bytes ts hs bs =
    let w : Bool = not (hello_allows (length text) b) in
    let n : ℕ = length text + 1 in
    let place : length text + 1 - 1 ≡ length text = omega arith in
    let begin : length text + 1 - 1 + 1 - 4 ≡ length text - 3 = omega arith in
    met-next limit text b
    ∙ ap (λ (ys : List ℕ). met_by limit n w ys) bs
    ∙ ap (λ (x : Bool). rows x (nat_lt (n - 1) 4) w limit (n - 1) (n - 1 + 1 - 4) (from_be_bytes w32 (drop 1 bytes)) bytes) ts
    ∙ ap (λ (p : ℕ). rows t (nat_lt p 4) w limit p (n - 1 + 1 - 4) (from_be_bytes w32 (drop 1 bytes)) bytes) place
    ∙ ap (λ (x : Bool). rows t x w limit (length text) (n - 1 + 1 - 4) (from_be_bytes w32 (drop 1 bytes)) bytes) hs
    ∙ ap (λ (q : ℕ). rows t h w limit (length text) q (from_be_bytes w32 (drop 1 bytes)) bytes) begin
    ∙ ap (λ (k : ℕ). rows t h w limit (length text) (length text - 3) k bytes) (first_four (drop 1 bytes))

too_long_rows : (h w : Bool) (limit p q n : ℕ) (bytes : List ℕ) → rows true h w limit p q n bytes ≡ Some (TooLong limit)
unfolding rows
too_long_rows h w limit p q n bytes = refl

hello_rows : (place b limit q n : ℕ) (allowed : Bool)
    → rows false true (not allowed) limit place q n [] ≡ result_err (cond allowed (Ok items.Nothing) (Err (BadHello place)))
unfolding rows
hello_rows place b limit q n true = refl
hello_rows place b limit q n false = refl

packet_rows : (w : Bool) (limit p : ℕ) (bytes : List ℕ)
    → rows false false w limit p (p - 3) (from_be_bytes w32 (take 4 (drop 1 bytes))) bytes ≡ head_fault p (head_of bytes)
unfolding rows
packet_rows w limit p bytes = ap (λ known. first_that_holds (
    ((length bytes == 1) && not known, BadKind p)
    ∷ ((length bytes == 5) && not (command_length_fits (slice_index bytes 0) (from_be_bytes w32 (take 4 (drop 1 bytes)))), BadLength (p - 3))
    ∷ (has_bad_format bytes, BadFormat p) ∷ [])) (is_kind (slice_index bytes 0))

pub too_long : (limit : ℕ) (text : List ℕ) (b : ℕ) → limit ≤ length text → operator_met limit (text ++ b ∷ []) ≡ Some (TooLong limit)
too_long limit text b past =
    met_rows limit text b true (nat_lt (length text) 4) (last_command (text ++ b ∷ [])) (lt-ltb limit (length text + 1) (omega arith)) refl refl
    ∙ too_long_rows (nat_lt (length text) 4) (not (hello_allows (length text) b)) limit (length text) (length text - 3)
    (from_be_bytes w32 (take 4 (drop 1 (last_command (text ++ b ∷ []))))) (last_command (text ++ b ∷ []))

pub hello_stays : (text : List ℕ) (b : ℕ) → length text < 4 → last_command (text ++ b ∷ []) ≡ []
hello_stays text b short = in_hello (text ++ b ∷ []) (let long : length (text ++ b ∷ []) ≡ length text + 1 = length-append text (b ∷ []) in omega (arith, long))

pub hello_met : (limit : ℕ) (text : List ℕ) (b : ℕ) → length text < 4 → length text < limit
    → operator_met limit (text ++ b ∷ []) ≡ result_err (hello_outcome (length text) b)
hello_met limit text b short below =
    met_rows limit text b false true [] (le-ltb limit (length text + 1) (omega arith)) (lt-ltb (length text) 4 short) (hello_stays text b short)
    ∙ hello_rows (length text) b limit (length text - 3) (from_be_bytes w32 []) (hello_allows (length text) b)

nothing_brought : (allowed : Bool) (place : ℕ) → IfOk (cond allowed (Ok items.Nothing) (Err (BadHello place))) (λ item. item ≡ item_of [])
nothing_brought true place = refl
nothing_brought false place = tt

-- a byte of the hello brings nothing
pub hello_item : (place b : ℕ) (bytes : List ℕ) → bytes ≡ [] → IfOk (hello_outcome place b) (λ item. item ≡ item_of bytes)
hello_item place b bytes none =
    let P : List ℕ → Type 0 = λ ys. IfOk (hello_outcome place b) (λ item. item ≡ item_of ys) in
    subst P (sym none) (nothing_brought (hello_allows place b) place)

pub packet_met : (limit : ℕ) (text : List ℕ) (b : ℕ) (bytes : List ℕ) → 4 ≤ length text → length text < limit → last_command (text ++ b ∷ []) ≡ bytes
    → operator_met limit (text ++ b ∷ []) ≡ head_fault (length text) (head_of bytes)
packet_met limit text b bytes long below is =
    met_rows limit text b false false bytes (le-ltb limit (length text + 1) (omega arith)) (le-ltb (length text) 4 long) is
    ∙ packet_rows (not (hello_allows (length text) b)) limit (length text) bytes

-- what holds of a command's first byte, and of its next, holds of the bytes that the next byte makes
pub either : (P : List ℕ → Type 0) (bytes : List ℕ) (b : ℕ) → P (b ∷ []) → P (bytes ++ b ∷ []) → P (next_bytes bytes b)
either P bytes b begins goes_on = by (over (packet_size w32) bytes) (b ∷ []) (bytes ++ b ∷ []) begins goes_on
  where
    by : (t : Bool) (xs ys : List ℕ) → P xs → P ys → P (cond t xs ys)
    by true xs ys px py = px
    by false xs ys px py = py

-- the next byte is the last of the bytes that it makes
pub last_is : (bytes : List ℕ) (b : ℕ) → b ≡ slice_index (next_bytes bytes b) (length (next_bytes bytes b) - 1)
last_is bytes b = either (λ ys. b ≡ slice_index ys (length ys - 1)) bytes b refl
    (let long : length (bytes ++ b ∷ []) - 1 ≡ length bytes = omega (arith, length-append bytes (b ∷ [])) in
    sym (ap (λ n. slice_index (bytes ++ b ∷ []) n) long ∙ last_at bytes b))

pub some_next : (bytes : List ℕ) (b : ℕ) → 0 < length (next_bytes bytes b)
some_next bytes b = either (λ ys. 0 < length ys) bytes b (omega arith) (omega (arith, length-append bytes (b ∷ [])))

-- where a stream may end, once its hello is there
pub at_border : (text : List ℕ) → 4 ≤ length text → ((length text == 0) || ends_at_start operator_grammar text) ≡ over (packet_size w32) (last_command text)
at_border text long =
    ap (λ t. t || ends_at_start operator_grammar text) (ne_eqb (length text) 0 (λ e. omega (arith, e, long)))
    ∙ ends_at_start-is text ∙ ap (λ t. t && over (packet_size w32) (last_command text)) (le-leb 4 (length text) long)

-- the last packet with the next byte, for lengths of four bytes
pub next_last : (size : LengthSize) (new : LastPacket) (bytes : List ℕ) (b : ℕ) → size ≡ Four
    → IsLast new (if is_over size bytes then b ∷ [] else bytes ++ b ∷ []) → IsLast new (next_bytes bytes b)
next_last size new bytes b four last = subst (λ s. IsLast new (if is_over s bytes then b ∷ [] else bytes ++ b ∷ [])) four last
