-- An operator's text with one more byte: the command that the byte belongs to, and the one that it ends.
use Rattle.std.proofs.Common.{◌≡◌, ℕ, ◌+◌, ◌≤◌, List, [], ◌∷◌, ◌++◌, length, drop, refl, sym, ◌∙◌, ap, arith, length-append, append-nil, false, inl, inr, Option, None, cond, filter_map}
use Rattle.std.specs.Prelude.{◌==◌, ◌&&◌, nat_le, if◌then◌else◌, slice_index}
use Rattle.std.specs.Int.{w32}
use Rattle.std.specs.List.{cons_option}
use Rattle.std.proofs.lemmas.List.{drop_all}
use Rattle.std.proofs.lemmas.List.Elements.{filter_map-append}
use Rattle.std.proofs.lemmas.Bool.{or_parts, cases_lt}
use Rattle.hk_spec_streams.specs.Pieces.{Piece, pieces, is_whole, last_bytes}
use Rattle.hk_spec_streams.specs.Grammar.{packets, packet_size, ends_at_start, kind_of, payload_of}
use Rattle.hk_spec_streams.specs.Operator.{Command, operator_grammar, commands, command_for}
use Rattle.hk_spec_streams.proofs.GrowingPieces.{no_pieces, last_bytes-append}
use Rattle.hk_spec_streams.proofs.GrowingPackets.{Next, Begins, Goes, next_behind, over, all_whole, last_bytes-next}
use Rattle.hk_spec_streams.proofs.PacketSize.{packet_size_32}

-- how long a command is, by its first five bytes
abbrev pub command_size : List ℕ → ℕ
command_size bytes = packet_size w32 bytes

-- the command that these bytes are, where they are a whole one
abbrev pub whole_command : List ℕ → Option Command
whole_command bytes = if command_size bytes == length bytes then command_for (slice_index bytes 0) (drop 5 bytes) else None

-- no command has begun in the hello
pub no_packets : (text : List ℕ) → length text ≤ 4 → packets operator_grammar text ≡ []
unfolding packets
no_packets text short = ap (pieces command_size 4) (drop_all 4 text short) ∙ no_pieces command_size 0 4

pub next_packet : (text : List ℕ) (b : ℕ) → 4 ≤ length text → Next command_size (length text) b (packets operator_grammar text) (packets operator_grammar (text ++ b ∷ []))
unfolding packets
next_packet text b long = next_behind command_size packet_size_32 4 b text long

-- the last command's bytes
pub last_command-append : (text : List ℕ) (b : ℕ) → 4 ≤ length text
    → last_bytes (packets operator_grammar (text ++ b ∷ []))
    ≡ (if over command_size (last_bytes (packets operator_grammar text)) then b ∷ [] else last_bytes (packets operator_grammar text) ++ b ∷ [])
last_command-append text b long = last_bytes-next command_size (length text) b (packets operator_grammar text) (packets operator_grammar (text ++ b ∷ [])) (next_packet text b long)

-- a command may begin where none has, and where the last one is whole
pub ends_at_start-is : (text : List ℕ) → ends_at_start operator_grammar text ≡ (nat_le 4 (length text) && over command_size (last_bytes (packets operator_grammar text)))
unfolding packets
ends_at_start-is text = ap (λ b. nat_le 4 (length text) && b) (all_whole command_size packet_size_32 (length (drop 4 text)) 4 (drop 4 text) (omega arith))

made : Piece → Option Command
made packet = if is_whole command_size packet then command_for (kind_of packet) (payload_of w32 packet) else None

made_of : (place : ℕ) (bytes : List ℕ) → made (record { place = place; bytes = bytes }) ≡ whole_command bytes
unfolding made
made_of place bytes = refl

commands_of : (text : List ℕ) → commands text ≡ filter_map made (packets operator_grammar text)
unfolding commands made
commands_of text = refl

one_more : (ps : List Piece) (p : Piece) → filter_map made (ps ++ p ∷ []) ≡ filter_map made ps ++ cons_option (made p) []
one_more ps p = filter_map-append made ps (p ∷ [])

not_made : (p : Piece) → over command_size p.bytes ≡ false → made p ≡ None
unfolding made
not_made p part = ap (λ t. cond t (command_for (kind_of p) (payload_of w32 p)) None) (or_parts (length p.bytes == 0) (command_size p.bytes == length p.bytes) part).1

added : (end b : ℕ) (before after : List Piece) → Next command_size end b before after
    → filter_map made after ≡ filter_map made before ++ cons_option (whole_command (last_bytes after)) []
added end b before after (Begins begins grown) =
    let p : Piece = record { place = end; bytes = b ∷ [] } in
    ap (filter_map made) grown ∙ one_more before p
    ∙ ap (λ o. filter_map made before ++ cons_option o []) (made_of end (b ∷ []))
    ∙ sym (ap (λ bytes. filter_map made before ++ cons_option (whole_command bytes) []) (ap last_bytes grown ∙ last_bytes-append before p))
added end b before after (Goes front last goes old grown is) =
    let p : Piece = record { place = last.place; bytes = last.bytes ++ b ∷ [] } in
    let part : over command_size last.bytes ≡ false = sym (ap (over command_size) (ap last_bytes old ∙ last_bytes-append front last)) ∙ goes in
    let same : filter_map made before ≡ filter_map made front =
    ap (filter_map made) old ∙ one_more front last ∙ ap (λ o. filter_map made front ++ cons_option o []) (not_made last part) ∙ append-nil (filter_map made front) in
    ap (filter_map made) grown ∙ one_more front p
    ∙ ap (λ o. filter_map made front ++ cons_option o []) (made_of last.place (last.bytes ++ b ∷ []))
    ∙ ap (λ cs. cs ++ cons_option (whole_command (last.bytes ++ b ∷ [])) []) (sym same)
    ∙ sym (ap (λ bytes. filter_map made before ++ cons_option (whole_command bytes) []) (ap last_bytes grown ∙ last_bytes-append front p))

-- the commands of the longer text are those of the text, and the one that the byte ends
pub commands-append : (text : List ℕ) (b : ℕ)
    → commands (text ++ b ∷ []) ≡ commands text ++ cons_option (whole_command (last_bytes (packets operator_grammar (text ++ b ∷ [])))) []
commands-append text b =
    let long : length (text ++ b ∷ []) ≡ length text + 1 = length-append text (b ∷ []) in
    elim (cases_lt (length text) 4) [
      | inl short ↦
          let before : packets operator_grammar text ≡ [] = no_packets text (omega arith) in
          let after : packets operator_grammar (text ++ b ∷ []) ≡ [] = no_packets (text ++ b ∷ []) (omega (arith, long)) in
          commands_of (text ++ b ∷ []) ∙ ap (filter_map made) after
          ∙ sym (ap (λ ps. commands text ++ cons_option (whole_command (last_bytes ps)) []) after ∙ append-nil (commands text) ∙ commands_of text ∙ ap (filter_map made) before)
      | inr more ↦
          commands_of (text ++ b ∷ [])
          ∙ added (length text) b (packets operator_grammar text) (packets operator_grammar (text ++ b ∷ [])) (next_packet text b more)
          ∙ ap (λ cs. cs ++ cons_option (whole_command (last_bytes (packets operator_grammar (text ++ b ∷ [])))) []) (sym (commands_of text))
    ]
