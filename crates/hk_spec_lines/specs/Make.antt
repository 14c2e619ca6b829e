-- The line of `make`, and the bytes by which its numbers are counted in the text of a replay.
use Rattle.std.specs.Prelude.{ℕ, ◌+◌, ◌==◌, Bool, if◌then◌else◌, List, [], ◌∷◌, ◌++◌, length, codes}
use Rattle.hk_base.specs.declared.plain.Reason.TheVariants.{NoMemory}
use Rattle.hk_base.specs.declared.plain.What.{What}
use Rattle.hk_base.specs.declared.plain.What.TheVariants.{Published, Refused}
use Rattle.hk_spec_lines.specs.Lines.{NEWLINE, numbered, Printed, Report, Replied}

-- M blocks <n> matches <m> versions <v>
unfoldable pub made_line : ℕ → ℕ → ℕ → List ℕ
made_line blocks matches versions = numbered (codes "M blocks") blocks ++ numbered (codes " matches") matches ++ numbered (codes " versions") versions ++ NEWLINE

-- how many blocks were reported and how many matches they list, how many versions were published, and how many commands were
-- refused for memory
pub record Tally : Type 0 where
  pub blocks : ℕ
  pub matches : ℕ
  pub versions : ℕ
  pub refusals : ℕ

abbrev pub nothing_counted : Tally
nothing_counted = record { blocks = 0; matches = 0; versions = 0; refusals = 0 }

abbrev pub one_if : Bool → ℕ → ℕ
one_if counts n = if counts then n + 1 else n

-- With one byte more. A report has one colon, and a tilde in each of its items; of the replies alone `published` has a b, and
-- `no-memory` a y.
abbrev pub counted : ℕ → Tally → Tally
counted byte t = record {
  blocks = one_if (byte == 58) t.blocks;
  matches = one_if (byte == 126) t.matches;
  versions = one_if (byte == 98) t.versions;
  refusals = one_if (byte == 121) t.refusals;
}

-- these bytes counted, up to the first T, with which the summary begins
unfoldable pub tally_of : List ℕ → Tally
tally_of [] = nothing_counted
tally_of (byte ∷ bytes) = if byte == 84 then nothing_counted else counted byte (tally_of bytes)

-- with what a line before the summary tells
abbrev pub with_reply : What → Tally → Tally
with_reply (Published v) t = record t { versions = t.versions + 1 }
with_reply (Refused NoMemory) t = record t { refusals = t.refusals + 1 }
with_reply what t = t

abbrev pub with_printed : Printed → Tally → Tally
with_printed (Report head list) t = record t { blocks = t.blocks + 1; matches = length list + t.matches }
with_printed (Replied n what) t = with_reply what t
