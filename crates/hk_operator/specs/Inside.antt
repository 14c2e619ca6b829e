-- What is kept of words, and what is true of it.
use Rattle.std.specs.Prelude.{◌≡◌, ◌≤◌, min, length, vec_capacity}
use Rattle.hk_spec_sound.specs.Limits.{IsInRange, POSITIONS}
use Rattle.hk_operator.specs.WordBuffer.{Buffered}
use Rattle.hk_operator.specs.declared.word_buffer.WordBuffer.TheInside.{Inside}

abbrev pub as_words : Inside → Buffered
as_words k = record { words = k.words.items; count = k.count; room = k.room }

-- All words are kept, or as many as there is room for; the memory for them is there.
pub record IsBuffer (k : Inside) : Type 0 where
  pub all : length k.words.items ≡ min k.count k.room
  pub space : k.room ≤ vec_capacity k.words
  pub range : IsInRange POSITIONS k.room
