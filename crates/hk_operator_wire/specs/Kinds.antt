-- The kinds of command in the code, as the definitions have them.
use Rattle.hk_spec_streams.specs.Commands as kinds
use Rattle.hk_operator_wire.specs.declared.kind.Kind.{Kind}
use Rattle.hk_operator_wire.specs.declared.kind.Kind.TheVariants.{AddWords, OpenSong, Audio, Close, Withdraw, Publish}
use Rattle.hk_operator_wire.specs.declared.kind.Lengths.{Lengths}
use Rattle.hk_operator_wire.specs.declared.kind.Lengths.TheVariants.{Exactly, WordsFrom, Any}
use Rattle.hk_operator_wire.specs.declared.kind.Content.{Content}
use Rattle.hk_operator_wire.specs.declared.kind.Content.TheVariants.{Words, SoundForm, Sound, Nothing}
use Rattle.hk_operator_wire.specs.declared.kind.Row.{Row}

abbrev pub kind_meant : Kind → kinds.Kind
kind_meant AddWords = kinds.AddWords
kind_meant OpenSong = kinds.OpenSong
kind_meant Audio = kinds.Audio
kind_meant Close = kinds.Close
kind_meant Withdraw = kinds.Withdraw
kind_meant Publish = kinds.Publish

abbrev pub lengths_meant : Lengths → kinds.Lengths
lengths_meant (Exactly n) = kinds.Exactly n
lengths_meant (WordsFrom n) = kinds.WordsFrom n
lengths_meant Any = kinds.Any

abbrev pub content_meant : Content → kinds.Content
content_meant Words = kinds.Words
content_meant SoundForm = kinds.SoundForm
content_meant Sound = kinds.Sound
content_meant Nothing = kinds.Nothing

abbrev pub row_meant : Row → kinds.Row
row_meant row = record {
  kind = kind_meant row.kind;
  number = row.number;
  lengths = lengths_meant row.lengths;
  has_id = row.has_id;
  content = content_meant row.content;
}
