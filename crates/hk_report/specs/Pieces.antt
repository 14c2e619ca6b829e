-- The pieces that lines are written in.
use Rattle.std.specs.Prelude.{ℕ, List, ◌++◌, decimal, codes}
use Rattle.std.specs.Borrow.{Bor}
use Rattle.std.specs.List.{flat_map}
use Rattle.hk_base.specs.declared.plain.Match.{Match}
use Rattle.hk_spec_lines.specs.Lines.{numbered, match_text}
use Rattle.hk_report.specs.declared.pieces.Piece.{Piece}
use Rattle.hk_report.specs.declared.pieces.Piece.TheVariants.{Text, Number, Numbered, NumberedTwice}

-- texts one after another
abbrev pub texts : List (Bor (List ℕ)) → List ℕ
texts parts = flat_map (λ part. part.now) parts

abbrev pub piece_text : Piece → List ℕ
piece_text (Text text) = text.now
piece_text (Number n) = decimal n
piece_text (Numbered word n) = numbered word.now n
piece_text (NumberedTwice word m n) = numbered (numbered word.now m) n

-- the pieces one after another
abbrev pub pieces_text : List Piece → List ℕ
pieces_text pieces = flat_map piece_text pieces

-- items, each behind a space
abbrev pub further_items : List Match → List ℕ
further_items ms = flat_map (λ m. codes " " ++ match_text m) ms
