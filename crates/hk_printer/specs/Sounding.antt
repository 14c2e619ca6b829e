-- What is printed for sound.
use Rattle.std.specs.Prelude.{ℕ, List, flat_map}
use Rattle.std.specs.List.{enumerate_from}
use Rattle.hk_spec_sound.specs.Prints.{full_analysis, prints_of_sound}
use Rattle.hk_spec_lines.specs.Lines.{print_line}
use Rattle.hk_spec_runs.specs.Options.{Printing}

-- the lines of the prints of these bytes as one segment
abbrev pub lines_of : Printing → List ℕ → List ℕ
lines_of p bytes = flat_map (λ n. print_line n.0 n.1) (enumerate_from 0 (prints_of_sound full_analysis p.flips p.channels p.factor bytes))
