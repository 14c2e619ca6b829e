-- More bytes of sound print more: what was printed stays in front.
use Rattle.std.proofs.Common.{◌≡◌, ℕ, suc, zero, ◌+◌, ◌-◌, ◌<◌, List, [], ◌++◌, length, refl, ◌∙◌, ap, arith}
use Rattle.std.proofs.lemmas.Grind.{flat_map-append}
use Rattle.std.specs.Prelude.{flat_map}
use Rattle.std.specs.List.{enumerate_from}
use Rattle.hk_base.specs.declared.plain.Print.{Print}
use Rattle.hk_spec_sound.specs.Prints.{full_analysis, prints_of_sound}
use Rattle.hk_spec_sound.proofs.Growing.{Grows}
use Rattle.hk_spec_streams.proofs.GrowingBlocks.{enumerate-append, no_prints}
use Rattle.hk_spec_streams.proofs.GrowingSound.{sound_prints}
use Rattle.hk_spec_lines.specs.Lines.{print_line}
use Rattle.hk_spec_runs.specs.Options.{Printing}
use Rattle.hk_printer.specs.Sounding.{lines_of}

abbrev line_of : ℕ × Print → List ℕ
line_of n = print_line n.0 n.1

none_added : (n : ℕ) → 0 + n ≡ n
none_added n = omega arith

-- the lines of more prints
pub lines-more : (p : Printing) (bytes longer : List ℕ) (more : List Print)
    → prints_of_sound full_analysis p.flips p.channels p.factor longer ≡ prints_of_sound full_analysis p.flips p.channels p.factor bytes ++ more
    → lines_of p longer ≡ lines_of p bytes ++ flat_map (λ n. print_line n.0 n.1) (enumerate_from (length (prints_of_sound full_analysis p.flips p.channels p.factor bytes)) more)
lines-more p bytes longer more is =
    let old : List Print = prints_of_sound full_analysis p.flips p.channels p.factor bytes in
    ap (λ ps. flat_map line_of (enumerate_from 0 ps)) is
    ∙ ap (flat_map line_of) (enumerate-append 0 old more)
    ∙ flat_map-append line_of (enumerate_from 0 old) (enumerate_from (0 + length old) more)
    ∙ ap (λ n. flat_map line_of (enumerate_from 0 old) ++ flat_map line_of (enumerate_from n more)) (none_added (length old))

pub lines_grow : (p : Printing) → 0 < p.channels → 0 < p.factor → (bytes more : List ℕ) → (rest : List ℕ) × (lines_of p (bytes ++ more) ≡ lines_of p bytes ++ rest)
unfolding Grows
lines_grow p some_channels some_factor bytes more =
    let grown = sound_prints full_analysis p.flips p.channels p.factor bytes more in
    (flat_map line_of (enumerate_from (length (prints_of_sound full_analysis p.flips p.channels p.factor bytes)) grown.0), lines-more p bytes (bytes ++ more) grown.0 grown.1)

-- no byte has no print
pub silent : (flips channels factor : ℕ) → 0 < channels → prints_of_sound full_analysis flips channels factor [] ≡ []
silent flips zero factor some = absurd (omega (arith, some))
silent flips (suc channels) factor some = no_prints full_analysis refl flips (suc channels) factor
