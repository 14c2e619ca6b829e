-- A byte more of the sound.
use Rattle.std.proofs.Common.{◌≡◌, ℕ, ◌+◌, ◌<◌, ◌≤◌, List, [], ◌∷◌, ◌++◌, length, sym, ◌∙◌, ap, arith, length-append, append-nil, append_assoc, refl, Bool, true, false, cond, Option, Some, None}
use Rattle.std.specs.Prelude.{option_to_list}
use Rattle.hk_base.specs.declared.plain.Print.{Print}
use Rattle.hk_spec_sound.specs.Prints.{full_analysis, prints_of_sound}
use Rattle.hk_base.specs.declared.plain.Trouble.{Trouble}
use Rattle.hk_base.specs.declared.plain.Trouble.TheVariants.{TooLong}
use Rattle.hk_spec_lines.specs.Lines.{print_line}
use Rattle.hk_spec_runs.specs.Options.{Printing}
use Rattle.hk_spec_runs.specs.Words.{Print as Prints}
use Rattle.hk_spec_runs.specs.Outcome.{task_of, print_text}
use Rattle.hk_front.specs.Hearing as fronts
use Rattle.hk_front.specs.Hearing.{Hearing, KeepsRules}
use Rattle.hk_player.specs.Playing.{StopsBehind}
use Rattle.hk_player.proofs.Steps.{regrouped}
use Rattle.hk_printer.specs.declared.printer.Printer.{Printer}
use Rattle.hk_printer.specs.Sounding.{lines_of}
use Rattle.hk_printer.specs.Printed.{HasPrinted, printing_of}
use Rattle.hk_printer.proofs.Growing.{lines-more}
use Rattle.hk_printer.proofs.Limits.{form_within, all_printed, prints_on, over_it, cut_off}

-- what a printer tells that has met a fault
pub fault_told : (over : Bool) (limit : ℕ) (t : Trouble) → cond over (Some (TooLong limit)) None ≡ Some t → (over ≡ true) × (TooLong limit ≡ t)
fault_told true limit t is = (refl, cc)
fault_told false limit t is = absurd (cc)

-- a front that keeps its rules finds the same prints
same_prints : (old new : Hearing) (bytes : List ℕ) → KeepsRules old new → fronts.prints_in new bytes ≡ fronts.prints_in old bytes
same_prints old new bytes keeps =
    ap (λ n. prints_of_sound full_analysis n (fronts.channels_of new) (fronts.factor_of new) bytes) keeps.0
    ∙ ap (λ n. prints_of_sound full_analysis old.flips n (fronts.factor_of new) bytes) keeps.1.0
    ∙ ap (λ n. prints_of_sound full_analysis old.flips (fronts.channels_of old) n bytes) keeps.1.1

module _ (old : Printer) (text : List ℕ) (b : ℕ) (h : HasPrinted old text) (room : length text < old.limit) (given : Option Print)
    (prints : fronts.prints_in old.front (text ++ b ∷ []) ≡ fronts.prints_in old.front text ++ option_to_list given) where
  long : length (text ++ b ∷ []) ≡ length text + 1
  long = length-append text (b ∷ [])

  pub within : length (text ++ b ∷ []) ≤ old.limit
  within = omega (arith, room, long)

  pub takes : (new : Printer) → KeepsRules old.front new.front → fronts.HasAnalysed new.front (text ++ b ∷ []) → new.limit ≡ old.limit → new.taken ≡ old.taken + 1
      → new.lines ≡ old.lines + length (option_to_list given) → new.is_over ≡ old.is_over → HasPrinted new (text ++ b ∷ [])
  takes new keeps heard limit taken lines over =
      let count : length (fronts.prints_in old.front (text ++ b ∷ [])) ≡ length (fronts.prints_in old.front text) + length (option_to_list given) =
      ap length prints ∙ length-append (fronts.prints_in old.front text) (option_to_list given) in
      let same : length (fronts.prints_in new.front (text ++ b ∷ [])) ≡ length (fronts.prints_in old.front (text ++ b ∷ [])) = ap length (same_prints old.front new.front (text ++ b ∷ []) keeps) in
      record {
        some_channels = omega (arith, h.some_channels, keeps.1.0);
        some_factor = omega (arith, h.some_factor, keeps.1.1);
        heard = heard;
        taken = omega (arith, taken, h.taken, long);
        in_form = form_within (printing_of new) (text ++ b ∷ []) (omega (arith, within, limit)) (omega (arith, h.most, limit));
        within = omega (arith, within, limit);
        most = omega (arith, h.most, limit);
        lines = omega (arith, lines, h.lines, count, same);
        none_met = ap (λ o. cond o (Some (TooLong new.limit)) None) over ∙ ap (λ n. cond old.is_over (Some (TooLong n)) None) limit ∙ h.none_met;
      }

-- the line of one print
pub one_line : (old : Printer) (text : List ℕ) (b : ℕ) (p : Print) → HasPrinted old text
    → fronts.prints_in old.front (text ++ b ∷ []) ≡ fronts.prints_in old.front text ++ p ∷ []
    → lines_of (printing_of old) (text ++ b ∷ []) ≡ lines_of (printing_of old) text ++ print_line old.lines p
one_line old text b p h prints =
    let count : length (fronts.prints_in old.front text) ≡ old.lines = sym h.lines in
    lines-more (printing_of old) text (text ++ b ∷ []) (p ∷ []) prints
    ∙ ap (λ line. lines_of (printing_of old) text ++ line) (append-nil (print_line (length (fronts.prints_in old.front text)) p) ∙ ap (λ n. print_line n p) count)

-- no print, no line
pub no_line : (old : Printer) (text : List ℕ) (b : ℕ) → fronts.prints_in old.front (text ++ b ∷ []) ≡ fronts.prints_in old.front text ++ []
    → lines_of (printing_of old) (text ++ b ∷ []) ≡ lines_of (printing_of old) text ++ []
no_line old text b prints = lines-more (printing_of old) text (text ++ b ∷ []) [] prints

-- What a byte more prints, by its lines.
module _ (old : Printer) (text : List ℕ) (b : ℕ) (h : HasPrinted old text) (room : length text < old.limit) where
  p : Printing
  p = printing_of old

  pub added : (line : List ℕ) → lines_of (printing_of old) (text ++ b ∷ []) ≡ lines_of (printing_of old) text ++ line
      → print_text (printing_of old) (text ++ b ∷ []) ≡ print_text (printing_of old) text ++ line
  unfolding p
  added line is =
      let long : length (text ++ b ∷ []) ≡ length text + 1 = length-append text (b ∷ []) in
      all_printed p (text ++ b ∷ []) (omega (arith, room, long)) ∙ is ∙ ap (λ o. o ++ line) (sym (all_printed p text h.within))

  -- whatever bytes follow
  pub torn : (front missing : List ℕ) → lines_of (printing_of old) (text ++ b ∷ []) ≡ lines_of (printing_of old) text ++ (front ++ missing) → (more : List ℕ)
      → (rest : List ℕ) × (print_text (printing_of old) (text ++ b ∷ more) ≡ print_text (printing_of old) text ++ (front ++ rest))
  unfolding p
  torn front missing is more =
      let long : length (text ++ b ∷ []) ≡ length text + 1 = length-append text (b ∷ []) in
      let on = prints_on p (text ++ b ∷ []) h.some_channels h.some_factor more (omega (arith, room, long)) in (
        missing ++ on.0,
        ap (print_text p) (sym (append_assoc text (b ∷ []) more)) ∙ on.1 ∙ ap (λ o. o ++ on.0) (is ∙ ap (λ o. o ++ (front ++ missing)) (sym (all_printed p text h.within)))
            ∙ regrouped (print_text p text) front missing on.0,
      )

-- behind the limit
pub stopped : (old : Printer) (refused text : List ℕ) (b : ℕ) → HasPrinted old text → length text ≡ old.limit → StopsBehind (task_of (Prints (printing_of old))) refused text b (TooLong old.limit)
stopped old refused text b h full more =
    let long : length (text ++ b ∷ more) ≡ length text + length (b ∷ more) = length-append text (b ∷ more) in
    let over = over_it (printing_of old) (text ++ b ∷ more) (omega (arith, full, long)) in
    (record { met = over; wrong = over }, cut_off (printing_of old) text (b ∷ more) full)
