-- The limit of bytes.
use Rattle.std.proofs.Common.{◌≡◌, ℕ, ◌+◌, ◌-◌, ◌<◌, ◌≤◌, ◌^◌, List, ◌++◌, length, take, refl, ◌∙◌, ap, arith, None, Some, cond}
use Rattle.std.proofs.lemmas.Bool.{le-ltb, lt-ltb}
use Rattle.std.proofs.lemmas.List.{take_all, take-append-le}
use Rattle.std.proofs.Math.Seq.{take-append-add}
use Rattle.hk_base.specs.declared.plain.Trouble.TheVariants.{TooLong}
use Rattle.hk_spec_runs.specs.Options.{Printing}
use Rattle.hk_spec_runs.specs.Words.{Print}
use Rattle.hk_spec_runs.specs.Outcome.{task_of, over_limit, print_text}
use Rattle.hk_player.specs.Playing.{IsInForm}
use Rattle.hk_printer.specs.Sounding.{lines_of}
use Rattle.hk_printer.proofs.Growing.{lines_grow}

module _ (p : Printing) (bytes : List ℕ) where
  pub within_limit : length bytes ≤ p.bytes → over_limit p bytes ≡ None
  within_limit few = ap (λ c. cond c (Some (TooLong p.bytes)) None) (le-ltb p.bytes (length bytes) few)

  pub over_it : p.bytes < length bytes → over_limit p bytes ≡ Some (TooLong p.bytes)
  over_it many = ap (λ c. cond c (Some (TooLong p.bytes)) None) (lt-ltb p.bytes (length bytes) many)

  pub form_within : length bytes ≤ p.bytes → p.bytes < 2 ^ 63 → IsInForm (task_of (Print p)) bytes
  form_within few most = record { reads = refl; no_fault = within_limit few; few = omega (arith, few, most) }

  pub all_printed : length bytes ≤ p.bytes → print_text p bytes ≡ lines_of p bytes
  all_printed few = ap (lines_of p) (take_all p.bytes bytes few)

  -- bytes behind the limit print nothing
  pub cut_off : (more : List ℕ) → length bytes ≡ p.bytes → print_text p (bytes ++ more) ≡ print_text p bytes
  cut_off more full = ap (lines_of p) (take-append-le p.bytes bytes more (omega (arith, full)))

  -- whatever bytes follow
  pub prints_on : 0 < p.channels → 0 < p.factor → (more : List ℕ) → length bytes ≤ p.bytes → (rest : List ℕ) × (print_text p (bytes ++ more) ≡ lines_of p bytes ++ rest)
  prints_on channels factor more few =
      let whole : p.bytes ≡ length bytes + (p.bytes - length bytes) = omega (arith, few) in
      let grown = lines_grow p channels factor bytes (take (p.bytes - length bytes) more) in
      (grown.0, ap (lines_of p) (ap (λ n. take n (bytes ++ more)) whole ∙ take-append-add bytes more (p.bytes - length bytes)) ∙ grown.1)
