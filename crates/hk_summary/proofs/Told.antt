-- What is told of a run's ends gives the run's summary and its status.
use Rattle.std.proofs.Common.{◌≡◌, ◌∙◌, ◌+◌, ℕ, nat_lt, cond, Bool, true, false, ◌&&◌, List, [], ◌∷◌, ◌++◌, length, map, flat_map, find, Option, Some, None, option_map, is_some, refl, sym, ap, ap₂, append_assoc}
use Rattle.std.specs.List.{enumerate_from, list_all}
use Rattle.std.specs.Option.{option_map_or}
use Rattle.hk_spec_lines.specs.Lines.{station_line, operator_line, mismatch_line}
use Rattle.hk_spec_monitor.specs.Looks.{last_version}
use Rattle.hk_spec_monitor.specs.Run.{Heard, Run, whole_replies}
use Rattle.hk_spec_monitor.specs.Summary.{is_ended, mismatch, operator_is_ended, status_of, summary, ENDED, IN_DISORDER, MISMATCH, WRITE_FAULT}
use Rattle.hk_summary.specs.declared.ends.StationEnd.{StationEnd}
use Rattle.hk_summary.specs.declared.ends.OperatorEnd.{OperatorEnd}
use Rattle.hk_summary.specs.Ends.{ahead_of, code_of, end_line, station_lines, rest_text, summary_text, told, told_operator, Tells}

lines_told : (ps : List (ℕ × Heard)) → station_lines (map told ps) ≡ flat_map (λ p. station_line p.0 (length p.1.reported) (last_version p.1.looks) p.1.end) ps
lines_told [] = refl
lines_told (p ∷ ps) = ap (λ t. end_line (told p) ++ t) (lines_told ps)

-- a station by its number and version
abbrev numbered : StationEnd → ℕ × ℕ
numbered station = (station.number, station.version)

ahead_told : (published n : ℕ) (hs : List Heard)
    → option_map numbered (ahead_of published (map told (enumerate_from n hs))) ≡ find (λ p. nat_lt published p.1) (enumerate_from n (map (λ h. last_version h.looks) hs))
ahead_told published n [] = refl
ahead_told published n (h ∷ hs) = go (nat_lt published (last_version h.looks)) (ahead_told published (n + 1) hs)
  where
    later : Option StationEnd
    later = ahead_of published (map told (enumerate_from (n + 1) hs))

    found : Option (ℕ × ℕ)
    found = find (λ p. nat_lt published p.1) (enumerate_from (n + 1) (map (λ h. last_version h.looks) hs))

    go : (b : Bool) → option_map numbered later ≡ found → option_map numbered (cond b (Some (told (n, h))) later) ≡ cond b (Some (n, last_version h.looks)) found
    go true rest = refl
    go false rest = rest

ended_told : (n : ℕ) (hs : List Heard) → list_all (λ (station : StationEnd). is_ended station.end) (map told (enumerate_from n hs)) ≡ list_all (λ h. is_ended h.end) hs
ended_told n [] = refl
ended_told n (h ∷ hs) = ap (λ b. is_ended h.end && b) (ended_told (n + 1) hs)

ahead_text : (published : ℕ) (o : Option StationEnd)
    → option_map_or (λ (station : StationEnd). mismatch_line station.number station.version published) o [] ≡ option_map_or (λ (m : ℕ × ℕ). mismatch_line m.0 m.1 published) (option_map numbered o) []
ahead_text published None = refl
ahead_text published (Some station) = refl

some_numbered : (o : Option StationEnd) → is_some o ≡ is_some (option_map numbered o)
some_numbered None = refl
some_numbered (Some station) = refl

mismatch_told : (run : Run) → option_map numbered (ahead_of (length run.journal) (map told (enumerate_from 0 run.stations))) ≡ mismatch run
mismatch_told run = ahead_told (length run.journal) 0 run.stations

module _ (run : Run) where
  abbrev ends : List StationEnd
  ends = map told (enumerate_from 0 run.stations)

  rest_told : rest_text (ahead_of (length run.journal) ends) (told_operator run)
      ≡ operator_line (length (whole_replies run.operator)) (length run.journal) run.operator.end ++ option_map_or (λ m. mismatch_line m.0 m.1 (length run.journal)) (mismatch run) []
  rest_told =
      ap (λ (t : List ℕ). operator_line (length (whole_replies run.operator)) (length run.journal) run.operator.end ++ t)
      (ahead_text (length run.journal) (ahead_of (length run.journal) ends)
      ∙ ap (λ o. option_map_or (λ (m : ℕ × ℕ). mismatch_line m.0 m.1 (length run.journal)) o []) (mismatch_told run))

  text_told : summary_text ends (told_operator run) ≡ summary run
  text_told =
      ap (λ (t : List ℕ). t ++ rest_text (ahead_of (length run.journal) ends) (told_operator run)) (lines_told (enumerate_from 0 run.stations))
      ∙ ap (λ (t : List ℕ). flat_map (λ (p : ℕ × Heard). station_line p.0 (length p.1.reported) (last_version p.1.looks) p.1.end) (enumerate_from 0 run.stations) ++ t) rest_told
      ∙ sym (append_assoc (flat_map (λ (p : ℕ × Heard). station_line p.0 (length p.1.reported) (last_version p.1.looks) p.1.end) (enumerate_from 0 run.stations))
      (operator_line (length (whole_replies run.operator)) (length run.journal) run.operator.end) (option_map_or (λ (m : ℕ × ℕ). mismatch_line m.0 m.1 (length run.journal)) (mismatch run) []))

  code_told : (whole : Bool) → code_of ends (told_operator run) whole ≡ status_of run whole
  code_told whole =
      ap₂ (λ (b e : Bool). cond b MISMATCH (cond whole (cond e ENDED IN_DISORDER) WRITE_FAULT))
      (some_numbered (ahead_of (length run.journal) ends) ∙ ap (λ (o : Option (ℕ × ℕ)). is_some o) (mismatch_told run))
      (ap (λ b. b && operator_is_ended run.operator.end) (ended_told 0 run.stations))

pub text_is : (stations : List StationEnd) (operator : OperatorEnd) (run : Run) → Tells stations operator run → summary run ≡ summary_text stations operator
text_is stations operator run tells = sym (ap₂ summary_text tells.stations_are tells.operator_is ∙ text_told run)

pub code_is : (stations : List StationEnd) (operator : OperatorEnd) (run : Run) (whole : Bool) → Tells stations operator run → code_of stations operator whole ≡ status_of run whole
code_is stations operator run whole tells = ap₂ (λ (s : List StationEnd) o. code_of s o whole) tells.stations_are tells.operator_is ∙ code_told run whole
