-- The lines of a summary tell by their last bytes which streams ended in order.
use Rattle.std.proofs.Common.{◌≡◌, ℕ, ◌+◌, ◌++◌, Bool, true, false, List, [], ◌∷◌, length, map, ap, refl, arith, length-append, Option, Some, None}
use Rattle.std.proofs.lemmas.List.{length-map}
use Rattle.std.specs.Prelude.{◌&&◌, is_none, flat_map, unwrap_or}
use Rattle.std.specs.Option.{option_map_or}
use Rattle.std.specs.List.{AllByRecursion, enumerate_from, list_all}
use Rattle.hk_base.specs.declared.plain.WireFault.{WireFault}
use Rattle.hk_base.specs.declared.plain.End.{End}
use Rattle.hk_base.specs.declared.plain.End.TheVariants as ends
use Rattle.hk_base.specs.declared.plain.OpEnd.{OpEnd}
use Rattle.hk_base.specs.declared.plain.OpEnd.TheVariants as op_ends
use Rattle.hk_spec_streams.specs.Blocks.{blocks}
use Rattle.hk_spec_streams.specs.Station.{station_wrong}
use Rattle.hk_spec_streams.specs.Operator.{commands, operator_wrong}
use Rattle.hk_spec_lines.specs.Lines.{station_line, operator_line}
use Rattle.hk_spec_lines.proofs.LastBytes.{newlines, HasNewlines, HasNewlines-append, ended_station_line, other_station_line, ended_operator_line, other_operator_line}
use Rattle.hk_spec_settings.specs.Settings.{Rules}
use Rattle.hk_spec_runs.specs.Replay.{Listener, Scene, end_of, operator_end_of, summary}
use Rattle.hk_spec_runs.specs.Outcome.{has_ended}
use Rattle.hk_spec_runs.proofs.SceneEnds.{EndsOtherwise, EndsTell}

station_line_has : (station blocks version : ℕ) (end : Option End) (wrong : Option WireFault) → (end ≡ Some ends.Ended → ⊥)
    → HasNewlines (station_line station blocks version (unwrap_or end (option_map_or (λ fault. ends.Wire fault) wrong ends.Ended))) ((is_none end && is_none wrong) ∷ [])
station_line_has station blocks version None None other = ended_station_line station blocks version
station_line_has station blocks version None (Some fault) other = other_station_line station blocks version (ends.Wire fault) (λ is. cc)
station_line_has station blocks version (Some end) wrong other = other_station_line station blocks version end (λ is. other (ap Some is))

operator_line_has : (commands version : ℕ) (end : Option OpEnd) (wrong : Option WireFault) → (end ≡ Some op_ends.Ended → ⊥)
    → HasNewlines (operator_line commands version (unwrap_or end (option_map_or (λ fault. op_ends.Wire fault) wrong op_ends.Ended))) ((is_none end && is_none wrong) ∷ [])
operator_line_has commands version None None other = ended_operator_line commands version
operator_line_has commands version None (Some fault) other = other_operator_line commands version (op_ends.Wire fault) (λ is. cc)
operator_line_has commands version (Some end) wrong other = other_operator_line commands version end (λ is. other (ap Some is))

-- two tests of each item and two more tests, item by item
tested : {A : Type 0} (p q : A → Bool) (xs : List A) (c d : Bool)
    → list_all (λ b. b) (map (λ x. p x && q x) xs ++ (c && d) ∷ []) ≡ (list_all p xs && list_all q xs && c && d)
tested p q [] true true = refl
tested p q [] true false = refl
tested p q [] false d = refl
tested p q (x ∷ xs) c d = by_tests (p x) (q x) (list_all p xs) (list_all q xs) _ (tested p q xs c d)
  where
    by_tests : (a b u v e : Bool) → e ≡ (u && v && c && d) → ((a && b) && e) ≡ ((a && u) && (b && v) && c && d)
    by_tests true true u v e is = is
    by_tests true false true v e is = refl
    by_tests true false false v e is = refl
    by_tests false b u v e is = refl

-- what the newlines of a summary tell
pub record Told (rules : Rules) (scene : Scene) : Type 0 where
  pub told : List Bool
  pub has : HasNewlines (summary rules scene) told
  pub as_many : length told ≡ rules.stations + 1
  pub all : list_all (λ b. b) told ≡ has_ended rules scene

module _ (rules : Rules) where
  abbrev in_order : Listener → Bool
  in_order l = is_none l.end && is_none (station_wrong rules.bytes l.used)

  abbrev line_of : ℕ × Listener → List ℕ
  line_of p = station_line p.0 (length (blocks rules.setting p.1.used)) p.1.version (end_of rules p.1)

  lines_have : (n : ℕ) (listeners : List Listener) → AllByRecursion EndsOtherwise listeners → HasNewlines (flat_map line_of (enumerate_from n listeners)) (map in_order listeners)
  unfolding newlines
  lines_have n [] all = λ before. refl
  lines_have n (l ∷ listeners) all =
      HasNewlines-append (line_of (n, l)) (flat_map line_of (enumerate_from (n + 1) listeners)) (in_order l ∷ []) (map in_order listeners)
      (station_line_has n (length (blocks rules.setting l.used)) l.version l.end (station_wrong rules.bytes l.used) all.0)
      (lines_have (n + 1) listeners all.1)

  -- a summary tells whether all streams ended in order
  pub summary_tells : (scene : Scene) → EndsTell rules scene → Told rules scene
  summary_tells scene kept =
      let last : Bool = is_none scene.operator_stream.end && is_none (operator_wrong rules.bytes scene.operator_stream.used) in
      let long : length (map in_order scene.listeners ++ last ∷ []) ≡ length (map in_order scene.listeners) + 1 = length-append (map in_order scene.listeners) (last ∷ []) in
      let each : length (map in_order scene.listeners) ≡ length scene.listeners = length-map scene.listeners in_order in
      record {
        told = map in_order scene.listeners ++ last ∷ [];
        has = HasNewlines-append (flat_map line_of (enumerate_from 0 scene.listeners))
            (operator_line (length (commands scene.operator_stream.used)) (length scene.state.journal) (operator_end_of rules scene.operator_stream))
            (map in_order scene.listeners) (last ∷ [])
            (lines_have 0 scene.listeners kept.listeners)
            (operator_line_has (length (commands scene.operator_stream.used)) (length scene.state.journal) scene.operator_stream.end (operator_wrong rules.bytes scene.operator_stream.used) kept.operator_stream);
        as_many = omega (arith, long, each, kept.as_many);
        all = tested (λ (l : Listener). is_none l.end) (λ (l : Listener). is_none (station_wrong rules.bytes l.used)) scene.listeners (is_none scene.operator_stream.end) (is_none (operator_wrong rules.bytes scene.operator_stream.used));
      }
