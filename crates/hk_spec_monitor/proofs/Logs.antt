-- The whole lines of a log are a function of its blocks, versions and songs.
use Rattle.std.proofs.Common.{◌≡◌, ◌≤◌, ℕ, zero, suc, ◌+◌, Some, None, List, [], ◌∷◌, ◌++◌, flat_map, zip, slice_get, refl, sym, ◌∙◌, ap, subst, arith, cond}
use Rattle.std.specs.Prelude.{is_none, ⊤}
use Rattle.std.specs.List.{enumerate_from}
use Rattle.hk_spec_streams.specs.Blocks.{Block, Moment, Full, Asks}
use Rattle.hk_spec_matching.specs.Catalogue.{Songs, Rise}
use Rattle.hk_spec_matching.specs.Matching.{matches}
use Rattle.hk_spec_lines.specs.Lines.{printed_text, line}
use Rattle.hk_spec_settings.specs.Settings.{Rules}
use Rattle.hk_spec_runs.specs.History.{Reported}
use Rattle.hk_spec_runs.specs.Replay.{lines_at, report_in}
use Rattle.hk_spec_matching.proofs.Rising.{Rise-le}
use Rattle.hk_spec_monitor.specs.Looks.{last_version}
use Rattle.hk_spec_monitor.specs.Run.{reported_line, versions_of, blocks_heard}
use Rattle.hk_spec_monitor.specs.Laws.{LinesAreLog, LaterLooksHave, NoLookIsOver}
use Rattle.hk_spec_monitor.proofs.Legal.{some_of}

-- line by line
same_lines : (songs : ℕ → Songs) (station k : ℕ) (blocks : List Block) (reported : List Reported)
    → ((n : ℕ) (block : Block) (r : Reported) → slice_get blocks n ≡ Some block → slice_get reported n ≡ Some r → r.list ≡ matches block.query (songs r.version))
    → flat_map (λ p. printed_text (reported_line station p.0 p.1)) (zip (enumerate_from k blocks) reported) ≡ lines_at station songs (enumerate_from k blocks) (versions_of reported)
same_lines songs station k [] [] lists = refl
same_lines songs station k [] (r ∷ rs) lists = refl
same_lines songs station k (b ∷ bs) [] lists = refl
same_lines songs station k (b ∷ bs) (r ∷ rs) lists =
    ap (λ list. line (record { station = station; block = k; segment = b.segment; first = b.first; version = r.version }) list
    ++ flat_map (λ p. printed_text (reported_line station p.0 p.1)) (zip (enumerate_from (k + 1) bs) rs)) (lists 0 b r refl refl)
    ∙ ap (λ text. printed_text (report_in station r.version (songs r.version) (k, b)) ++ text)
    (same_lines songs station (k + 1) bs rs (λ n block q at_b at_r. lists (suc n) block q at_b at_r))

pub lines_are_log : (rules : Rules) → LinesAreLog rules
lines_are_log rules songs station h lines = same_lines songs station 0 (blocks_heard rules h) h.reported lines.lists

-- nothing stands behind the end of a list
pub past_end : {A : Type 0} (x : A) (P : Type 0) → None ≡ Some x → P
past_end x P none = absurd (subst (λ o. cond (is_none o) ⊤ ⊥) none tt)

-- looks that rise from a version are at least at it
at_least : (looks : List ℕ) (from to : ℕ) → Rise from looks to → (n v : ℕ) → slice_get looks n ≡ Some v → from ≤ v
at_least [] from to rise n v at = past_end v (from ≤ v) at
at_least (w ∷ looks) from to rise zero v at = subst (λ x. from ≤ x) (some_of w v at) rise.0
at_least (w ∷ looks) from to rise (suc n) v at = let rest : w ≤ v = at_least looks w to rise.1 n v at in omega (arith, rise.0, rest)

-- what a moment asks for
abbrev asks_of : Moment → ℕ
asks_of (Full block) = 0
asks_of (Asks asked) = asked

-- the looks behind a fence that was met
pub later_looks_have : LaterLooksHave
later_looks_have [] looks from to met rise i j asked v less at_fence at_look = past_end (Asks asked) (asked ≤ v) at_fence
later_looks_have (m ∷ ms) [] from to met rise i j asked v less at_fence at_look = past_end v (asked ≤ v) at_look
later_looks_have (m ∷ ms) (w ∷ looks) from to met rise i zero asked v less at_fence at_look = absurd (omega (arith, less))
later_looks_have (Full block ∷ ms) (w ∷ looks) from to met rise zero (suc j) asked v less at_fence at_look =
    let nothing : asked ≡ 0 = sym (ap asks_of (some_of (Full block) (Asks asked) at_fence)) in omega (arith, nothing)
later_looks_have (Asks a ∷ ms) (w ∷ looks) from to met rise zero (suc j) asked v less at_fence at_look =
    let is : a ≡ asked = ap asks_of (some_of (Asks a) (Asks asked) at_fence) in
    let rest : w ≤ v = at_least looks w to rise.1 j v at_look in
    omega (arith, is, met.0, rest)
later_looks_have (Full block ∷ ms) (w ∷ looks) from to met rise (suc i) (suc j) asked v less at_fence at_look =
    later_looks_have ms looks w to met rise.1 i j asked v (omega (arith, less)) at_fence at_look
later_looks_have (Asks a ∷ ms) (w ∷ looks) from to met rise (suc i) (suc j) asked v less at_fence at_look =
    later_looks_have ms looks w to met.1 rise.1 i j asked v (omega (arith, less)) at_fence at_look

-- looks that rise to a version are at most at it
at_most : (looks : List ℕ) (from to : ℕ) → Rise from looks to → (n v : ℕ) → slice_get looks n ≡ Some v → v ≤ to
at_most [] from to rise n v at = past_end v (v ≤ to) at
at_most (w ∷ looks) from to rise zero v at = subst (λ x. x ≤ to) (some_of w v at) (Rise-le w to looks rise.1)
at_most (w ∷ looks) from to rise (suc n) v at = at_most looks w to rise.1 n v at

pub no_look_is_over : NoLookIsOver
no_look_is_over looks n v rise at = at_most looks 0 (last_version looks) rise n v at
