-- What was written since a station's start is the log of the blocks of the bytes that it used.
use Rattle.std.proofs.Common.{◌≡◌, ◌<◌, ℕ, suc, ◌+◌, List, [], ◌∷◌, ◌++◌, map, length, refl, sym, ◌∙◌, ap, subst, arith, append_assoc, append-nil, length-append, ◌⊎◌, inl, inr, true, false, cond, Option, None, Some}
use Rattle.std.specs.Prelude.{flat_map, unwrap_or, zip, nat_lt, is_some}
use Rattle.std.specs.List.{enumerate_from}
use Rattle.std.proofs.lemmas.Bool.{lt-ltb, le-ltb}
use Rattle.std.proofs.lemmas.Grind.{flat_map-append}
use Rattle.std.proofs.lemmas.List.{length-map}
use Rattle.hk_spec_matching.specs.Catalogue.{Songs}
use Rattle.hk_spec_sound.specs.Windows.{windows}
use Rattle.hk_spec_streams.specs.Pieces.{completed, pieces_within}
use Rattle.hk_spec_streams.specs.Station.{station_met, fences, segments, prints_of, factor_of}
use Rattle.hk_spec_streams.specs.Grammar.{packets}
use Rattle.hk_spec_streams.specs.Blocks.{Setting, Block, blocks, blocks_of_segment}
use Rattle.hk_spec_streams.proofs.Completed.{completed-more}
use Rattle.hk_spec_streams.proofs.GrowingBlocks.{enumerate-append, blocks-last, no_blocks}
use Rattle.hk_spec_streams.proofs.Optional.{none_or_some}
use Rattle.hk_spec_lines.specs.Lines.{printed_text}
use Rattle.hk_spec_settings.specs.Settings.{Rules}
use Rattle.hk_spec_runs.specs.Replay.{Listener, report_in, lines_at}
use Rattle.hk_spec_runs.specs.Listening.{Instant, IfLooked, unheard, blocks_gained, looks_gained, after_one, after, lines_over, versions_over, AreKnown, KeepsBlocks, songs_in, WritesLog, TornLog}
use Rattle.hk_spec_runs.proofs.Listening.{next_over, next_fault, next_on}

zip-append : {A B : Type 0} (xs : List A) (vs : List B) (ys : List A) (ws : List B) → length vs ≡ length xs → zip (xs ++ ys) (vs ++ ws) ≡ zip xs vs ++ zip ys ws
zip-append [] [] ys ws long = refl
zip-append [] (v ∷ vs) ys ws long = absurd (omega (arith, long))
zip-append (x ∷ xs) [] ys ws long = absurd (omega (arith, long))
zip-append (x ∷ xs) (v ∷ vs) ys ws long = ap (λ ps. (x, v) ∷ ps) (zip-append xs vs ys ws (omega (arith, long)))

module _ (station : ℕ) (songs : ℕ → Songs) where
  lines_at-append : (xs : List (ℕ × Block)) (vs : List ℕ) (ys : List (ℕ × Block)) (ws : List ℕ) → length vs ≡ length xs
      → lines_at station songs (xs ++ ys) (vs ++ ws) ≡ lines_at station songs xs vs ++ lines_at station songs ys ws
  lines_at-append xs vs ys ws long =
      let one : (ℕ × Block) × ℕ → List ℕ = λ p. printed_text (report_in station p.1 (songs p.1) p.0) in
      ap (flat_map one) (zip-append xs vs ys ws long) ∙ flat_map-append one (zip xs vs) (zip ys ws)

  -- blocks at one version, whose songs are these
  lines_at-one : (v : ℕ) (at : Songs) → songs v ≡ at → (xs : List (ℕ × Block))
      → lines_at station songs xs (map (λ block. v) xs) ≡ flat_map printed_text (map (report_in station v at) xs)
  lines_at-one v at is [] = refl
  lines_at-one v at is (x ∷ xs) =
      ap (λ (s : Songs). printed_text (report_in station v s x) ++ lines_at station songs xs (map (λ block. v) xs)) is
      ∙ ap (λ text. printed_text (report_in station v at x) ++ text) (lines_at-one v at is xs)

-- no byte has no block
pub no_blocks_before : (s : Setting) → 0 < s.block.size → blocks s [] ≡ []
unfolding segments packets pieces_within windows
no_blocks_before s some =
    let one : segments [] ≡ [] ∷ [] = refl in
    blocks-last s [] [] [] one ∙ ap (blocks_of_segment s 0) (none (factor_of [])) ∙ no_blocks s 0 some
  where
    none : (factor : ℕ) → prints_of s.analysis s.flips 0 factor [] ≡ []
    none factor = refl

length-enumerate : {A : Type 0} (n : ℕ) (xs : List A) → length (enumerate_from n xs) ≡ length xs
length-enumerate n [] = refl
length-enumerate n (x ∷ xs) = ap suc (length-enumerate (n + 1) xs)

-- where blocks are completed, looks are made
known_for : (v : ℕ) (more : List Block) (rest looks : List ℕ) (P : Type 0) → looks ≡ map (λ block. v) more ++ rest → IfLooked looks P → (more ≡ []) ⊎ P
known_for v [] rest looks P is known = inl refl
known_for v (block ∷ more) rest looks P is known = inr (subst (λ vs. IfLooked vs P) is known)

module _ (rules : Rules) where
  -- a listener's next byte is used, or the bytes used stay
  data Used (l : Listener) (i : Instant) : Type 0 where
    Stays : (after_one rules l i).used ≡ l.used → Used l i
    Goes : (after_one rules l i).used ≡ l.used ++ i.byte ∷ []
        → looks_gained rules i.version l i.byte ≡ map (λ block. i.version) (completed (blocks rules.setting) (l.used ++ i.byte ∷ [])) ++ map (λ fence. i.version) (completed fences (l.used ++ i.byte ∷ []))
        → Used l i

  used_next : (l : Listener) (i : Instant) → Used l i
  used_next l i = elim (none_or_some l.end) [
    | inr some ↦ Stays (ap (λ (m : Listener). m.used) (next_over rules l i some.0 some.1))
    | inl going ↦ elim (none_or_some (station_met rules.bytes (l.used ++ i.byte ∷ []))) [
      | inr fault ↦ Stays (ap (λ (m : Listener). m.used) (next_fault rules l i going fault.0 fault.1))
      | inl none ↦ Goes (goes_on going none)
          (ap (λ e. cond (is_some e) [] (cond (is_some (station_met rules.bytes (l.used ++ i.byte ∷ []))) [] (rest i))) going ∙ ap (λ o. cond (is_some o) [] (rest i)) none)
    ]
  ]
    where
      rest : Instant → List ℕ
      rest i = map (λ block. i.version) (completed (blocks rules.setting) (l.used ++ i.byte ∷ [])) ++ map (λ fence. i.version) (completed fences (l.used ++ i.byte ∷ []))

      goes_on : l.end ≡ None → station_met rules.bytes (l.used ++ i.byte ∷ []) ≡ None → (after_one rules l i).used ≡ l.used ++ i.byte ∷ []
      goes_on going none = ap (λ (m : Listener). m.used) (next_on rules l i going none)

  -- the blocks that an instant adds, and the lines of those
  record Adds (station : ℕ) (l : Listener) (i : Instant) (past : ℕ → Option Songs) : Type 0 where
    more : List Block
    stay : blocks rules.setting (after_one rules l i).used ≡ blocks rules.setting l.used ++ more
    gained : blocks_gained rules i.version l i.byte ≡ enumerate_from (length (blocks rules.setting l.used)) more
    known : (more ≡ []) ⊎ (past i.version ≡ Some i.songs)

  adds : (station : ℕ) (l : Listener) (i : Instant) (past : ℕ → Option Songs) (more : List Block) → blocks rules.setting (after_one rules l i).used ≡ blocks rules.setting l.used ++ more
      → IfLooked (looks_gained rules i.version l i.byte) (past i.version ≡ Some i.songs) → Adds station l i past
  adds station l i past more stay known = elim (used_next l i) [
    | Stays same ↦
        let not_longer : nat_lt (length l.used) (length (after_one rules l i).used) ≡ false =
        ap (λ used. nat_lt (length l.used) (length used)) same ∙ le-ltb (length l.used) (length l.used) (omega arith) in
        record {
          more = [];
          stay = ap (blocks rules.setting) same ∙ sym (append-nil (blocks rules.setting l.used));
          gained = ap (λ c. cond c (enumerate_from (length (blocks rules.setting l.used)) (completed (blocks rules.setting) (after_one rules l i).used)) []) not_longer;
          known = inl refl;
        }
    | Goes longer looks ↦
        let long : length (l.used ++ i.byte ∷ []) ≡ length l.used + 1 = length-append l.used (i.byte ∷ []) in
        let is_longer : nat_lt (length l.used) (length (after_one rules l i).used) ≡ true =
        ap (λ used. nat_lt (length l.used) (length used)) longer ∙ lt-ltb (length l.used) (length (l.used ++ i.byte ∷ [])) (omega (arith, long)) in
        let done : completed (blocks rules.setting) (l.used ++ i.byte ∷ []) ≡ more =
        completed-more (blocks rules.setting) l.used i.byte more (sym (ap (blocks rules.setting) longer) ∙ stay) in
        record {
          more = more;
          stay = stay;
          gained = ap (λ c. cond c (enumerate_from (length (blocks rules.setting l.used)) (completed (blocks rules.setting) (after_one rules l i).used)) []) is_longer
              ∙ ap (λ used. enumerate_from (length (blocks rules.setting l.used)) (completed (blocks rules.setting) used)) longer
              ∙ ap (enumerate_from (length (blocks rules.setting l.used))) done;
          known = known_for i.version more (map (λ fence. i.version) (completed fences (l.used ++ i.byte ∷ []))) (looks_gained rules i.version l i.byte) (past i.version ≡ Some i.songs)
              (looks ∙ ap (λ bs. map (λ block. i.version) bs ++ map (λ fence. i.version) (completed fences (l.used ++ i.byte ∷ []))) done) known;
        }
  ]

  -- From a listener on, these blocks are added, and the lines are those of these blocks.
  record Logs (station : ℕ) (l : Listener) (instants : List Instant) (past : ℕ → Option Songs) : Type 0 where
    new : List Block
    stay : blocks rules.setting (after rules l instants).used ≡ blocks rules.setting l.used ++ new
    one_each : length (versions_over rules l instants) ≡ length new
    log : lines_over rules station l instants ≡ lines_at station (songs_in past) (enumerate_from (length (blocks rules.setting l.used)) new) (versions_over rules l instants)

  one_version : (station v : ℕ) (songs : Songs) (past : ℕ → Option Songs) (n : ℕ) (more : List Block) → (more ≡ []) ⊎ (past v ≡ Some songs)
      → flat_map printed_text (map (report_in station v songs) (enumerate_from n more)) ≡ lines_at station (songs_in past) (enumerate_from n more) (map (λ block. v) (enumerate_from n more))
  one_version station v songs past n more (inl none) =
      ap (λ bs. flat_map printed_text (map (report_in station v songs) (enumerate_from n bs))) none
      ∙ sym (ap (λ bs. lines_at station (songs_in past) (enumerate_from n bs) (map (λ block. v) (enumerate_from n bs))) none)
  one_version station v songs past n more (inr is) = sym (lines_at-one station (songs_in past) v songs (ap (λ o. unwrap_or o []) is) (enumerate_from n more))

  logs : (station : ℕ) (l : Listener) (instants : List Instant) (past : ℕ → Option Songs) → AreKnown rules l instants past → KeepsBlocks rules l instants → Logs station l instants past
  logs station l [] past known keeps = record { new = []; stay = sym (append-nil (blocks rules.setting l.used)); one_each = refl; log = refl }
  logs station l (i ∷ rest) past known keeps =
      let one : Adds station l i past = adds station l i past keeps.0.0 keeps.0.1 known.0 in
      let all : Logs station (after_one rules l i) rest past = logs station (after_one rules l i) rest past known.1 keeps.1 in
      let n : ℕ = length (blocks rules.setting l.used) in
      let here : List (ℕ × Block) = enumerate_from n one.more in
      let vs : List ℕ = map (λ block. i.version) (blocks_gained rules i.version l i.byte) in
      let vs_here : vs ≡ map (λ block. i.version) here = ap (map (λ block. i.version)) one.gained in
      let long : length (map (λ (block : ℕ × Block). i.version) here) ≡ length here = length-map here (λ block. i.version) in
      let long_here : length here ≡ length one.more = length-enumerate n one.more in
      let place : length (blocks rules.setting (after_one rules l i).used) ≡ n + length one.more = ap length one.stay ∙ length-append (blocks rules.setting l.used) one.more in
      let tail : List ℕ = versions_over rules (after_one rules l i) rest in
      record {
        new = one.more ++ all.new;
        stay = all.stay ∙ ap (λ bs. bs ++ all.new) one.stay ∙ append_assoc (blocks rules.setting l.used) one.more all.new;
        one_each =
            let sum : length (vs ++ tail) ≡ length vs + length tail = length-append vs tail in
            let sizes : length vs ≡ length here = ap length vs_here ∙ long in
            let total : length (one.more ++ all.new) ≡ length one.more + length all.new = length-append one.more all.new in
            omega (arith, sum, sizes, long_here, total, all.one_each);
        log =
            ap (λ bs. flat_map printed_text (map (report_in station i.version i.songs) bs) ++ lines_over rules station (after_one rules l i) rest) one.gained
            ∙ ap (λ text. text ++ lines_over rules station (after_one rules l i) rest) (one_version station i.version i.songs past n one.more one.known)
            ∙ ap (λ text. lines_at station (songs_in past) here (map (λ block. i.version) here) ++ text)
            (all.log ∙ ap (λ m. lines_at station (songs_in past) (enumerate_from m all.new) tail) place)
            ∙ sym (lines_at-append station (songs_in past) here (map (λ block. i.version) here) (enumerate_from (n + length one.more) all.new) tail long)
            ∙ ap (λ ws. lines_at station (songs_in past) (here ++ enumerate_from (n + length one.more) all.new) (ws ++ tail)) (sym vs_here)
            ∙ ap (λ bs. lines_at station (songs_in past) bs (vs ++ tail)) (sym (enumerate-append n one.more all.new));
      }

  -- the law of a station's log
  pub writes_log : 0 < rules.setting.block.size → WritesLog rules
  writes_log some station positions instants text answers steps past gives =
      let none : blocks rules.setting [] ≡ [] = no_blocks_before rules.setting some in
      let all : Logs station unheard instants past = logs station unheard instants past gives.known gives.blocks_stay in
      let are : blocks rules.setting (after rules unheard instants).used ≡ all.new = all.stay ∙ ap (λ bs. bs ++ all.new) none in
      record {
        one_each = all.one_each ∙ ap length (sym are);
        log = gives.lines ∙ all.log
            ∙ ap (λ bs. lines_at station (songs_in past) (enumerate_from (length bs) all.new) (versions_over rules unheard instants)) none
            ∙ ap (λ bs. lines_at station (songs_in past) (enumerate_from 0 bs) (versions_over rules unheard instants)) (sym are);
      }

  -- the next block's line stands behind the log
  pub next_line : TornLog rules
  next_line station positions l vs past text i line steps first one known =
      let n : ℕ = length (blocks rules.setting l.used) in
      let numbered : List (ℕ × Block) = enumerate_from 0 (blocks rules.setting l.used) in
      let same : 0 + n ≡ n = omega arith in
      let long : length vs ≡ length numbered = first.one_each ∙ sym (length-enumerate 0 (blocks rules.setting l.used)) in
      let at_end : enumerate_from 0 (blocks rules.setting (l.used ++ i.byte ∷ [])) ≡ numbered ++ (n, one.block) ∷ [] =
      ap (enumerate_from 0) one.blocks_are ∙ enumerate-append 0 (blocks rules.setting l.used) (one.block ∷ []) ∙ ap (λ m. numbered ++ (m, one.block) ∷ []) same in
      let at : songs_in past i.version ≡ i.songs = ap (λ o. unwrap_or o []) known in
      record {
        one_each =
            let sum : length (vs ++ i.version ∷ []) ≡ length vs + 1 = length-append vs (i.version ∷ []) in
            let total : length (blocks rules.setting (l.used ++ i.byte ∷ [])) ≡ n + 1 = ap length one.blocks_are ∙ length-append (blocks rules.setting l.used) (one.block ∷ []) in
            omega (arith, sum, total, first.one_each);
        log =
            ap (λ t. t ++ line) first.log
            ∙ ap (λ t. lines_at station (songs_in past) numbered vs ++ t) (one.report
            ∙ ap (λ (s : Songs). printed_text (report_in station i.version s (n, one.block))) (sym at)
            ∙ sym (append-nil (printed_text (report_in station i.version (songs_in past i.version) (n, one.block)))))
            ∙ sym (lines_at-append station (songs_in past) numbered vs ((n, one.block) ∷ []) (i.version ∷ []) long)
            ∙ ap (λ bs. lines_at station (songs_in past) bs (vs ++ i.version ∷ [])) (sym at_end);
      }
