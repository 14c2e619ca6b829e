-- What hearing one byte makes of the listeners that a station is.
use Rattle.std.proofs.Common.{◌≡◌, ◌≤◌, ℕ, ◌+◌, ◌*◌, List, [], ◌∷◌, ◌++◌, length, map, refl, sym, ◌∙◌, ap, subst, arith, append-nil, length-append, true, false, cond, Option, Some, None, option_map}
use Rattle.std.specs.Prelude.{nat_lt, find}
use Rattle.std.specs.List.{enumerate_from}
use Rattle.hk_base.specs.declared.plain.WireFault.{WireFault}
use Rattle.hk_base.specs.declared.plain.End.{End}
use Rattle.hk_base.specs.declared.plain.End.TheVariants as ends
use Rattle.hk_spec_streams.specs.Station.{Fence, station_met}
use Rattle.hk_spec_streams.specs.Blocks.{Block, blocks, head_of}
use Rattle.hk_spec_matching.specs.Catalogue.{Songs}
use Rattle.hk_spec_matching.specs.Cost.{cost}
use Rattle.hk_spec_lines.specs.Lines.{line, printed_text}
use Rattle.hk_spec_runs.specs.Replay.{report_in}
use Rattle.hk_spec_runs.specs.Listening.{Instant, IfLooked, blocks_gained, lines_for, steps_for, after_one, Gives, GivesOne}
use Rattle.hk_spec_runs.proofs.Listening.{next_over, Gives-over, next_fault, Gives-fault, next_goes, blocks_goes, looks_goes, Gives-goes}
use Rattle.hk_block.specs.Looker.{LookerView, Past, matches_in, most_steps}
use Rattle.hk_block.specs.Ring.{Ring, query_of, first_word, block_in}
use Rattle.hk_receiver.specs.declared.receiver.Receiver.{Receiver}
use Rattle.hk_receiver.specs.Received.{HasReceived, Brings, ForEachText, fences_at}
use Rattle.hk_station.specs.declared.station.Station.{Station}
use Rattle.hk_station.specs.Hearing.{IsHearing, ForEach}

-- A fact of each listener that the station is, of what one instant makes of it and what that gives.
abbrev pub HearsOne : ℕ → Instant → Station → Station → List ℕ → List ℕ → ℕ → Past → Type 0
HearsOne positions i old new text answers steps past =
    ForEach old (λ rules l. IsHearing rules new (after_one rules l i) × Gives rules old.number positions l (i ∷ []) text answers steps past)

-- a station that is over stays
pub hears_over : (positions : ℕ) (i : Instant) (station : Station) (past : Past) (end : End) → station.end ≡ Some end → HearsOne positions i station station [] [] 0 past
hears_over positions i station past end over = λ rules l h.
    let ended : l.end ≡ Some end = sym h.end_is ∙ over in (
      subst (IsHearing rules station) (sym (next_over rules l i end ended)) h,
      Gives-over rules l i end ended station.number positions past,
    )

-- a fault ends it
pub hears_fault : (positions : ℕ) (i : Instant) (old new : Station) (past : Past) (fault : WireFault) → old.end ≡ None
    → ForEachText old.receiver (λ rules text. station_met rules.bytes (text ++ i.byte ∷ []) ≡ Some fault)
    → new.lines ≡ old.lines → new.version ≡ old.version → new.end ≡ Some (ends.Wire fault) → HearsOne positions i old new [] [] 0 past
hears_fault positions i old new past fault unended met lines version ended = λ rules l h.
    let going : l.end ≡ None = sym h.end_is ∙ unended in
    let is : station_met rules.bytes (l.used ++ i.byte ∷ []) ≡ Some fault = met rules l.used (h.receives going) in (
      subst (IsHearing rules new) (sym (next_fault rules l i going fault is)) (record {
        receives = λ none. absurd (let no : Some (ends.Wire fault) ≡ None = none in cc);
        end_is = ended;
        lines = lines ∙ h.lines;
        version_is = version ∙ h.version_is;
      }),
      Gives-fault rules l i going fault is old.number positions past,
    )

asked_are : (place : ℕ) (asks : List ℕ) → map (λ (fence : Fence). fence.asked) (fences_at place asks) ≡ asks
asked_are place [] = refl
asked_are place (a ∷ asks) = ap (λ xs. a ∷ xs) (asked_are place asks)

versions_at : (v place : ℕ) (asks : List ℕ) → map (λ fence. v) (fences_at place asks) ≡ map (λ a. v) asks
versions_at v place [] = refl
versions_at v place (a ∷ asks) = ap (λ xs. v ∷ xs) (versions_at v place asks)

-- the lines of a station's next blocks, and the most steps of their looks
abbrev pub lines_of_next : Station → Instant → List Block → List ℕ
lines_of_next old i more = lines_for old.number i.version i.songs (enumerate_from old.lines more)

abbrev pub steps_of_next : ℕ → Station → Instant → List Block → ℕ
steps_of_next positions old i more = steps_for positions i.songs (enumerate_from old.lines more)

abbrev pub looks_for : Instant → List Block → List ℕ → List ℕ
looks_for i more asks = map (λ block. i.version) more ++ map (λ a. i.version) asks

-- the end of a station whose byte completes fences that ask for these versions
abbrev pub end_at : ℕ → List ℕ → Option End
end_at v asks = option_map (λ a. ends.FenceAhead a v) (find (λ a. nat_lt v a) asks)

-- a byte that meets no fault and brings these blocks and fences
module _ (i : Instant) (old : Station) (receiver : Receiver) (more : List Block) (asks : List ℕ) (unended : old.end ≡ None)
    (brings : ForEachText old.receiver (λ rules text. Brings rules text i.byte receiver more asks)) where
  pub hears_goes : (positions : ℕ) (new : Station) (past : Past) → new.receiver ≡ receiver → new.lines ≡ old.lines + length more
      → new.version ≡ cond (nat_lt 0 (length more + length asks)) i.version old.version → new.end ≡ end_at i.version asks
      → IfLooked (looks_for i more asks) (past i.version ≡ Some i.songs) → HearsOne positions i old new (lines_of_next old i more) (looks_for i more asks) (steps_of_next positions old i more) past
  hears_goes positions new past kept lines version ended known = λ rules l h.
      let going : l.end ≡ None = sym h.end_is ∙ unended in
      let b : Brings rules l.used i.byte receiver more asks = brings rules l.used (h.receives going) in
      let further : List Fence = fences_at (length l.used) asks in
      let count : length (blocks rules.setting (l.used ++ i.byte ∷ [])) ≡ length (blocks rules.setting l.used) + length more =
      ap length b.more_blocks ∙ length-append (blocks rules.setting l.used) more in
      let asked : map (λ (fence : Fence). fence.asked) further ≡ asks = asked_are (length l.used) asks in
      let looks : map (λ fence. i.version) further ≡ map (λ a. i.version) asks = versions_at i.version (length l.used) asks in (
        subst (IsHearing rules new) (sym (next_goes rules l i going b.meets_none more further b.more_blocks b.more_fences)) (record {
          receives = λ none. subst (λ r. HasReceived rules r (l.used ++ i.byte ∷ [])) (sym kept) b.goes_on;
          end_is = ended ∙ ap (end_at i.version) (sym asked);
          lines = omega (arith, lines, h.lines, count);
          version_is = version ∙ ap (λ v. cond (nat_lt 0 (length more + length asks)) i.version v) h.version_is
              ∙ ap (λ given. cond (nat_lt 0 (length more + length given)) i.version l.version) (sym asked);
        }),
        subst (λ n. Gives rules old.number positions l (i ∷ []) (lines_for old.number i.version i.songs (enumerate_from n more)) (looks_for i more asks) (steps_for positions i.songs (enumerate_from n more)) past) (sym h.lines)
            (subst (λ vs. Gives rules old.number positions l (i ∷ []) (lines_for old.number i.version i.songs (enumerate_from (length (blocks rules.setting l.used)) more)) (map (λ block. i.version) more ++ vs)
            (steps_for positions i.songs (enumerate_from (length (blocks rules.setting l.used)) more)) past) looks
            (Gives-goes rules l i going b.meets_none more further b.more_blocks b.more_fences old.number positions past
            (subst (λ vs. IfLooked (map (λ block. i.version) more ++ vs) (past i.version ≡ Some i.songs)) (sym looks) known))),
      )

-- the line of one block
pub one_line : (number v n segment : ℕ) (ring : Ring) (songs : Songs)
    → lines_for number v songs (enumerate_from n (block_in segment ring ∷ []))
    ≡ line (head_of number n (block_in segment ring) v) (matches_in ring songs)
one_line number v n segment ring songs = append-nil (line (head_of number n (block_in segment ring) v) (matches_in ring songs))

-- the most steps of its look
pub steps_of_one : (ring : Ring) (view view' : LookerView) (segment n ticks ticks' : ℕ) → view'.room ≡ view.room → ticks' ≤ ticks + most_steps ring view'
    → ticks' ≤ ticks + steps_for view.room view'.songs (enumerate_from n (block_in segment ring ∷ []))
steps_of_one ring view view' segment n ticks ticks' room bound =
    let same : most_steps ring view' ≡ 257 * cost view.room (query_of ring) view'.songs = ap (λ r. 257 * cost r (query_of ring) view'.songs) room in
    let one : steps_for view.room view'.songs (enumerate_from n (block_in segment ring ∷ [])) ≡ 0 + 257 * cost view.room (query_of ring) view'.songs = refl in
    omega (arith, bound, same, one)

-- a byte that completes a block gives the one line of it, and the one look
pub gives_one : (positions : ℕ) (i : Instant) (old : Station) (receiver : Receiver) (block : Block) → old.end ≡ None
    → ForEachText old.receiver (λ rules text. Brings rules text i.byte receiver (block ∷ []) [])
    → ForEach old (λ rules l. GivesOne rules old.number positions l i (lines_of_next old i (block ∷ [])) (steps_of_next positions old i (block ∷ [])))
gives_one positions i old receiver block unended brings = λ rules l h.
    let going : l.end ≡ None = sym h.end_is ∙ unended in
    let b : Brings rules l.used i.byte receiver (block ∷ []) [] = brings rules l.used (h.receives going) in
    let one : ℕ → List ℕ = λ n. printed_text (report_in old.number i.version i.songs (n, block)) in
    let gained : enumerate_from old.lines (block ∷ []) ≡ blocks_gained rules i.version l i.byte =
    ap (λ n. enumerate_from n (block ∷ [])) h.lines ∙ sym (blocks_goes rules l i going b.meets_none (block ∷ []) [] b.more_blocks b.more_fences) in
    record {
      lines = ap (lines_for old.number i.version i.songs) gained;
      costs = ap (steps_for positions i.songs) gained;
      looks = looks_goes rules l i going b.meets_none (block ∷ []) [] b.more_blocks b.more_fences;
      block = block;
      blocks_are = b.more_blocks;
      report = append-nil (one old.lines) ∙ ap one h.lines;
    }

-- a fence ends the station where it asks for more than was found
pub fence_end : (found asked : ℕ) → cond (nat_lt found asked) (Some (ends.FenceAhead asked found)) None ≡ end_at found (asked ∷ [])
fence_end found asked = elim (nat_lt found asked) as (λ c. cond c (Some (ends.FenceAhead asked found)) None ≡ option_map (λ a. ends.FenceAhead a found) (cond c (Some asked) None)) [ true ↦ refl | false ↦ refl ]
