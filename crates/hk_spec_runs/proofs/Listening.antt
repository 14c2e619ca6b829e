-- A station's stream heard byte after byte.
use Rattle.std.proofs.Common.{◌≡◌, ℕ, ◌+◌, List, [], ◌∷◌, ◌++◌, map, length, refl, sym, ◌∙◌, ap, subst, arith, append_assoc, append-nil, length-append, false, cond, Option, Some, None, option_map}
use Rattle.std.specs.Prelude.{nat_lt, find, is_some}
use Rattle.std.specs.Option.{option_map_or}
use Rattle.std.specs.List.{enumerate_from}
use Rattle.std.proofs.lemmas.Bool.{lt-ltb, le-ltb}
use Rattle.std.proofs.lemmas.List.Sums.{fold-append}
use Rattle.hk_base.specs.declared.plain.WireFault.{WireFault}
use Rattle.hk_base.specs.declared.plain.End.{End}
use Rattle.hk_base.specs.declared.plain.End.TheVariants as ends
use Rattle.hk_spec_matching.specs.Catalogue.{Songs}
use Rattle.hk_spec_streams.specs.Pieces.{completed}
use Rattle.hk_spec_streams.specs.Station.{Fence, station_met, fences}
use Rattle.hk_spec_streams.specs.Blocks.{Block, blocks}
use Rattle.hk_spec_streams.proofs.Completed.{completed-more}
use Rattle.hk_spec_settings.specs.Settings.{Rules}
use Rattle.hk_spec_runs.specs.Replay.{Listener, heard, new_blocks}
use Rattle.hk_spec_runs.specs.Listening.{Instant, IfLooked, blocks_gained, lines_gained, looks_gained, after_one, after, lines_for, steps_for, steps_gained, lines_over, looks_over, steps_over, AreKnown, KeepsBlocks, Gives}

pub looked_still : (looks : List ℕ) (P Q : Type 0) → (P → Q) → IfLooked looks P → IfLooked looks Q
looked_still [] P Q f p = tt
looked_still (v ∷ looks) P Q f p = f p

module _ (rules : Rules) where
  pub after-append : (l : Listener) (xs ys : List Instant) → after rules l (xs ++ ys) ≡ after rules (after rules l xs) ys
  after-append l xs ys = fold-append (after_one rules) l xs ys

  lines_over-append : (station : ℕ) (l : Listener) (xs ys : List Instant)
      → lines_over rules station l (xs ++ ys) ≡ lines_over rules station l xs ++ lines_over rules station (after rules l xs) ys
  lines_over-append station l [] ys = refl
  lines_over-append station l (x ∷ xs) ys =
      let here : List ℕ = lines_gained rules station x.version x.songs l x.byte in
      ap (λ rest. here ++ rest) (lines_over-append station (after_one rules l x) xs ys)
      ∙ sym (append_assoc here (lines_over rules station (after_one rules l x) xs) (lines_over rules station (after rules (after_one rules l x) xs) ys))

  pub looks_over-append : (l : Listener) (xs ys : List Instant) → looks_over rules l (xs ++ ys) ≡ looks_over rules l xs ++ looks_over rules (after rules l xs) ys
  looks_over-append l [] ys = refl
  looks_over-append l (x ∷ xs) ys =
      let here : List ℕ = looks_gained rules x.version l x.byte in
      ap (λ rest. here ++ rest) (looks_over-append (after_one rules l x) xs ys)
      ∙ sym (append_assoc here (looks_over rules (after_one rules l x) xs) (looks_over rules (after rules (after_one rules l x) xs) ys))

  steps_over-append : (positions : ℕ) (l : Listener) (xs ys : List Instant)
      → steps_over rules positions l (xs ++ ys) ≡ steps_over rules positions l xs + steps_over rules positions (after rules l xs) ys
  steps_over-append positions l [] ys = omega arith
  steps_over-append positions l (x ∷ xs) ys =
      let rest : steps_over rules positions (after_one rules l x) (xs ++ ys) ≡ steps_over rules positions (after_one rules l x) xs + steps_over rules positions (after rules (after_one rules l x) xs) ys =
      steps_over-append positions (after_one rules l x) xs ys in
      omega (arith, rest)

  -- the instants before are still known, and those behind are
  AreKnown-append : (l : Listener) (xs ys : List Instant) (before now : ℕ → Option Songs) → ((v : ℕ) (songs : Songs) → before v ≡ Some songs → now v ≡ Some songs)
      → AreKnown rules l xs before → AreKnown rules (after rules l xs) ys now → AreKnown rules l (xs ++ ys) now
  AreKnown-append l [] ys before now keeps first second = second
  AreKnown-append l (x ∷ xs) ys before now keeps first second = (
    looked_still (looks_gained rules x.version l x.byte) (before x.version ≡ Some x.songs) (now x.version ≡ Some x.songs) (keeps x.version x.songs) first.0,
    AreKnown-append (after_one rules l x) xs ys before now keeps first.1 second,
  )

  KeepsBlocks-append : (l : Listener) (xs ys : List Instant) → KeepsBlocks rules l xs → KeepsBlocks rules (after rules l xs) ys → KeepsBlocks rules l (xs ++ ys)
  KeepsBlocks-append l [] ys first second = second
  KeepsBlocks-append l (x ∷ xs) ys first second = (first.0, KeepsBlocks-append (after_one rules l x) xs ys first.1 second)

  pub Gives-nothing : (station positions : ℕ) (l : Listener) (past : ℕ → Option Songs) → Gives rules station positions l [] [] [] 0 past
  Gives-nothing station positions l past = record { lines = refl; looks = refl; costs = refl; known = tt; blocks_stay = tt }

  -- what the instants give, and then what further ones give
  pub Gives-append : (station positions : ℕ) (l : Listener) (xs ys : List Instant) (t u a b : List ℕ) (m n : ℕ) (before now : ℕ → Option Songs)
      → ((v : ℕ) (songs : Songs) → before v ≡ Some songs → now v ≡ Some songs)
      → Gives rules station positions l xs t a m before → Gives rules station positions (after rules l xs) ys u b n now
      → Gives rules station positions l (xs ++ ys) (t ++ u) (a ++ b) (m + n) now
  Gives-append station positions l xs ys t u a b m n before now keeps first second = record {
    lines = ap (λ text. text ++ u) first.lines ∙ ap (λ more. lines_over rules station l xs ++ more) second.lines ∙ sym (lines_over-append station l xs ys);
    looks = ap (λ looks. looks ++ b) first.looks ∙ ap (λ more. looks_over rules l xs ++ more) second.looks ∙ sym (looks_over-append l xs ys);
    costs = ap (λ k. k + n) first.costs ∙ ap (λ k. steps_over rules positions l xs + k) second.costs ∙ sym (steps_over-append positions l xs ys);
    known = AreKnown-append l xs ys before now keeps first.known second.known;
    blocks_stay = KeepsBlocks-append l xs ys first.blocks_stay second.blocks_stay;
  }

  -- what one instant gives, by the blocks that it completes
  pub Gives-one : (station positions : ℕ) (l : Listener) (i : Instant) (numbered : List (ℕ × Block)) (answers : List ℕ) (past : ℕ → Option Songs) (more : List Block)
      → blocks_gained rules i.version l i.byte ≡ numbered → answers ≡ looks_gained rules i.version l i.byte
      → IfLooked answers (past i.version ≡ Some i.songs) → blocks rules.setting (after_one rules l i).used ≡ blocks rules.setting l.used ++ more
      → Gives rules station positions l (i ∷ []) (lines_for station i.version i.songs numbered) answers (steps_for positions i.songs numbered) past
  Gives-one station positions l i numbered answers past more gained looks known stay = record {
    lines = sym (append-nil (lines_gained rules station i.version i.songs l i.byte) ∙ ap (lines_for station i.version i.songs) gained);
    looks = looks ∙ sym (append-nil (looks_gained rules i.version l i.byte));
    costs = let same : steps_gained rules positions i.version i.songs l i.byte ≡ steps_for positions i.songs numbered = ap (steps_for positions i.songs) gained in omega (arith, same);
    known = (subst (λ versions. IfLooked versions (past i.version ≡ Some i.songs)) looks known, tt);
    blocks_stay = ((more, stay), tt);
  }

  -- a byte that completes nothing, as the bytes used stay
  unused : (station positions : ℕ) (l now : Listener) (i : Instant) (past : ℕ → Option Songs) → after_one rules l i ≡ now → now.used ≡ l.used
      → looks_gained rules i.version l i.byte ≡ [] → Gives rules station positions l (i ∷ []) [] [] 0 past
  unused station positions l now i past is same none =
      let not_longer : nat_lt (length l.used) (length now.used) ≡ false = ap (λ used. nat_lt (length l.used) (length used)) same ∙ le-ltb (length l.used) (length l.used) (omega arith) in
      Gives-one station positions l i [] [] past []
      (ap (new_blocks rules l) is ∙ ap (λ c. cond c (enumerate_from (length (blocks rules.setting l.used)) (completed (blocks rules.setting) now.used)) []) not_longer)
      (sym none) tt (ap (λ (m : Listener). blocks rules.setting m.used) is ∙ ap (blocks rules.setting) same ∙ sym (append-nil (blocks rules.setting l.used)))

  -- a listener that is over
  module _ (l : Listener) (i : Instant) (end : End) (over : l.end ≡ Some end) where
    pub next_over : after_one rules l i ≡ l
    next_over = ap (λ e. cond (is_some e) l (heard rules i.version l i.byte)) over

    pub Gives-over : (station positions : ℕ) (past : ℕ → Option Songs) → Gives rules station positions l (i ∷ []) [] [] 0 past
    Gives-over station positions past = unused station positions l l i past next_over refl
        (ap (λ e. cond (is_some e) [] (cond (is_some (station_met rules.bytes (l.used ++ i.byte ∷ []))) []
        (map (λ block. i.version) (completed (blocks rules.setting) (l.used ++ i.byte ∷ [])) ++ map (λ fence. i.version) (completed fences (l.used ++ i.byte ∷ []))))) over)

  -- one that goes on, and a byte that meets a fault
  module _ (l : Listener) (i : Instant) (going : l.end ≡ None) (fault : WireFault) (met : station_met rules.bytes (l.used ++ i.byte ∷ []) ≡ Some fault) where
    pub next_fault : after_one rules l i ≡ record l { end = Some (ends.Wire fault) }
    next_fault =
        let t : List ℕ = l.used ++ i.byte ∷ [] in
        let asked : List ℕ = map (λ fence. fence.asked) (completed fences t) in
        let heard_as : Option WireFault → Listener = λ o.
        option_map_or (λ fault. record l { end = Some (ends.Wire fault) }) o (record {
          used = t;
          version = cond (nat_lt 0 (length (completed (blocks rules.setting) t) + length asked)) i.version l.version;
          end = option_map (λ a. ends.FenceAhead a i.version) (find (λ a. nat_lt i.version a) asked);
        }) in
        ap (λ e. cond (is_some e) l (heard rules i.version l i.byte)) going ∙ ap heard_as met

    pub Gives-fault : (station positions : ℕ) (past : ℕ → Option Songs) → Gives rules station positions l (i ∷ []) [] [] 0 past
    Gives-fault station positions past =
        let rest : List ℕ = map (λ block. i.version) (completed (blocks rules.setting) (l.used ++ i.byte ∷ [])) ++ map (λ fence. i.version) (completed fences (l.used ++ i.byte ∷ [])) in
        unused station positions l (record l { end = Some (ends.Wire fault) }) i past next_fault refl
        (ap (λ e. cond (is_some e) [] (cond (is_some (station_met rules.bytes (l.used ++ i.byte ∷ []))) [] rest)) going ∙ ap (λ o. cond (is_some o) [] rest) met)

  -- one that goes on, and a byte that meets none
  pub next_on : (l : Listener) (i : Instant) → l.end ≡ None → station_met rules.bytes (l.used ++ i.byte ∷ []) ≡ None
      → after_one rules l i ≡ record {
        used = l.used ++ i.byte ∷ [];
        version = cond (nat_lt 0 (length (completed (blocks rules.setting) (l.used ++ i.byte ∷ [])) + length (map (λ (fence : Fence). fence.asked) (completed fences (l.used ++ i.byte ∷ []))))) i.version l.version;
        end = option_map (λ a. ends.FenceAhead a i.version) (find (λ a. nat_lt i.version a) (map (λ (fence : Fence). fence.asked) (completed fences (l.used ++ i.byte ∷ []))));
      }
  next_on l i going met =
      let t : List ℕ = l.used ++ i.byte ∷ [] in
      let asked : List ℕ = map (λ (fence : Fence). fence.asked) (completed fences t) in
      let heard_as : Option WireFault → Listener = λ o.
      option_map_or (λ fault. record l { end = Some (ends.Wire fault) }) o (record {
        used = t;
        version = cond (nat_lt 0 (length (completed (blocks rules.setting) t) + length asked)) i.version l.version;
        end = option_map (λ a. ends.FenceAhead a i.version) (find (λ a. nat_lt i.version a) asked);
      }) in
      ap (λ e. cond (is_some e) l (heard rules i.version l i.byte)) going ∙ ap heard_as met

  -- the same with the blocks and fences that it brings
  module _ (l : Listener) (i : Instant) (going : l.end ≡ None) (met : station_met rules.bytes (l.used ++ i.byte ∷ []) ≡ None) (more : List Block) (further : List Fence)
      (more_blocks : blocks rules.setting (l.used ++ i.byte ∷ []) ≡ blocks rules.setting l.used ++ more)
      (more_fences : fences (l.used ++ i.byte ∷ []) ≡ fences l.used ++ further) where
    blocks_completed : completed (blocks rules.setting) (l.used ++ i.byte ∷ []) ≡ more
    blocks_completed = completed-more (blocks rules.setting) l.used i.byte more more_blocks

    fences_completed : completed fences (l.used ++ i.byte ∷ []) ≡ further
    fences_completed = completed-more fences l.used i.byte further more_fences

    -- the listener after the byte
    abbrev pub goes : Listener
    goes = record {
      used = l.used ++ i.byte ∷ [];
      version = cond (nat_lt 0 (length more + length (map (λ (fence : Fence). fence.asked) further))) i.version l.version;
      end = option_map (λ a. ends.FenceAhead a i.version) (find (λ a. nat_lt i.version a) (map (λ (fence : Fence). fence.asked) further));
    }

    pub next_goes : after_one rules l i ≡ goes
    next_goes =
        let by : List Fence → List Block → Listener = λ fs bs. record {
          used = l.used ++ i.byte ∷ [];
          version = cond (nat_lt 0 (length bs + length (map (λ (fence : Fence). fence.asked) fs))) i.version l.version;
          end = option_map (λ a. ends.FenceAhead a i.version) (find (λ a. nat_lt i.version a) (map (λ (fence : Fence). fence.asked) fs));
        } in
        next_on l i going met
        ∙ ap (λ fs. by fs (completed (blocks rules.setting) (l.used ++ i.byte ∷ []))) fences_completed
        ∙ ap (by further) blocks_completed

    pub blocks_goes : blocks_gained rules i.version l i.byte ≡ enumerate_from (length (blocks rules.setting l.used)) more
    blocks_goes =
        let long : length (l.used ++ i.byte ∷ []) ≡ length l.used + 1 = length-append l.used (i.byte ∷ []) in
        let numbered : List (ℕ × Block) = enumerate_from (length (blocks rules.setting l.used)) (completed (blocks rules.setting) (l.used ++ i.byte ∷ [])) in
        ap (new_blocks rules l) next_goes
        ∙ ap (λ c. cond c numbered []) (lt-ltb (length l.used) (length (l.used ++ i.byte ∷ [])) (omega (arith, long)))
        ∙ ap (enumerate_from (length (blocks rules.setting l.used))) blocks_completed

    pub looks_goes : looks_gained rules i.version l i.byte ≡ map (λ block. i.version) more ++ map (λ fence. i.version) further
    looks_goes =
        let rest : List ℕ = map (λ block. i.version) (completed (blocks rules.setting) (l.used ++ i.byte ∷ [])) ++ map (λ fence. i.version) (completed fences (l.used ++ i.byte ∷ [])) in
        ap (λ e. cond (is_some e) [] (cond (is_some (station_met rules.bytes (l.used ++ i.byte ∷ []))) [] rest)) going
        ∙ ap (λ o. cond (is_some o) [] rest) met
        ∙ ap (λ bs. map (λ block. i.version) bs ++ map (λ fence. i.version) (completed fences (l.used ++ i.byte ∷ []))) blocks_completed
        ∙ ap (λ fs. map (λ block. i.version) more ++ map (λ fence. i.version) fs) fences_completed

    -- what it gives, where the past tells the songs of a look
    pub Gives-goes : (station positions : ℕ) (past : ℕ → Option Songs)
        → IfLooked (map (λ block. i.version) more ++ map (λ fence. i.version) further) (past i.version ≡ Some i.songs)
        → Gives rules station positions l (i ∷ []) (lines_for station i.version i.songs (enumerate_from (length (blocks rules.setting l.used)) more))
        (map (λ block. i.version) more ++ map (λ fence. i.version) further) (steps_for positions i.songs (enumerate_from (length (blocks rules.setting l.used)) more)) past
    Gives-goes station positions past known = Gives-one station positions l i (enumerate_from (length (blocks rules.setting l.used)) more)
        (map (λ block. i.version) more ++ map (λ fence. i.version) further) past more
        blocks_goes (sym looks_goes) known (ap (λ (m : Listener). blocks rules.setting m.used) next_goes ∙ more_blocks)
