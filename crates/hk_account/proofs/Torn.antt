-- What a station's instants add up to where a line was torn at the last of them.
use Rattle.std.proofs.Common.{◌≡◌, ◌<◌, ℕ, zero, suc, ◌+◌, true, false, cond, Option, Some, None, List, [], ◌∷◌, ◌++◌, map, length, slice_get, refl, sym, ◌∙◌, ap, subst, arith, append-nil, append_assoc, length-append, inl, inr}
use Rattle.std.specs.Prelude.{is_some, unwrap_or}
use Rattle.std.specs.List.{enumerate_from, last_or}
use Rattle.std.proofs.lemmas.Option.{slice_get_within}
use Rattle.hk_base.specs.declared.plain.WireFault.{WireFault}
use Rattle.hk_base.specs.declared.plain.End.TheVariants as ends
use Rattle.hk_spec_streams.specs.Pieces.{completed}
use Rattle.hk_spec_streams.specs.Station.{Fence, fences, station_met, station_fault, station_seen}
use Rattle.hk_spec_streams.specs.Blocks.{Block, Moment, Full, Asks, blocks, moments, moments_at}
use Rattle.hk_spec_streams.proofs.Completed.{completed-more}
use Rattle.hk_spec_streams.proofs.NextFault.{seen_of-all, fault_of-none, fault_of-some, fault_of-stays}
use Rattle.hk_spec_streams.proofs.Optional.{none_or_some}
use Rattle.hk_spec_matching.specs.Catalogue.{Songs, Rise}
use Rattle.hk_spec_matching.specs.Matching.{matches}
use Rattle.hk_spec_matching.proofs.Rising.{Rise-split}
use Rattle.hk_spec_settings.specs.Settings.{Rules}
use Rattle.hk_spec_lines.specs.Lines.{printed_text}
use Rattle.hk_spec_runs.specs.History.{Reported}
use Rattle.hk_spec_runs.specs.Replay.{Listener, lines_at, report_in}
use Rattle.hk_spec_runs.specs.Listening.{Instant, bytes_in, unheard, after, looks_over, versions_over, songs_in}
use Rattle.hk_spec_monitor.specs.Looks.{versions_of_blocks, AreMet, last_version, until_block}
use Rattle.hk_spec_monitor.specs.Run.{Heard, IsTorn, HasLines, reported_line, versions_of, blocks_heard, moments_heard}
use Rattle.hk_spec_monitor.proofs.Logs.{lines_are_log}
use Rattle.hk_account.specs.Account.{reported_of}
use Rattle.hk_account.specs.Torn.{torn_of, TornAccountSinceStart}
use Rattle.hk_account.proofs.Course.{Course, course}
use Rattle.hk_account.proofs.Steps.{was_ahead}
use Rattle.hk_account.proofs.Sums.{Sum, sum}
use Rattle.hk_account.proofs.Accounts.{no_moments, length-reported, versions-reported, lists-reported, rise_last, last_is}
use Rattle.hk_station_wire.proofs.Growth.{blocks_grow}
use Rattle.hk_account.proofs.Moments.{moments-append, moments_grow}

-- a moment whose look was made, behind others with one each
module _ (block : Block) (more : List Moment) where
  until_here : (ms : List Moment) (looks : List ℕ) → length looks ≡ length ms
      → until_block (length (versions_of_blocks ms looks)) (ms ++ Full block ∷ more) ≡ ms ++ Full block ∷ []
  until_here [] [] same = refl
  until_here [] (v ∷ looks) same = absurd (omega (arith, same))
  until_here (m ∷ ms) [] same = absurd (omega (arith, same))
  until_here (Full b ∷ ms) (v ∷ looks) same = ap (λ rest. Full b ∷ rest) (until_here ms looks (omega (arith, same)))
  until_here (Asks a ∷ ms) (v ∷ looks) same = ap (λ rest. Asks a ∷ rest) (until_here ms looks (omega (arith, same)))

  no_look : (ms : List Moment) → versions_of_blocks ms [] ≡ []
  no_look [] = refl
  no_look (m ∷ ms) = refl

  none_met : (ms : List Moment) → AreMet ms []
  none_met [] = tt
  none_met (m ∷ ms) = tt

  versions_here : (v : ℕ) (ms : List Moment) (looks : List ℕ) → length looks ≡ length ms
      → versions_of_blocks (ms ++ Full block ∷ more) (looks ++ v ∷ []) ≡ versions_of_blocks ms looks ++ v ∷ []
  versions_here v [] [] same = ap (λ vs. v ∷ vs) (no_look more)
  versions_here v [] (w ∷ looks) same = absurd (omega (arith, same))
  versions_here v (m ∷ ms) [] same = absurd (omega (arith, same))
  versions_here v (Full b ∷ ms) (w ∷ looks) same = ap (λ vs. w ∷ vs) (versions_here v ms looks (omega (arith, same)))
  versions_here v (Asks a ∷ ms) (w ∷ looks) same = versions_here v ms looks (omega (arith, same))

  met_here : (v : ℕ) (ms : List Moment) (looks : List ℕ) → length looks ≡ length ms → AreMet ms looks → AreMet (ms ++ Full block ∷ more) (looks ++ v ∷ [])
  met_here v [] [] same met = none_met more
  met_here v [] (w ∷ looks) same met = absurd (omega (arith, same))
  met_here v (m ∷ ms) [] same met = absurd (omega (arith, same))
  met_here v (Full b ∷ ms) (w ∷ looks) same met = met_here v ms looks (omega (arith, same)) met
  met_here v (Asks a ∷ ms) (w ∷ looks) same met = (met.0, met_here v ms looks (omega (arith, same)) met.1)

last_of_all : (o : Option ℕ) (looks : List ℕ) (v : ℕ) → last_or o (looks ++ v ∷ []) ≡ Some v
last_of_all o [] v = refl
last_of_all o (w ∷ looks) v = last_of_all (Some w) looks v

last_here : (looks : List ℕ) (v : ℕ) → last_version (looks ++ v ∷ []) ≡ v
last_here looks v = ap (λ o. unwrap_or o 0) (last_of_all None looks v)

-- lines for the first of some blocks
first_lines : (songs : ℕ → Songs) (station k : ℕ) (bs more : List Block) (vs : List ℕ) → length vs ≡ length bs
    → lines_at station songs (enumerate_from k (bs ++ more)) vs ≡ lines_at station songs (enumerate_from k bs) vs
first_lines songs station k [] [] [] same = refl
first_lines songs station k [] (b ∷ more) [] same = refl
first_lines songs station k [] more (v ∷ vs) same = absurd (omega (arith, same))
first_lines songs station k (b ∷ bs) more [] same = absurd (omega (arith, same))
first_lines songs station k (b ∷ bs) more (v ∷ vs) same =
    ap (λ rest. printed_text (report_in station v (songs v) (k, b)) ++ rest) (first_lines songs station (k + 1) bs more vs (omega (arith, same)))

get_seam : {A : Type 0} (xs : List A) (y : A) (ys : List A) (n : ℕ) → n ≡ length xs → slice_get (xs ++ y ∷ ys) n ≡ Some y
get_seam [] y ys zero is = refl
get_seam [] y ys (suc n) is = absurd (omega (arith, is))
get_seam (x ∷ xs) y ys zero is = absurd (omega (arith, is))
get_seam (x ∷ xs) y ys (suc n) is = get_seam xs y ys n (omega (arith, is))

get_front : {A : Type 0} (xs ys : List A) (n : ℕ) → n < length xs → slice_get (xs ++ ys) n ≡ slice_get xs n
get_front [] ys n inside = absurd (omega (arith, inside))
get_front (x ∷ xs) ys zero inside = refl
get_front (x ∷ xs) ys (suc n) inside = get_front xs ys n (omega (arith, inside))

-- what is seen behind a fault, and behind bytes without one
seen_no_more : (limit : ℕ) (text rest : List ℕ) (fault : WireFault) → station_fault limit text ≡ Some fault → station_seen limit (text ++ rest) ≡ station_seen limit text
seen_no_more limit text [] fault is = ap (station_seen limit) (append-nil text)
seen_no_more limit text (b ∷ rest) fault is =
    let next = fault_of-stays (station_met limit) text b fault is in
    ap (station_seen limit) (sym (append_assoc text (b ∷ []) rest)) ∙ seen_no_more limit (text ++ b ∷ []) rest fault next.0 ∙ next.1

seen_behind : (limit : ℕ) (text rest : List ℕ) → station_fault limit text ≡ None → (more : List ℕ) × (station_seen limit (text ++ rest) ≡ text ++ more)
seen_behind limit text [] none = ([], ap (station_seen limit) (append-nil text) ∙ seen_of-all (station_met limit) text none ∙ sym (append-nil text))
seen_behind limit text (b ∷ rest) none = elim (none_or_some (station_met limit (text ++ b ∷ []))) [
  | inl fine ↦
      let later = seen_behind limit (text ++ b ∷ []) rest (fault_of-none (station_met limit) text b none fine) in
      (b ∷ later.0, ap (station_seen limit) (sym (append_assoc text (b ∷ []) rest)) ∙ later.1 ∙ append_assoc text (b ∷ []) later.0)
  | inr fault ↦
      let now = fault_of-some (station_met limit) text b fault.0 none fault.1 in
      ([], ap (station_seen limit) (sym (append_assoc text (b ∷ []) rest)) ∙ seen_no_more limit (text ++ b ∷ []) rest fault.0 now.0 ∙ now.1 ∙ sym (append-nil text))
]

-- a look of one block and of no fence
no_fence : (v : ℕ) (block : Block) (bs : List Block) (fs : List Fence) → bs ≡ block ∷ [] → map (λ block. v) bs ++ map (λ fence. v) fs ≡ v ∷ [] → fs ≡ []
no_fence v block bs [] one looks = refl
no_fence v block bs (f ∷ fs) one looks =
    let two : suc (suc (length (map (λ fence. v) fs))) ≡ 1 = ap length (ap (λ xs. map (λ block. v) xs ++ map (λ fence. v) (f ∷ fs)) (sym one) ∙ looks) in
    absurd (omega (arith, two))

module _ (rules : Rules) where
  -- where a look is made, the listener goes on, and the byte meets no fault
  looked : (l : Listener) (i : Instant) (rest : List ℕ) (v : ℕ) → cond (is_some l.end) [] (cond (is_some (station_met rules.bytes (l.used ++ i.byte ∷ []))) [] rest) ≡ v ∷ []
      → (l.end ≡ None) × (station_met rules.bytes (l.used ++ i.byte ∷ []) ≡ None) × (rest ≡ v ∷ [])
  looked l i rest v is = by_both l.end (station_met rules.bytes (l.used ++ i.byte ∷ [])) is
    where
      by_both : {A B : Type 0} (o : Option A) (m : Option B) → cond (is_some o) [] (cond (is_some m) [] rest) ≡ v ∷ [] → (o ≡ None) × (m ≡ None) × (rest ≡ v ∷ [])
      by_both None None is = (refl, refl, is)
      by_both None (Some x) is = absurd (let none : [] ≡ v ∷ [] = is in cc)
      by_both (Some x) m is = absurd (let none : [] ≡ v ∷ [] = is in cc)

  -- the law
  pub torn_account_since_start : TornAccountSinceStart rules
  torn_account_since_start station room to instants text past torn line steps behind front missing some full rise log one known is proper =
      let l : Listener = after rules unheard instants in
      let h : Heard = torn_of rules instants torn behind past front in
      let v : ℕ = torn.version in
      let bs : List Block = blocks rules.setting l.used in
      let vs : List ℕ = versions_over rules unheard instants in
      let looks : List ℕ = looks_over rules unheard instants in
      let longer : List ℕ = l.used ++ torn.byte ∷ [] in
      let made = looked l torn (map (λ block. v) (completed (blocks rules.setting) longer) ++ map (λ fence. v) (completed fences longer)) v one.looks in
      let split = Rise-split 0 to looks (v ∷ []) rise in
      let came : Course rules l (bytes_in instants) = course rules instants split.0 split.1 in
      let going = came.going made.0 in
      let fine : station_fault rules.bytes longer ≡ None = fault_of-none (station_met rules.bytes) l.used torn.byte (ap (station_fault rules.bytes) going.0 ∙ going.1) made.1 in
      let seen = seen_behind rules.bytes longer behind fine in
      let used : station_seen rules.bytes (bytes_in instants ++ torn.byte ∷ behind) ≡ longer ++ seen.0 =
      ap (λ t. station_seen rules.bytes (t ++ torn.byte ∷ behind)) (sym going.0) ∙ ap (station_seen rules.bytes) (sym (append_assoc l.used (torn.byte ∷ []) behind)) ∙ seen.1 in
      let later_blocks = blocks_grow rules.setting full some longer seen.0 in
      let blocks_are : blocks_heard rules h ≡ bs ++ one.block ∷ later_blocks.0 =
      ap (blocks rules.setting) used ∙ later_blocks.1 ∙ ap (λ xs. xs ++ later_blocks.0) one.blocks_are ∙ append_assoc bs (one.block ∷ []) later_blocks.0 in
      let this_block : completed (blocks rules.setting) longer ≡ one.block ∷ [] = completed-more (blocks rules.setting) l.used torn.byte (one.block ∷ []) one.blocks_are in
      let no_fences : completed fences longer ≡ [] = no_fence v one.block (completed (blocks rules.setting) longer) (completed fences longer) this_block made.2 in
      let here : moments_at rules.setting longer ≡ Full one.block ∷ [] =
      ap (λ xs. map Full xs ++ map (λ (f : Fence). Asks f.asked) (completed fences longer)) this_block ∙ ap (λ fs. Full one.block ∷ map (λ (f : Fence). Asks f.asked) fs) no_fences in
      let sums : Sum rules unheard instants = sum rules unheard instants in
      let later = moments_grow rules.setting longer seen.0 in
      let old_moments : moments rules.setting l.used ≡ sums.new = sums.stay ∙ ap (λ ms. ms ++ sums.new) (no_moments rules.setting) in
      let moments_are : moments_heard rules h ≡ sums.new ++ Full one.block ∷ later.0 =
      ap (moments rules.setting) used ∙ later.1 ∙ ap (λ ms. ms ++ later.0) (moments-append rules.setting l.used torn.byte ∙ ap (λ ms. moments rules.setting l.used ++ ms) here ∙ ap (λ ms. ms ++ Full one.block ∷ []) old_moments)
      ∙ append_assoc sums.new (Full one.block ∷ []) later.0 in
      let reported : List Reported = reported_of past bs vs in
      let many : length reported ≡ length bs = length-reported past bs vs log.one_each in
      let versions : versions_of reported ≡ vs = versions-reported past bs vs log.one_each in
      let last : last_version (looks ++ v ∷ []) ≡ v = last_here looks v in
      let songs : songs_in past v ≡ torn.songs = ap (λ o. unwrap_or o []) known in
      let is_torn : IsTorn rules (songs_in past) station h = record {
        block = one.block;
        missing = missing;
        next = ap (λ xs. slice_get xs (length reported)) blocks_are ∙ get_seam bs one.block later_blocks.0 (length reported) many;
        looks =
            let until : until_block (length reported) (moments_heard rules h) ≡ sums.new ++ Full one.block ∷ [] =
            ap (until_block (length reported)) moments_are
            ∙ ap (λ n. until_block n (sums.new ++ Full one.block ∷ later.0)) (many ∙ sym log.one_each ∙ ap length (sym sums.blocks))
            ∙ until_here one.block later.0 sums.new looks sums.as_many in
            let left : length (looks ++ v ∷ []) ≡ length looks + 1 = length-append looks (v ∷ []) in
            let right : length (sums.new ++ Full one.block ∷ []) ≡ length sums.new + 1 = length-append sums.new (Full one.block ∷ []) in
            left ∙ ap (λ n. n + 1) sums.as_many ∙ sym (ap length until ∙ right);
        versions = ap (λ ms. versions_of_blocks ms (looks ++ v ∷ [])) moments_are ∙ versions_here one.block later.0 v sums.new looks sums.as_many
            ∙ ap (λ ws. ws ++ v ∷ []) (sums.blocks ∙ sym versions) ∙ ap (λ w. versions_of reported ++ w ∷ []) (sym last);
        line = ap (λ w. printed_text (reported_line station (length reported, one.block) (record { version = w; list = matches one.block.query (songs_in past w) }))) last
            ∙ ap (λ n. printed_text (reported_line station (n, one.block) (record { version = v; list = matches one.block.query (songs_in past v) }))) many
            ∙ ap (λ (at : Songs). printed_text (reported_line station (length bs, one.block) (record { version = v; list = matches one.block.query at }))) songs
            ∙ sym one.report ∙ is;
        proper = proper;
      } in
      let lines : HasLines rules (songs_in past) station h = record {
        lists = λ n block r at_block at_line.
            let inside : n < length reported = slice_get_within reported n r at_line in
            lists-reported past bs vs n block r
            (sym (ap (λ xs. slice_get xs n) blocks_are ∙ get_front bs (one.block ∷ later_blocks.0) n (omega (arith, inside, many))) ∙ at_block) at_line;
        never_fall = subst (Rise 0 (looks ++ v ∷ [])) (last_is (looks ++ v ∷ [])) (rise_last 0 to (looks ++ v ∷ []) rise);
        all = λ whole. absurd (let no : true ≡ false = whole in cc);
        whole = λ whole. absurd (let no : true ≡ false = whole in cc);
        looks = λ whole. absurd (let no : true ≡ false = whole in cc);
        versions = λ whole. absurd (let no : true ≡ false = whole in cc);
        torn = λ torn. is_torn;
      } in
      record {
        lines = lines;
        log = ap (λ t. t ++ front) (log.log ∙ ap (λ ws. lines_at station (songs_in past) (enumerate_from 0 bs) ws) (sym versions)
            ∙ sym (first_lines (songs_in past) station 0 bs (one.block ∷ later_blocks.0) (versions_of reported) (ap length versions ∙ log.one_each))
            ∙ ap (λ xs. lines_at station (songs_in past) (enumerate_from 0 xs) (versions_of reported)) (sym blocks_are)
            ∙ sym (lines_are_log rules (songs_in past) station h lines));
        fences = λ isnt. subst (λ ms. AreMet ms (looks ++ v ∷ [])) (sym moments_are)
            (met_here one.block later.0 v sums.new looks sums.as_many (sums.met (ap was_ahead made.0)));
        ahead = λ asked found same. absurd (let no : ends.SinkFault ≡ ends.FenceAhead asked found = same in cc);
        version = sym last;
        count = many;
      }
