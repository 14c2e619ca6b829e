-- What a station's instants add up to.
use Rattle.std.proofs.Common.{◌≡◌, ◌≤◌, ℕ, zero, suc, Bool, true, false, cond, Option, Some, None, List, [], ◌∷◌, ◌++◌, length, slice_get, refl, sym, ◌∙◌, ap, subst, arith, append-nil, inl, inr}
use Rattle.std.specs.Prelude.{unwrap_or}
use Rattle.std.specs.Option.{option_map_or}
use Rattle.std.specs.List.{enumerate_from}
use Rattle.hk_base.specs.declared.plain.WireFault.{WireFault}
use Rattle.hk_base.specs.declared.plain.End.{End}
use Rattle.hk_base.specs.declared.plain.End.TheVariants as ends
use Rattle.hk_spec_streams.specs.Station.{Fence, station_used, station_wrong}
use Rattle.hk_spec_streams.specs.Blocks.{Setting, Block, Asks, blocks, moments}
use Rattle.hk_spec_matching.specs.Catalogue.{Songs, Rise}
use Rattle.hk_spec_matching.specs.Matching.{matches}
use Rattle.hk_spec_settings.specs.Settings.{Rules}
use Rattle.hk_spec_runs.specs.History.{Reported}
use Rattle.hk_spec_runs.specs.Replay.{Listener, lines_at}
use Rattle.hk_spec_runs.specs.Listening.{Instant, bytes_in, unheard, after, looks_over, versions_over, songs_in, IsLogOf, UsesOf}
use Rattle.hk_spec_runs.proofs.Logs.{writes_log}
use Rattle.hk_station_wire.proofs.GrowingFences.{fence_in, fences_completed}
use Rattle.hk_station_wire.specs.LastPacket.{last_packet}
use Rattle.hk_spec_monitor.specs.Looks.{versions_of_blocks, AreMet, last_version}
use Rattle.hk_spec_monitor.specs.Run.{Heard, HasLines, lines_text, versions_of, blocks_heard, moments_heard, is_torn}
use Rattle.hk_spec_monitor.specs.Fences.{is_ahead, IsAhead}
use Rattle.hk_spec_monitor.proofs.Legal.{some_of}
use Rattle.hk_spec_monitor.proofs.Logs.{past_end, lines_are_log}
use Rattle.hk_account.specs.Account.{reported_of, heard_of, ComesTo, AccountSinceStart}
use Rattle.hk_account.proofs.Course.{Course, IsOwn, course}
use Rattle.hk_account.proofs.Steps.{was_ahead, version_after}
use Rattle.hk_account.proofs.Sums.{Sum, Ahead, OneFence, sum, ahead}

-- at most one fence is complete with a byte
one_fence : OneFence
one_fence text b = subst (λ fs. length fs ≤ 1) (sym (fences_completed text b)) (few (length text) (last_packet (text ++ b ∷ [])))
  where
    at_most : (c : Bool) (fence : Fence) → length (cond c (fence ∷ []) []) ≤ 1
    at_most true fence = omega arith
    at_most false fence = omega arith

    few : (place : ℕ) (packet : List ℕ) → length (fence_in place packet) ≤ 1
    few place packet = at_most _ _

pub no_moments : (s : Setting) → moments s [] ≡ []
unfolding moments
no_moments s = refl

-- the reports of blocks at versions, one for each
module _ (past : ℕ → Option Songs) where
  pub length-reported : (bs : List Block) (vs : List ℕ) → length vs ≡ length bs → length (reported_of past bs vs) ≡ length bs
  length-reported [] vs same = refl
  length-reported (b ∷ bs) [] same = absurd (omega (arith, same))
  length-reported (b ∷ bs) (v ∷ vs) same = ap suc (length-reported bs vs (omega (arith, same)))

  pub versions-reported : (bs : List Block) (vs : List ℕ) → length vs ≡ length bs → versions_of (reported_of past bs vs) ≡ vs
  versions-reported [] [] same = refl
  versions-reported [] (v ∷ vs) same = absurd (omega (arith, same))
  versions-reported (b ∷ bs) [] same = absurd (omega (arith, same))
  versions-reported (b ∷ bs) (v ∷ vs) same = ap (λ ws. v ∷ ws) (versions-reported bs vs (omega (arith, same)))

  pub lists-reported : (bs : List Block) (vs : List ℕ) (n : ℕ) (block : Block) (r : Reported) → slice_get bs n ≡ Some block → slice_get (reported_of past bs vs) n ≡ Some r
      → r.list ≡ matches block.query (songs_in past r.version)
  lists-reported [] vs n block r at_block at_line = past_end block (r.list ≡ matches block.query (songs_in past r.version)) at_block
  lists-reported (b ∷ bs) [] n block r at_block at_line = past_end r (r.list ≡ matches block.query (songs_in past r.version)) at_line
  lists-reported (b ∷ bs) (v ∷ vs) zero block r at_block at_line =
      let one : Reported = record { version = v; list = matches b.query (songs_in past v) } in
      subst (λ (x : Reported). x.list ≡ matches block.query (songs_in past x.version)) (some_of one r at_line)
      (ap (λ x. matches x.query (songs_in past v)) (some_of b block at_block))
  lists-reported (b ∷ bs) (v ∷ vs) (suc n) block r at_block at_line = lists-reported bs vs n block r at_block at_line

-- looks that don't fall end at the last one
pub rise_last : (from to : ℕ) (looks : List ℕ) → Rise from looks to → Rise from looks (version_after from looks)
rise_last from to [] rise = omega arith
rise_last from to (v ∷ looks) rise = (rise.0, rise_last v to looks rise.1)

pub last_is : (looks : List ℕ) → version_after 0 looks ≡ last_version looks
last_is [] = refl
last_is (v ∷ looks) = refl

module _ (rules : Rules) where
  -- an end that comes from outside, or from the bytes' end, is no fence's
  pub record IsEnd (l : Listener) (bytes : List ℕ) (end : End) : Type 0 where
    used : station_used rules.bytes end bytes ≡ l.used
    whole : is_torn end ≡ false
    fence : is_ahead end ≡ false → was_ahead l.end ≡ false
    own : (asked found : ℕ) → end ≡ ends.FenceAhead asked found → l.end ≡ Some (ends.FenceAhead asked found)

  by_wire : (o : Option WireFault) → (is_torn (option_map_or (λ fault. ends.Wire fault) o ends.Ended) ≡ false) × (is_ahead (option_map_or (λ fault. ends.Wire fault) o ends.Ended) ≡ false)
  by_wire None = (refl, refl)
  by_wire (Some fault) = (refl, refl)

  not_both : {P : Type 0} (end : End) (asked found : ℕ) → is_ahead end ≡ false → end ≡ ends.FenceAhead asked found → P
  not_both end asked found isnt is = absurd (let no : true ≡ false = sym (ap is_ahead is) ∙ isnt in cc)

  own_whole : (end : End) → IsOwn end → is_torn end ≡ false
  own_whole (ends.Wire fault) own = refl
  own_whole (ends.FenceAhead asked found) own = refl
  own_whole ends.Ended own = absurd own
  own_whole ends.ReadFault own = absurd own
  own_whole ends.SinkFault own = absurd own
  own_whole ends.GateFault own = absurd own

  pub ends_so : (l : Listener) (bytes : List ℕ) (end : End) → Course rules l bytes → UsesOf rules l bytes → ComesTo rules l end → IsEnd l bytes end
  ends_so l bytes end course uses (inl own) = record {
    used = sym (uses.used ∙ ap (λ o. station_used rules.bytes (unwrap_or o (option_map_or (λ fault. ends.Wire fault) (station_wrong rules.bytes l.used) ends.Ended)) bytes) own);
    whole = own_whole end (course.own end own);
    fence = λ isnt. ap was_ahead own ∙ isnt;
    own = λ asked found is. own ∙ ap (λ e. Some e) is;
  }
  ends_so l bytes end course uses (inr (inl at_end)) =
      let wrong : Option WireFault = station_wrong rules.bytes l.used in
      let is : end ≡ option_map_or (λ fault. ends.Wire fault) wrong ends.Ended = at_end.1 ∙ ap (λ o. unwrap_or o (option_map_or (λ fault. ends.Wire fault) wrong ends.Ended)) at_end.0 in
      record {
        used = sym (uses.used ∙ ap (λ e. station_used rules.bytes e bytes) (sym at_end.1));
        whole = ap is_torn is ∙ (by_wire wrong).0;
        fence = λ isnt. ap was_ahead at_end.0;
        own = λ asked found same. not_both end asked found (ap is_ahead is ∙ (by_wire wrong).1) same;
      }
  ends_so l bytes end course uses (inr (inr (going, inl read))) = record {
    used = ap (λ e. station_used rules.bytes e bytes) read ∙ sym (uses.going going);
    whole = ap is_torn read;
    fence = λ isnt. ap was_ahead going;
    own = λ asked found same. not_both end asked found (ap is_ahead read) same;
  }
  ends_so l bytes end course uses (inr (inr (going, inr gate))) = record {
    used = ap (λ e. station_used rules.bytes e bytes) gate ∙ sym (uses.going going);
    whole = ap is_torn gate;
    fence = λ isnt. ap was_ahead going;
    own = λ asked found same. not_both end asked found (ap is_ahead gate) same;
  }

  -- a fence that ended the station is the last moment
  pub is_ahead_last : (instants : List Instant) (past : ℕ → Option Songs) (asked found : ℕ) → Course rules (after rules unheard instants) (bytes_in instants)
      → UsesOf rules (after rules unheard instants) (bytes_in instants) → (after rules unheard instants).end ≡ Some (ends.FenceAhead asked found)
      → IsAhead rules asked found (heard_of rules instants past (ends.FenceAhead asked found))
  is_ahead_last instants past asked found came uses ended =
      let is : IsEnd (after rules unheard instants) (bytes_in instants) (ends.FenceAhead asked found) =
      ends_so (after rules unheard instants) (bytes_in instants) (ends.FenceAhead asked found) came uses (inl ended) in
      let last : Ahead rules unheard instants asked found = ahead rules one_fence unheard instants asked found refl ended in
      record {
        less = last.less;
        front = last.front;
        before = last.before;
        moments_are = ap (moments rules.setting) is.used ∙ last.stay ∙ ap (λ front. front ++ (last.front ++ Asks asked ∷ [])) (no_moments rules.setting);
        looks_are = last.looks;
        one_each = last.one_each;
        met = last.met;
      }

  -- the law
  pub account_since_start : AccountSinceStart rules
  account_since_start station positions to instants text answers steps past end some gives rise uses comes =
      let l : Listener = after rules unheard instants in
      let h : Heard = heard_of rules instants past end in
      let bs : List Block = blocks rules.setting l.used in
      let vs : List ℕ = versions_over rules unheard instants in
      let looks : List ℕ = looks_over rules unheard instants in
      let came : Course rules l (bytes_in instants) = course rules instants to (subst (λ ws. Rise 0 ws to) gives.looks rise) in
      let is : IsEnd l (bytes_in instants) end = ends_so l (bytes_in instants) end came uses comes in
      let log : IsLogOf rules station l vs past text = writes_log rules some station positions instants text answers steps past gives in
      let all : Sum rules unheard instants = sum rules unheard instants in
      let same_blocks : blocks_heard rules h ≡ bs = ap (blocks rules.setting) is.used in
      let new : moments rules.setting l.used ≡ all.new = all.stay ∙ ap (λ front. front ++ all.new) (no_moments rules.setting) in
      let same_moments : moments_heard rules h ≡ all.new = ap (moments rules.setting) is.used ∙ new in
      let many : length (reported_of past bs vs) ≡ length bs = length-reported past bs vs log.one_each in
      let versions : versions_of (reported_of past bs vs) ≡ vs = versions-reported past bs vs log.one_each in
      let lines : HasLines rules (songs_in past) station h = record {
        lists = λ n block r at_block at_line. lists-reported past bs vs n block r (subst (λ xs. slice_get xs n ≡ Some block) same_blocks at_block) at_line;
        never_fall = subst (Rise 0 looks) (last_is looks) (rise_last 0 to looks (subst (λ ws. Rise 0 ws to) gives.looks rise));
        all = λ whole. many ∙ ap length (sym same_blocks);
        whole = λ whole. refl;
        looks = λ whole. all.as_many ∙ ap length (sym same_moments);
        versions = λ whole. versions ∙ sym all.blocks ∙ ap (λ ms. versions_of_blocks ms looks) (sym same_moments);
        torn = λ torn. absurd (let no : true ≡ false = sym torn ∙ is.whole in cc);
      } in
      record {
        lines = lines;
        log = log.log ∙ ap (λ ws. lines_at station (songs_in past) (enumerate_from 0 bs) ws) (sym versions)
            ∙ ap (λ xs. lines_at station (songs_in past) (enumerate_from 0 xs) (versions_of (reported_of past bs vs))) (sym same_blocks)
            ∙ sym (lines_are_log rules (songs_in past) station h lines) ∙ sym (append-nil (lines_text rules station h));
        fences = λ isnt. subst (λ ms. AreMet ms looks) (sym same_moments) (all.met (is.fence isnt));
        ahead = λ asked found same. subst (λ e. IsAhead rules asked found (heard_of rules instants past e)) (sym same)
            (is_ahead_last instants past asked found came uses (is.own asked found same));
        version = all.version ∙ last_is looks;
        count = many;
      }
