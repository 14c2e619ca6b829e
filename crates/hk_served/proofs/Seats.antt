-- A seat that was served did what a run says of a station.
use Rattle.std.proofs.Common.{◌≡◌, ◌<◌, inl, inr, ℕ, true, false, Some, List, [], ◌∷◌, ◌++◌, refl, sym, ◌∙◌, ap, subst, arith}
use Rattle.std.proofs.lemmas.List.Elements.{All-push}
use Rattle.hk_base.specs.Devices.{Rose, Wrote}
use Rattle.hk_base.specs.declared.plain.End.{End}
use Rattle.hk_base.specs.declared.sink.Sink as sinks
use Rattle.hk_base.proofs.Taking.{Wrote-append}
use Rattle.hk_outside.specs.declared.link.Link as links
use Rattle.hk_spec_sound.specs.Prints.{full_analysis}
use Rattle.hk_spec_matching.specs.Catalogue.{Rise}
use Rattle.hk_spec_matching.proofs.Rising.{Rise-from}
use Rattle.hk_spec_settings.specs.Settings.{Rules}
use Rattle.hk_spec_runs.specs.Replay.{Listener}
use Rattle.hk_spec_runs.specs.Listening.{Instant, bytes_in, unheard, after, looks_over, versions_over, Gives, GivesOne, IsLogOf, UsesOf}
use Rattle.hk_spec_monitor.specs.Run.{Heard}
use Rattle.hk_spec_monitor.specs.Causes.{is_read_fault}
use Rattle.hk_account.specs.Account.{IsAccount, ComesTo, heard_of}
use Rattle.hk_account.specs.Reasons.{HasReason}
use Rattle.hk_account.specs.Torn.{torn_of}
use Rattle.hk_account.proofs.Accounts.{account_since_start}
use Rattle.hk_account.proofs.Torn.{torn_account_since_start}
use Rattle.hk_account.proofs.Reasons.{causes_since_start}
use Rattle.hk_block.specs.Ring.{BLOCK_SIZE}
use Rattle.hk_block.specs.Looker.{LookerView, Looks}
use Rattle.hk_block.specs.declared.looker.Looker as lookers
use Rattle.hk_block.proofs.Looking.{Looks-append}
use Rattle.hk_station.specs.declared.station.Station.{Station}
use Rattle.hk_station.specs.Hearing.{IsHearing, station_number, kept_end}
use Rattle.hk_station.proofs.UsedBytes.{uses_bytes}
use Rattle.hk_station.proofs.SinceStart.{torn_since_start}
use Rattle.hk_loop.specs.declared.seat.Seat.{Seat}
use Rattle.hk_loop.specs.Serving.{Stops, ByItself, AtItsEnd, ByItsLink, ByItsGate, EndsWhole, EndsTorn}
use Rattle.hk_served.specs.Served.{gate_of, pair_of, DidInSeat, ServedSinceNew}
use Rattle.hk_served.proofs.Known.{IsKnownIn, looks_known, known_later}

module _ (rules : Rules) (station : Station) (new : IsHearing rules station unheard) where
  some_prints : 0 < rules.setting.block.size
  some_prints = let size : rules.setting.block.size ≡ BLOCK_SIZE = (new.receives refl).holds.has.set.cuts.size in omega (arith, size)

  in_full : rules.setting.analysis ≡ full_analysis
  in_full = (new.receives refl).holds.has.set.analysis

module _ {K S V : Type 0} (link : links.Ghosts K) (sink : sinks.Ghosts S) (looker : lookers.Ghosts V) (rules : Rules) (gate gate' : ℕ) (first now : Seat K S V) (new : IsHearing rules first.station unheard) where
  -- the station's reasons, as its account asks for them
  module _ (heard : Station) (l : Listener) (is : IsHearing rules heard l) (end : End) where
    comes_to : Stops link sink looker first now heard gate gate' end → ComesTo rules l end
    comes_to (ByItself kept count) = inl (sym is.end_is ∙ kept)
    comes_to (AtItsEnd going nothing so count) = inr (inl (sym is.end_is ∙ going, so rules l is))
    comes_to (ByItsLink going so rose) = inr (inr (sym is.end_is ∙ going, inl so))
    comes_to (ByItsGate going so rose count) = inr (inr (sym is.end_is ∙ going, inr so))

    reason : Stops link sink looker first now heard gate gate' end → HasReason rules l (pair_of link sink looker first) (pair_of link sink looker now) (gate_of gate) (gate_of gate') end
    reason (ByItself kept count) = inl (sym is.end_is ∙ kept)
    reason (AtItsEnd going nothing so count) = inr (inl (sym is.end_is ∙ going, so rules l is, nothing))
    reason (ByItsLink going so rose) = inr (inr (inl (sym is.end_is ∙ going, so, rose)))
    reason (ByItsGate going so rose count) = inr (inr (inr (sym is.end_is ∙ going, so, rose)))

    link_stayed : Stops link sink looker first now heard gate gate' end → is_read_fault end ≡ false → link.faults now.link ≡ link.faults first.link
    link_stayed (ByItself kept count) other = count
    link_stayed (AtItsEnd going nothing so count) other = count
    link_stayed (ByItsLink going so rose) other = absurd (let no : true ≡ false = sym (ap is_read_fault so) ∙ other in cc)
    link_stayed (ByItsGate going so rose count) other = count

  did_whole : (end : End) → kept_end now.station ≡ Some end → EndsWhole link sink looker first now gate gate' end → (h : Heard) × DidInSeat link sink looker rules gate gate' first now h
  did_whole end over w =
      let instants : List Instant = w.instants in
      let l : Listener = after rules unheard instants in
      let old : LookerView = looker.looker first.view in
      let view : LookerView = looker.looker now.view in
      let hears = w.hears.hears rules unheard new in
      let is : IsHearing rules w.heard l = hears.0 in
      let gives : Gives rules (station_number first.station) old.room unheard instants w.hears.text w.hears.answers w.hears.steps view.past = hears.1 in
      let rise : Rise 0 w.hears.answers view.at = Rise-from 0 old.at w.hears.answers view.at (omega arith) w.hears.looks.rise in
      let rise_over : Rise 0 (looks_over rules unheard instants) view.at = subst (λ vs. Rise 0 vs view.at) gives.looks rise in
      let uses : UsesOf rules l (bytes_in instants) = uses_bytes rules instants view.at rise_over in
      let account : IsAccount rules (station_number first.station) view.past w.hears.text l (heard_of rules instants view.past end) =
      account_since_start rules (station_number first.station) old.room view.at instants w.hears.text w.hears.answers w.hears.steps view.past end
      (some_prints rules first.station new) gives rise uses (comes_to w.heard l is end w.stops) in (
        heard_of rules instants view.past end,
        record {
          number = w.number ∙ w.hears.number;
          taken = w.takes;
          log = subst (λ text. Wrote text (sink.written first.log) (sink.written now.log)) account.log w.hears.writes.appended;
          lines = account.lines;
          fences = account.fences;
          end = over;
          cause = causes_since_start rules view.at instants view.past end (pair_of link sink looker first) (pair_of link sink looker now) (gate_of gate) (gate_of gate') rise_over uses
              (reason w.heard l is end w.stops);
          stayed = record { link = link_stayed w.heard l is end w.stops; log = λ whole. w.hears.writes.stays };
          count = w.lines ∙ is.lines ∙ sym account.count;
          version = w.version ∙ is.version_is ∙ account.version;
          looks = subst (λ vs. Looks vs old view) gives.looks w.hears.looks;
          known = looks_known rules unheard instants view.past gives.known;
        },
      )

  did_torn : (end : End) → kept_end now.station ≡ Some end → EndsTorn link sink looker first now end → (h : Heard) × DidInSeat link sink looker rules gate gate' first now h
  did_torn end over t =
      let instants : List Instant = t.instants in
      let l : Listener = after rules unheard instants in
      let old : LookerView = looker.looker first.view in
      let seen : LookerView = looker.looker t.hears.seen in
      let view : LookerView = looker.looker now.view in
      let number : ℕ = station_number first.station in
      let heard = t.hears.heard in
      let tears = t.hears.tears in
      let v : ℕ = t.torn.version in
      let hears = heard.hears rules unheard new in
      let is : IsHearing rules t.hears.station l = hears.0 in
      let gives : Gives rules number old.room unheard instants heard.text heard.answers heard.steps seen.past = hears.1 in
      let log : IsLogOf rules number l (versions_over rules unheard instants) view.past heard.text =
      (torn_since_start rules instants t.torn first.station now.station first.view now.view first.log now.log 0 0 (some_prints rules first.station new) new t.hears).0.log in
      let one : GivesOne rules number seen.room l t.torn tears.line tears.steps = subst (λ n. GivesOne rules n seen.room l t.torn tears.line tears.steps) heard.number (tears.hears rules l is) in
      let known : view.past v ≡ Some t.torn.songs = subst (λ (i : Instant). view.past i.version ≡ Some i.songs) (sym tears.at) tears.looks.known in
      let looks : Looks (heard.answers ++ v ∷ []) old view = Looks-append heard.answers (v ∷ []) old seen view heard.looks tears.looks in
      let all_looks : Looks (looks_over rules unheard instants ++ v ∷ []) old view = subst (λ vs. Looks (vs ++ v ∷ []) old view) gives.looks looks in
      let rise : Rise 0 (looks_over rules unheard instants ++ v ∷ []) view.at = Rise-from 0 old.at (looks_over rules unheard instants ++ v ∷ []) view.at (omega arith) all_looks.rise in
      let front : List ℕ = tears.fails.front.0 in
      let h : Heard = torn_of rules instants t.torn t.unheard_bytes view.past front in
      let account : IsAccount rules number view.past (heard.text ++ front) (record l { version = v }) h =
      torn_account_since_start rules number seen.room view.at instants heard.text view.past t.torn tears.line tears.steps t.unheard_bytes front tears.fails.front.1
      (some_prints rules first.station new) (in_full rules first.station new) rise log one known tears.fails.front.2 tears.fails.front.3 in (
        h,
        record {
          number = tears.number ∙ heard.number;
          taken = t.takes;
          log = subst (λ text. Wrote text (sink.written first.log) (sink.written now.log)) account.log
              (Wrote-append heard.text front (sink.written first.log) (sink.written t.hears.whole) (sink.written now.log) heard.writes.appended tears.fails.front.4);
          lines = account.lines;
          fences = account.fences;
          end = over ∙ ap (λ e. Some e) t.end_is;
          cause = subst (λ n. Rose n (sink.faults now.log)) heard.writes.stays tears.fails.cause;
          stayed = record { link = λ other. t.reads; log = λ whole. absurd (let no : true ≡ false = whole in cc) };
          count = tears.lines ∙ is.lines ∙ sym account.count;
          version = tears.version_is ∙ account.version;
          looks = all_looks;
          known = All-push (IsKnownIn view.past) (looks_over rules unheard instants) v
              (known_later seen.past view.past (looks_over rules unheard instants) tears.looks.past (looks_known rules unheard instants seen.past gives.known)) (t.torn.songs, known);
        },
      )

module _ {K S V : Type 0} (link : links.Ghosts K) (sink : sinks.Ghosts S) (looker : lookers.Ghosts V) where
  pub served_since_new : ServedSinceNew link sink looker
  served_since_new rules gate gate' first now new served = elim served.ends [
    | inl whole ↦ did_whole link sink looker rules gate gate' first now new served.end served.over whole
    | inr torn ↦ did_torn link sink looker rules gate gate' first now new served.end served.over torn
  ]
