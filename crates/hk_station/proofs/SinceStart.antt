-- What a station has written, and what it has used, since it was new.
use Rattle.std.proofs.Common.{◌≡◌, ℕ, ◌+◌, List, [], ◌∷◌, ◌++◌, map, length, length-append, append_assoc, refl, sym, ◌∙◌, ap, subst, arith, cond, Option, None, Some}
use Rattle.std.specs.Prelude.{is_some, nat_lt}
use Rattle.std.specs.List.{enumerate_from}
use Rattle.std.proofs.lemmas.Bool.{lt-ltb}
use Rattle.hk_base.specs.declared.sink.Sink as sinks
use Rattle.hk_spec_matching.specs.Catalogue.{Rise}
use Rattle.hk_spec_matching.proofs.Rising.{Rise-from}
use Rattle.hk_spec_streams.specs.Pieces.{completed}
use Rattle.hk_spec_streams.specs.Station.{station_met, fences}
use Rattle.hk_spec_streams.specs.Blocks.{Block, blocks}
use Rattle.hk_spec_streams.proofs.Completed.{completed-more}
use Rattle.hk_spec_settings.specs.Settings.{Rules}
use Rattle.hk_spec_runs.specs.Replay.{Listener, lines_at}
use Rattle.hk_spec_runs.specs.Listening.{Instant, bytes_in, unheard, blocks_gained, looks_gained, after_one, after, looks_over, versions_over, AreKnown, songs_in, Gives, GivesOne, IsLogOf}
use Rattle.hk_spec_runs.proofs.Listening.{after-append, looks_over-append, next_on, looked_still}
use Rattle.hk_spec_runs.proofs.Logs.{writes_log, next_line}
use Rattle.hk_block.specs.Looker.{Past, KeepsPast, Looks}
use Rattle.hk_block.specs.declared.looker.Looker as lookers
use Rattle.hk_block.proofs.Looking.{Looks-append}
use Rattle.hk_station.specs.declared.station.Station.{Station}
use Rattle.hk_station.specs.Hearing.{IsHearing, station_number}
use Rattle.hk_station.specs.Feeding.{HasHeard}
use Rattle.hk_station.specs.SinceStart.{PiecesJoin, TornJoins, LogSinceStart, TornSinceStart}
use Rattle.hk_station.proofs.Feeding.{HasHeard-append}
use Rattle.hk_station.proofs.UsedBytes.{uses_bytes}

module _ (rules : Rules) where
  known_later : (l : Listener) (instants : List Instant) (before now : Past) → KeepsPast before now → AreKnown rules l instants before → AreKnown rules l instants now
  known_later l [] before now keeps known = tt
  known_later l (i ∷ rest) before now keeps known = (
    looked_still (looks_gained rules i.version l i.byte) (before i.version ≡ Some i.songs) (now i.version ≡ Some i.songs) (keeps i.version i.songs) known.0,
    known_later (after_one rules l i) rest before now keeps known.1,
  )

  -- what was given stays so where more is known
  gives_later : (station positions : ℕ) (l : Listener) (instants : List Instant) (text answers : List ℕ) (steps : ℕ) (before now : Past) → KeepsPast before now
      → Gives rules station positions l instants text answers steps before → Gives rules station positions l instants text answers steps now
  gives_later station positions l instants text answers steps before now keeps gives = record {
    lines = gives.lines;
    looks = gives.looks;
    costs = gives.costs;
    known = known_later l instants before now keeps gives.known;
    blocks_stay = gives.blocks_stay;
  }

  versions_over-append : (l : Listener) (xs ys : List Instant) → versions_over rules l (xs ++ ys) ≡ versions_over rules l xs ++ versions_over rules (after rules l xs) ys
  versions_over-append l [] ys = refl
  versions_over-append l (x ∷ xs) ys =
      let here : List ℕ = map (λ block. x.version) (blocks_gained rules x.version l x.byte) in
      ap (λ rest. here ++ rest) (versions_over-append (after_one rules l x) xs ys)
      ∙ sym (append_assoc here (versions_over rules (after_one rules l x) xs) (versions_over rules (after rules (after_one rules l x) xs) ys))

  -- where a look is made, the listener goes on, and the byte meets no fault
  goes_where_looked : (l : Listener) (i : Instant) (v : ℕ) → looks_gained rules i.version l i.byte ≡ v ∷ []
      → (l.end ≡ None) × (station_met rules.bytes (l.used ++ i.byte ∷ []) ≡ None)
  goes_where_looked l i v looks = by_both l.end (station_met rules.bytes (l.used ++ i.byte ∷ [])) looks
    where
      rest : List ℕ
      rest = map (λ block. i.version) (completed (blocks rules.setting) (l.used ++ i.byte ∷ [])) ++ map (λ fence. i.version) (completed fences (l.used ++ i.byte ∷ []))

      by_both : {A B : Type 0} (o : Option A) (m : Option B) → cond (is_some o) [] (cond (is_some m) [] rest) ≡ v ∷ [] → (o ≡ None) × (m ≡ None)
      by_both None None is = (refl, refl)
      by_both None (Some x) is = absurd (let none : [] ≡ v ∷ [] = is in cc)
      by_both (Some x) m is = absurd (let none : [] ≡ v ∷ [] = is in cc)

  -- a byte that completes one block and nothing else
  module _ (station positions : ℕ) (l : Listener) (i : Instant) (line : List ℕ) (steps : ℕ) (one : GivesOne rules station positions l i line steps) where
    one_used : (after_one rules l i).used ≡ l.used ++ i.byte ∷ []
    one_used = let goes = goes_where_looked l i i.version one.looks in ap (λ (m : Listener). m.used) (next_on rules l i goes.0 goes.1)

    one_version : versions_over rules l (i ∷ []) ≡ i.version ∷ []
    one_version =
        let n : ℕ = length (blocks rules.setting l.used) in
        let long : length (l.used ++ i.byte ∷ []) ≡ length l.used + 1 = length-append l.used (i.byte ∷ []) in
        let numbered : List ℕ → List (ℕ × Block) = λ used. enumerate_from n (completed (blocks rules.setting) used) in
        let gained : blocks_gained rules i.version l i.byte ≡ (n, one.block) ∷ [] =
        ap (λ used. cond (nat_lt (length l.used) (length used)) (numbered used) []) one_used
        ∙ ap (λ c. cond c (numbered (l.used ++ i.byte ∷ [])) []) (lt-ltb (length l.used) (length (l.used ++ i.byte ∷ [])) (omega (arith, long)))
        ∙ ap (enumerate_from n) (completed-more (blocks rules.setting) l.used i.byte (one.block ∷ []) one.blocks_are) in
        ap (λ bs. map (λ block. i.version) bs ++ []) gained

module _ {V K : Type 0} {looker : lookers.Ghosts V} {sink : sinks.Ghosts K} where
  pub pieces_join : PiecesJoin looker sink
  pieces_join = HasHeard-append

  pub torn_joins : TornJoins looker sink
  torn_joins first second torn old mid new view seen view' log whole log' ticks made ticks' one two = record {
    station = two.station;
    seen = two.seen;
    whole = two.whole;
    made = two.made;
    heard = HasHeard-append first second old mid two.station view seen two.seen log whole two.whole ticks made two.made one two.heard;
    tears = two.tears;
  }

  pub log_since_start : LogSinceStart looker sink
  log_since_start rules instants old new view view' log log' ticks ticks' some h heard =
      let rise : Rise 0 heard.answers (looker.looker view').at = Rise-from 0 (looker.looker view).at heard.answers (looker.looker view').at (omega arith) heard.looks.rise in
      let gives = (heard.hears rules unheard h).1 in
      record {
        log = writes_log rules some (station_number old) (looker.looker view).room instants heard.text heard.answers heard.steps (looker.looker view').past gives;
        uses = uses_bytes rules instants (looker.looker view').at (subst (λ looks. Rise 0 looks (looker.looker view').at) gives.looks rise);
      }

  pub torn_since_start : TornSinceStart looker sink
  torn_since_start rules instants torn old new view view' log log' ticks ticks' some h was = (
    record { log = first; uses = (log_since_start rules instants old was.station view was.seen log was.whole ticks was.made some h was.heard).uses },
    record { log = all; uses = uses_bytes rules (instants ++ torn ∷ []) (looker.looker view').at rise },
  )
    where
      room : ℕ
      room = (looker.looker view).room

      l : Listener
      l = after rules unheard instants

      heard : IsHearing rules was.station l × Gives rules (station_number old) room unheard instants was.heard.text was.heard.answers was.heard.steps (looker.looker was.seen).past
      heard = was.heard.hears rules unheard h

      first : IsLogOf rules (station_number old) l (versions_over rules unheard instants) (looker.looker view').past was.heard.text
      first = writes_log rules some (station_number old) room instants was.heard.text was.heard.answers was.heard.steps (looker.looker view').past
          (gives_later rules (station_number old) room unheard instants was.heard.text was.heard.answers was.heard.steps (looker.looker was.seen).past (looker.looker view').past was.tears.looks.past heard.1)

      one : GivesOne rules (station_number old) (looker.looker was.seen).room l torn was.tears.line was.tears.steps
      one = subst (λ n. GivesOne rules n (looker.looker was.seen).room l torn was.tears.line was.tears.steps) was.heard.number (was.tears.hears rules l heard.0)

      known : (looker.looker view').past torn.version ≡ Some torn.songs
      known = subst (λ (i : Instant). (looker.looker view').past i.version ≡ Some i.songs) (sym was.tears.at) was.tears.looks.known

      longer : IsLogOf rules (station_number old) (record l { used = l.used ++ torn.byte ∷ [] }) (versions_over rules unheard instants ++ torn.version ∷ []) (looker.looker view').past (was.heard.text ++ was.tears.line)
      longer = next_line rules (station_number old) (looker.looker was.seen).room l (versions_over rules unheard instants) (looker.looker view').past was.heard.text torn was.tears.line was.tears.steps first one known

      used : (after rules unheard (instants ++ torn ∷ [])).used ≡ l.used ++ torn.byte ∷ []
      used = ap (λ (m : Listener). m.used) (after-append rules unheard instants (torn ∷ [])) ∙ one_used rules (station_number old) (looker.looker was.seen).room l torn was.tears.line was.tears.steps one

      versions : versions_over rules unheard (instants ++ torn ∷ []) ≡ versions_over rules unheard instants ++ torn.version ∷ []
      versions = versions_over-append rules unheard instants (torn ∷ [])
          ∙ ap (λ vs. versions_over rules unheard instants ++ vs) (one_version rules (station_number old) (looker.looker was.seen).room l torn was.tears.line was.tears.steps one)

      all : IsLogOf rules (station_number old) (after rules unheard (instants ++ torn ∷ [])) (versions_over rules unheard (instants ++ torn ∷ [])) (looker.looker view').past (was.heard.text ++ was.tears.line)
      all = subst (λ vs. IsLogOf rules (station_number old) (after rules unheard (instants ++ torn ∷ [])) vs (looker.looker view').past (was.heard.text ++ was.tears.line)) (sym versions) (record {
        one_each = longer.one_each ∙ ap (λ t. length (blocks rules.setting t)) (sym used);
        log = longer.log ∙ ap (λ t. lines_at (station_number old) (songs_in (looker.looker view').past) (enumerate_from 0 (blocks rules.setting t)) (versions_over rules unheard instants ++ torn.version ∷ [])) (sym used);
      })

      looks : looks_over rules unheard (instants ++ torn ∷ []) ≡ was.heard.answers ++ torn.version ∷ []
      looks = looks_over-append rules unheard instants (torn ∷ [])
          ∙ ap (λ vs. vs ++ looks_over rules l (torn ∷ [])) (sym heard.1.looks)
          ∙ ap (λ vs. was.heard.answers ++ (vs ++ [])) one.looks

      rise : Rise 0 (looks_over rules unheard (instants ++ torn ∷ [])) (looker.looker view').at
      rise =
          let both : Looks (was.heard.answers ++ torn.version ∷ []) (looker.looker view) (looker.looker view') =
          Looks-append was.heard.answers (torn.version ∷ []) (looker.looker view) (looker.looker was.seen) (looker.looker view') was.heard.looks was.tears.looks in
          subst (λ vs. Rise 0 vs (looker.looker view').at) (sym looks)
          (Rise-from 0 (looker.looker view).at (was.heard.answers ++ torn.version ∷ []) (looker.looker view').at (omega arith) both.rise)
