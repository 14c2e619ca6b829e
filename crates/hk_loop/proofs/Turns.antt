-- What a turn leaves of the promise of a seat.
use Rattle.std.proofs.Common.{◌≡◌, ◌⊎◌, inl, inr, ◌≤◌, ◌+◌, ℕ, List, [], ◌∷◌, ◌++◌, map, refl, sym, ◌∙◌, ap, subst, arith, append_assoc, Option, Some, None}
use Rattle.std.proofs.lemmas.List.{map-append}
use Rattle.hk_base.specs.Devices.{Rose, Took, IsNothing}
use Rattle.hk_base.specs.declared.plain.End.{End}
use Rattle.hk_base.specs.declared.plain.End.TheVariants as ends
use Rattle.hk_base.specs.declared.sink.Sink as sinks
use Rattle.hk_base.proofs.Taking.{Took-append, Took-nothing}
use Rattle.hk_outside.specs.declared.link.Link as links
use Rattle.hk_spec_runs.specs.Replay.{end_of}
use Rattle.hk_spec_runs.specs.Listening.{Instant, bytes_in}
use Rattle.hk_block.specs.declared.looker.Looker as lookers
use Rattle.hk_station.specs.declared.station.Station.{Station}
use Rattle.hk_station.specs.declared.station.Progress.{Progress}
use Rattle.hk_station.specs.Hearing.{ForEach, station_number, lines_written, version_of, kept_end}
use Rattle.hk_station.specs.Outcome.{progress_of, OnTorn, UnlessTorn}
use Rattle.hk_station.specs.Feeding.{HasHeard, IsTorn, WasTorn}
use Rattle.hk_station.proofs.Feeding.{HasHeard-append, none_heard}
use Rattle.hk_loop.specs.declared.seat.Seat.{Seat}
use Rattle.hk_loop.specs.Serving.{Listens, Stops, ByItself, ByItsGate, EndsWhole, EndsTorn, IsServed, Serves, Keeps, Closes}

-- the bytes of instants one after another
bytes-append : (xs ys : List Instant) → bytes_in (xs ++ ys) ≡ bytes_in xs ++ bytes_in ys
bytes-append xs ys = map-append (λ i. i.byte) xs ys

module _ {S V : Type 0} {sink : sinks.Ghosts S} {looker : lookers.Ghosts V} where
  -- the steps aside
  untold : (is : List Instant) (old new : Station) (view view' : V) (log log' : S) (ticks ticks' : ℕ)
      → HasHeard looker sink is old new view view' log log' ticks ticks' → HasHeard looker sink is old new view view' log log' 0 0
  untold is old new view view' log log' ticks ticks' h = record {
    text = h.text;
    answers = h.answers;
    steps = h.steps;
    writes = h.writes;
    looks = h.looks;
    idle = h.idle;
    bound = omega arith;
    number = h.number;
    hears = h.hears;
  }

  torn_untold : (i : Instant) (old new : Station) (view view' : V) (log log' : S) (ticks ticks' : ℕ)
      → IsTorn looker sink i old new view view' log log' ticks ticks' → IsTorn looker sink i old new view view' log log' 0 0
  torn_untold i old new view view' log log' ticks ticks' t = record {
    line = t.line;
    steps = t.steps;
    fails = t.fails;
    looks = t.looks;
    at = t.at;
    bound = omega arith;
    number = t.number;
    lines = t.lines;
    version_is = t.version_is;
    hears = t.hears;
  }

module _ {K S V : Type 0} (sink : sinks.Ghosts S) (looker : lookers.Ghosts V) where
  -- what a station says of a piece: all of it was heard, or a write failed in it
  abbrev pub Whole : Seat K S V → Seat K S V → List ℕ → ℕ → ℕ → Type 0
  Whole old new piece ticks ticks' = (ys : List Instant) × (bytes_in ys ≡ piece) × HasHeard looker sink ys old.station new.station old.view new.view old.log new.log ticks ticks'

  abbrev pub Torn : Seat K S V → Seat K S V → List ℕ → ℕ → ℕ → Type 0
  Torn old new piece ticks ticks' = (ys : List Instant) × (torn : Instant) × (rest : List ℕ) × (bytes_in ys ++ torn.byte ∷ rest ≡ piece)
      × WasTorn looker sink ys torn old.station new.station old.view new.view old.log new.log ticks ticks'

  room_whole : (old new : Seat K S V) (piece : List ℕ) (ticks ticks' : ℕ) → Whole old new piece ticks ticks' → (looker.looker new.view).room ≡ (looker.looker old.view).room
  room_whole old new piece ticks ticks' w = w.2.looks.room

  room_torn : (old new : Seat K S V) (piece : List ℕ) (ticks ticks' : ℕ) → Torn old new piece ticks ticks' → (looker.looker new.view).room ≡ (looker.looker old.view).room
  room_torn old new piece ticks ticks' t = t.4.tears.looks.room ∙ t.4.heard.looks.room

  room_as : (old new : Seat K S V) (piece : List ℕ) (ticks ticks' : ℕ) (k : Option End) → UnlessTorn (progress_of k) (Whole old new piece ticks ticks') → OnTorn (progress_of k) (Torn old new piece ticks ticks')
      → (looker.looker new.view).room ≡ (looker.looker old.view).room
  room_as old new piece ticks ticks' None w t = room_whole old new piece ticks ticks' w
  room_as old new piece ticks ticks' (Some ends.SinkFault) w t = room_torn old new piece ticks ticks' t
  room_as old new piece ticks ticks' (Some ends.Ended) w t = room_whole old new piece ticks ticks' w
  room_as old new piece ticks ticks' (Some (ends.Wire fault)) w t = room_whole old new piece ticks ticks' w
  room_as old new piece ticks ticks' (Some (ends.FenceAhead asked found)) w t = room_whole old new piece ticks ticks' w
  room_as old new piece ticks ticks' (Some ends.ReadFault) w t = room_whole old new piece ticks ticks' w
  room_as old new piece ticks ticks' (Some ends.GateFault) w t = room_whole old new piece ticks ticks' w

module _ {K S V : Type 0} {link : links.Ghosts K} {sink : sinks.Ghosts S} {looker : lookers.Ghosts V} where
  -- a seat that goes on has heard what its link gave
  pub going_on : (first old : Seat K S V) (gate gate' : ℕ) → kept_end old.station ≡ None → Serves link sink looker first old gate gate' → Listens link sink looker first old
  going_on first old gate gate' going serves = subst (λ k. IsServed link sink looker k first old gate gate') going serves

  -- nothing yet
  pub listens_first : (seat : Seat K S V) → Listens link sink looker seat seat
  listens_first seat = record {
    instants = [];
    takes = Took-nothing (link.left seat.link);
    reads = refl;
    hears = none_heard seat.station seat.view seat.log 0;
  }

  module _ (first old new : Seat K S V) (piece : List ℕ) (took : Took piece (link.left old.link) (link.left new.link)) (count : link.faults new.link ≡ link.faults old.link)
      (before : Listens link sink looker first old) (ticks ticks' : ℕ) where
    heard_on : Whole sink looker old new piece ticks ticks' → Listens link sink looker first new
    heard_on w = record {
      instants = before.instants ++ w.0;
      takes = subst (λ bytes. Took bytes (link.left first.link) (link.left new.link)) (sym (bytes-append before.instants w.0))
          (Took-append (bytes_in before.instants) (bytes_in w.0) (link.left first.link) (link.left old.link) (link.left new.link) before.takes
          (subst (λ bytes. Took bytes (link.left old.link) (link.left new.link)) (sym w.1) took));
      reads = count ∙ before.reads;
      hears = HasHeard-append before.instants w.0 first.station old.station new.station first.view old.view new.view first.log old.log new.log 0 0 0 before.hears
          (untold w.0 old.station new.station old.view new.view old.log new.log ticks ticks' w.2);
    }

    torn_on : Torn sink looker old new piece ticks ticks' → EndsTorn link sink looker first new ends.SinkFault
    torn_on t =
        let torn : WasTorn looker sink t.0 t.1 old.station new.station old.view new.view old.log new.log ticks ticks' = t.4 in
        record {
          instants = before.instants ++ t.0;
          torn = t.1;
          unheard_bytes = t.2;
          takes = subst (λ bytes. Took bytes (link.left first.link) (link.left new.link))
              (sym (ap (λ bytes. bytes ++ t.1.byte ∷ t.2) (bytes-append before.instants t.0) ∙ append_assoc (bytes_in before.instants) (bytes_in t.0) (t.1.byte ∷ t.2)))
              (Took-append (bytes_in before.instants) (bytes_in t.0 ++ t.1.byte ∷ t.2) (link.left first.link) (link.left old.link) (link.left new.link) before.takes
              (subst (λ bytes. Took bytes (link.left old.link) (link.left new.link)) (sym t.3) took));
          reads = count ∙ before.reads;
          hears = record {
            station = torn.station;
            seen = torn.seen;
            whole = torn.whole;
            made = 0;
            heard = HasHeard-append before.instants t.0 first.station old.station torn.station first.view old.view torn.seen first.log old.log torn.whole 0 0 0 before.hears
                (untold t.0 old.station torn.station old.view torn.seen old.log torn.whole ticks torn.made torn.heard);
            tears = torn_untold t.1 torn.station new.station torn.seen new.view torn.whole new.log torn.made ticks' torn.tears;
          };
          end_is = refl;
        }

    over_on : (gate gate' : ℕ) (end : End) → kept_end new.station ≡ Some end → Whole sink looker old new piece ticks ticks' → EndsWhole link sink looker first new gate gate' end
    over_on gate gate' end over w =
        let now : Listens link sink looker first new = heard_on w in
        record {
          instants = now.instants;
          heard = new.station;
          takes = now.takes;
          hears = now.hears;
          number = refl;
          lines = refl;
          version = refl;
          stops = ByItself over now.reads;
        }

    served_as : (gate gate' : ℕ) (k : Option End) → kept_end new.station ≡ k → UnlessTorn (progress_of k) (Whole sink looker old new piece ticks ticks') → OnTorn (progress_of k) (Torn sink looker old new piece ticks ticks')
        → IsServed link sink looker k first new gate gate'
    served_as gate gate' None kept w t = heard_on w
    served_as gate gate' (Some ends.SinkFault) kept w t = inr (torn_on t)
    served_as gate gate' (Some ends.Ended) kept w t = inl (over_on gate gate' ends.Ended kept w)
    served_as gate gate' (Some (ends.Wire fault)) kept w t = inl (over_on gate gate' (ends.Wire fault) kept w)
    served_as gate gate' (Some (ends.FenceAhead asked found)) kept w t = inl (over_on gate gate' (ends.FenceAhead asked found) kept w)
    served_as gate gate' (Some ends.ReadFault) kept w t = inl (over_on gate gate' ends.ReadFault kept w)
    served_as gate gate' (Some ends.GateFault) kept w t = inl (over_on gate gate' ends.GateFault kept w)

  -- a piece was fed
  pub keeps_fed : (old new : Seat K S V) (piece : List ℕ) (ticks ticks' : ℕ) (p : Progress) → p ≡ progress_of (kept_end new.station) → kept_end old.station ≡ None
      → Took piece (link.left old.link) (link.left new.link) → link.faults new.link ≡ link.faults old.link
      → UnlessTorn p (Whole sink looker old new piece ticks ticks') → OnTorn p (Torn sink looker old new piece ticks ticks') → Keeps link sink looker old new
  keeps_fed old new piece ticks ticks' p tells going took count whole torn =
      let w : UnlessTorn (progress_of (kept_end new.station)) (Whole sink looker old new piece ticks ticks') = subst (λ q. UnlessTorn q (Whole sink looker old new piece ticks ticks')) tells whole in
      let t : OnTorn (progress_of (kept_end new.station)) (Torn sink looker old new piece ticks ticks') = subst (λ q. OnTorn q (Torn sink looker old new piece ticks ticks')) tells torn in
      record {
        room = room_as sink looker old new piece ticks ticks' (kept_end new.station) w t;
        serves = λ first gate gate' serves.
            served_as first old new piece took count (going_on first old gate gate' going serves) ticks ticks' gate gate' (kept_end new.station) refl w t;
      }

  -- nothing was taken
  pub keeps_idle : (old : Seat K S V) (other : K) → kept_end old.station ≡ None → link.left other ≡ link.left old.link → link.faults other ≡ link.faults old.link
      → Keeps link sink looker old (record { link = other; log = old.log; station = old.station; view = old.view })
  keeps_idle old other going left count = record {
    room = refl;
    serves = λ first gate gate' serves.
        let before : Listens link sink looker first old = going_on first old gate gate' going serves in
        let now : Listens link sink looker first (record { link = other; log = old.log; station = old.station; view = old.view }) = record {
          instants = before.instants;
          takes = subst (λ rest. Took (bytes_in before.instants) (link.left first.link) rest) (sym left) before.takes;
          reads = count ∙ before.reads;
          hears = before.hears;
        } in
        subst (λ k. IsServed link sink looker k first (record { link = other; log = old.log; station = old.station; view = old.view }) gate gate') (sym going) now;
  }

  -- a seat that went on was ended
  pub ended : (old : Seat K S V) (other : K) (station : Station) (end : End) (first : Seat K S V) (gate gate' : ℕ) → kept_end old.station ≡ None → link.left other ≡ link.left old.link
      → station_number station ≡ station_number old.station → lines_written station ≡ lines_written old.station → version_of station ≡ version_of old.station → kept_end station ≡ Some end
      → (link.faults old.link ≡ link.faults first.link → Stops link sink looker first (record { link = other; log = old.log; station = station; view = old.view }) old.station gate gate' end)
      → Serves link sink looker first old gate gate'
      → Serves link sink looker first (record { link = other; log = old.log; station = station; view = old.view }) gate gate'
  ended old other station end first gate gate' going left number lines version over why serves =
      let before : Listens link sink looker first old = going_on first old gate gate' going serves in
      let now : EndsWhole link sink looker first (record { link = other; log = old.log; station = station; view = old.view }) gate gate' end = record {
        instants = before.instants;
        heard = old.station;
        takes = subst (λ rest. Took (bytes_in before.instants) (link.left first.link) rest) (sym left) before.takes;
        hears = before.hears;
        number = number;
        lines = lines;
        version = version;
        stops = why before.reads;
      } in
      subst (λ k. IsServed link sink looker k first (record { link = other; log = old.log; station = station; view = old.view }) gate gate') (sym over) (inl now)

  -- the gate failed, and a seat that went on was ended
  pub closes_going : (old : Seat K S V) (station : Station) (end : End) → kept_end old.station ≡ None → end ≡ ends.GateFault
      → station_number station ≡ station_number old.station → lines_written station ≡ lines_written old.station → version_of station ≡ version_of old.station → kept_end station ≡ Some end
      → Closes link sink looker old (record { link = old.link; log = old.log; station = station; view = old.view })
  closes_going old station end going is number lines version over = record {
    end = end;
    over = over;
    by_gate = λ none. is;
    serves = λ first gate gate' rose serves. ended old old.link station end first gate gate' going refl number lines version over (λ same. ByItsGate going is rose same) serves;
  }
