-- Bytes that complete nothing, and the listener that hears them.
use Rattle.std.proofs.Common.{◌≡◌, ◌+◌, ℕ, List, [], ◌∷◌, ◌++◌, length, refl, sym, ◌∙◌, ap, subst, append-nil, append_assoc, take, take-add, arith, None}
use Rattle.std.specs.Prelude.{slice_range}
use Rattle.std.proofs.lemmas.List.{map-append, take_rest}
use Rattle.hk_base.specs.declared.sink.Sink as sinks
use Rattle.hk_base.proofs.Writing.{written-nothing}
use Rattle.hk_spec_streams.specs.Blocks.{blocks}
use Rattle.hk_spec_streams.specs.Station.{fences}
use Rattle.hk_spec_settings.specs.Settings.{Rules}
use Rattle.hk_spec_runs.specs.Replay.{Listener}
use Rattle.hk_spec_runs.specs.Listening.{Instant, after, after_one, blocks_gained, bytes_in, Gives}
use Rattle.hk_spec_runs.proofs.Listening.{next_goes, blocks_goes, Gives-goes, Gives-nothing, Gives-append}
use Rattle.hk_block.specs.Looker.{LookerView, Past}
use Rattle.hk_block.specs.declared.looker.Looker as lookers
use Rattle.hk_block.proofs.Looking.{Looks-nothing}
use Rattle.hk_receiver.specs.Received.{HasReceived}
use Rattle.hk_receiver.specs.Quiet.{IsQuiet, AreQuiet}
use Rattle.hk_station.specs.declared.station.Station.{Station}
use Rattle.hk_station.specs.Hearing.{IsHearing, ForEach}
use Rattle.hk_station.specs.Feeding.{instant, HasHeard}
use Rattle.hk_station.proofs.Feeding.{instants_at, bytes_at, HasHeard-append}

pub quiet_blocks : (rules : Rules) (bytes text : List ℕ) → AreQuiet rules text bytes → blocks rules.setting (text ++ bytes) ≡ blocks rules.setting text
quiet_blocks rules [] text quiet = ap (blocks rules.setting) (append-nil text)
quiet_blocks rules (b ∷ bytes) text quiet =
    ap (blocks rules.setting) (sym (append_assoc text (b ∷ []) bytes)) ∙ quiet_blocks rules bytes (text ++ b ∷ []) quiet.1 ∙ quiet.0.same_blocks

-- the listener with these bytes more
abbrev pub further : Listener → List ℕ → Listener
further l bytes = record l { used = l.used ++ bytes }

-- no byte more
pub no_further : (l : Listener) → further l [] ≡ l
no_further l = ap (λ used. record l { used = used }) (append-nil l.used)

-- the station with a receiver that went on
pub hears_further : (rules : Rules) (old new : Station) (l : Listener) (bytes : List ℕ) → IsHearing rules old l → l.end ≡ None → AreQuiet rules l.used bytes
    → HasReceived rules new.receiver (l.used ++ bytes) → new.end ≡ old.end → new.lines ≡ old.lines → new.version ≡ old.version → IsHearing rules new (further l bytes)
hears_further rules old new l bytes h going quiet received same_end same_lines same_version = record {
  receives = λ _. received;
  end_is = same_end ∙ h.end_is;
  lines = same_lines ∙ h.lines ∙ sym (ap length (quiet_blocks rules bytes l.used quiet));
  version_is = same_version ∙ h.version_is;
}

-- one of them
module _ (rules : Rules) (l : Listener) (i : Instant) (going : l.end ≡ None) (quiet : IsQuiet rules l.used i.byte) where
  no_blocks : blocks rules.setting (l.used ++ i.byte ∷ []) ≡ blocks rules.setting l.used ++ []
  no_blocks = quiet.same_blocks ∙ sym (append-nil (blocks rules.setting l.used))

  no_fences : fences (l.used ++ i.byte ∷ []) ≡ fences l.used ++ []
  no_fences = quiet.same_fences ∙ sym (append-nil (fences l.used))

  pub next_quiet : after_one rules l i ≡ further l (i.byte ∷ [])
  next_quiet = next_goes rules l i going quiet.meets_none [] [] no_blocks no_fences
      ∙ ap (λ end. record l { used = l.used ++ i.byte ∷ []; end = end }) (sym going)

  pub no_block_gained : blocks_gained rules i.version l i.byte ≡ []
  no_block_gained = blocks_goes rules l i going quiet.meets_none [] [] no_blocks no_fences

  pub Gives-quiet : (station positions : ℕ) (past : Past) → Gives rules station positions l (i ∷ []) [] [] 0 past
  Gives-quiet station positions past = Gives-goes rules l i going quiet.meets_none [] [] no_blocks no_fences station positions past tt

-- all of them, with one view
module _ (rules : Rules) (view : LookerView) (station : ℕ) where
  pub after_quiet : (bytes : List ℕ) (l : Listener) → l.end ≡ None → AreQuiet rules l.used bytes → after rules l (instants_at view bytes) ≡ further l bytes
  after_quiet [] l going quiet = sym (no_further l)
  after_quiet (b ∷ bytes) l going quiet =
      ap (λ (m : Listener). after rules m (instants_at view bytes)) (next_quiet rules l (instant view b) going quiet.0)
      ∙ after_quiet bytes (further l (b ∷ [])) going quiet.1
      ∙ ap (λ used. record l { used = used }) (append_assoc l.used (b ∷ []) bytes)

  pub all_quiet : (bytes : List ℕ) (l : Listener) → l.end ≡ None → AreQuiet rules l.used bytes
      → Gives rules station view.room l (instants_at view bytes) [] [] 0 view.past
  all_quiet [] l going quiet = Gives-nothing rules station view.room l view.past
  all_quiet (b ∷ bytes) l going quiet =
      Gives-append rules station view.room l (instant view b ∷ []) (instants_at view bytes) [] [] [] [] 0 0 view.past view.past (λ v songs is. is)
      (Gives-quiet rules l (instant view b) going quiet.0 station view.room view.past)
      (subst (λ (m : Listener). Gives rules station view.room m (instants_at view bytes) [] [] 0 view.past) (sym (next_quiet rules l (instant view b) going quiet.0))
      (all_quiet bytes (further l (b ∷ [])) going quiet.1))

module _ {V K : Type 0} {looker : lookers.Ghosts V} {sink : sinks.Ghosts K} where
  -- a station that heard bytes which complete nothing
  pub quiet_heard : (bytes : List ℕ) (old new : Station) (view : V) (log : K) (ticks : ℕ) → old.end ≡ None → new.number ≡ old.number
      → ForEach old (λ rules l. IsHearing rules new (further l bytes)) → ForEach old (λ rules l. AreQuiet rules l.used bytes)
      → HasHeard looker sink (instants_at (looker.looker view) bytes) old new view view log log ticks ticks
  quiet_heard bytes old new view log ticks unended number hears quiet = record {
    text = [];
    answers = [];
    steps = 0;
    writes = written-nothing;
    looks = Looks-nothing (looker.looker view);
    idle = λ none. refl;
    bound = omega arith;
    number = number;
    hears = λ rules l h.
        let going : l.end ≡ None = sym h.end_is ∙ unended in (
          subst (IsHearing rules new) (sym (after_quiet rules (looker.looker view) old.number bytes l going (quiet rules l h))) (hears rules l h),
          all_quiet rules (looker.looker view) old.number bytes l going (quiet rules l h),
        );
  }

  -- the front of a piece that was heard, and so many bytes more of it that complete nothing
  pub heard_further : (instants : List Instant) (piece : List ℕ) (at n : ℕ) (old mid new : Station) (view seen : V) (log whole : K) (ticks made : ℕ)
      → bytes_in instants ≡ take at piece → HasHeard looker sink instants old mid view seen log whole ticks made → mid.end ≡ None → new.number ≡ mid.number
      → ForEach mid (λ rules l. IsHearing rules new (further l (take n (slice_range piece at (length piece)))))
      → ForEach mid (λ rules l. AreQuiet rules l.used (take n (slice_range piece at (length piece))))
      → (all : List Instant) × (bytes_in all ≡ take (at + n) piece) × HasHeard looker sink all old new view seen log whole ticks made
  heard_further instants piece at n old mid new view seen log whole ticks made front heard unended number hears quiet =
      let bytes : List ℕ = take n (slice_range piece at (length piece)) in
      let more : List Instant = instants_at (looker.looker seen) bytes in (
        instants ++ more,
        map-append (λ (j : Instant). j.byte) instants more ∙ ap (λ (first : List ℕ). first ++ bytes_in more) front
            ∙ ap (λ (rest : List ℕ). take at piece ++ rest) (bytes_at (looker.looker seen) bytes)
            ∙ ap (λ (rest : List ℕ). take at piece ++ take n rest) (take_rest piece at) ∙ sym (take-add at n piece),
        HasHeard-append instants more old mid new view seen seen log whole whole ticks made made heard
            (quiet_heard bytes mid new seen whole made unended number hears quiet),
      )
