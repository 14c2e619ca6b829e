-- Instants one after another.
use Rattle.std.proofs.Common.{◌≡◌, ◌<◌, ◌+◌, ℕ, List, [], ◌∷◌, ◌++◌, map, length, take, drop, get_or, refl, sym, ◌∙◌, ap, subst, arith, add-one, drop-cons, Some}
use Rattle.std.proofs.lemmas.List.{take-append-drop}
use Rattle.hk_base.specs.declared.plain.End.{End}
use Rattle.hk_base.specs.declared.sink.Sink as sinks
use Rattle.hk_base.proofs.Writing.{written-nothing, written-append}
use Rattle.hk_spec_runs.specs.Listening.{Instant, bytes_in, after, Gives}
use Rattle.hk_spec_runs.proofs.Listening.{after-append, Gives-nothing, Gives-append}
use Rattle.hk_block.specs.Looker.{LookerView}
use Rattle.hk_block.specs.declared.looker.Looker as lookers
use Rattle.hk_block.proofs.Looking.{Looks-nothing, Looks-append}
use Rattle.hk_station.specs.declared.station.Station.{Station}
use Rattle.hk_station.specs.Hearing.{IsHearing}
use Rattle.hk_station.specs.Feeding.{instant, HasHeard}
use Rattle.hk_station.proofs.Hearing.{hears_over}

both_empty : (xs ys : List ℕ) → xs ++ ys ≡ [] → (xs ≡ []) × (ys ≡ [])
both_empty [] ys none = (refl, none)
both_empty (x ∷ xs) ys none = absurd (let one : length (x ∷ xs ++ ys) ≡ 0 = ap length none in omega (arith, one))

-- the bytes of one view
abbrev pub instants_at : LookerView → List ℕ → List Instant
instants_at view bytes = map (instant view) bytes

pub bytes_at : (view : LookerView) (bytes : List ℕ) → bytes_in (instants_at view bytes) ≡ bytes
bytes_at view [] = refl
bytes_at view (b ∷ bytes) = ap (λ rest. b ∷ rest) (bytes_at view bytes)

module _ {V K : Type 0} {looker : lookers.Ghosts V} {sink : sinks.Ghosts K} where
  -- nothing yet
  pub none_heard : (station : Station) (view : V) (log : K) (ticks : ℕ) → HasHeard looker sink [] station station view view log log ticks ticks
  none_heard station view log ticks = record {
    text = [];
    answers = [];
    steps = 0;
    writes = written-nothing;
    looks = Looks-nothing (looker.looker view);
    idle = λ none. refl;
    bound = omega arith;
    number = refl;
    hears = λ rules l h. (h, Gives-nothing rules station.number (looker.looker view).room l (looker.looker view).past);
  }

  -- what was heard, and then more
  pub HasHeard-append : (xs ys : List Instant) (old mid new : Station) (view seen view' : V) (log whole log' : K) (ticks made ticks' : ℕ)
      → HasHeard looker sink xs old mid view seen log whole ticks made → HasHeard looker sink ys mid new seen view' whole log' made ticks'
      → HasHeard looker sink (xs ++ ys) old new view view' log log' ticks ticks'
  HasHeard-append xs ys old mid new view seen view' log whole log' ticks made ticks' first second = record {
    text = first.text ++ second.text;
    answers = first.answers ++ second.answers;
    steps = first.steps + second.steps;
    writes = written-append first.writes second.writes;
    looks = Looks-append first.answers second.answers (looker.looker view) (looker.looker seen) (looker.looker view') first.looks second.looks;
    idle = λ none. let none_of = both_empty first.answers second.answers none in second.idle none_of.1 ∙ first.idle none_of.0;
    bound = omega (arith, first.bound, second.bound);
    number = second.number ∙ first.number;
    hears = λ rules l h.
        let before = first.hears rules l h in
        let behind = second.hears rules (after rules l xs) before.0 in (
          subst (IsHearing rules new) (sym (after-append rules l xs ys)) behind.0,
          Gives-append rules old.number (looker.looker view).room l xs ys first.text second.text first.answers second.answers first.steps second.steps
              (looker.looker seen).past (looker.looker view').past second.looks.past before.1
              (subst (λ n. Gives rules n (looker.looker view).room (after rules l xs) ys second.text second.answers second.steps (looker.looker view').past) first.number
              (subst (λ r. Gives rules mid.number r (after rules l xs) ys second.text second.answers second.steps (looker.looker view').past) first.looks.room behind.1)),
        );
  }

  -- a station that is over skips a byte, and all bytes
  pub over_heard : (i : Instant) (station : Station) (view : V) (log : K) (ticks : ℕ) (end : End) → station.end ≡ Some end
      → HasHeard looker sink (i ∷ []) station station view view log log ticks ticks
  over_heard i station view log ticks end over = record {
    text = [];
    answers = [];
    steps = 0;
    writes = written-nothing;
    looks = Looks-nothing (looker.looker view);
    idle = λ none. refl;
    bound = omega arith;
    number = refl;
    hears = hears_over (looker.looker view).room i station (looker.looker view).past end over;
  }

  pub all_skipped : (bytes : List ℕ) (station : Station) (view : V) (log : K) (ticks : ℕ) (end : End) → station.end ≡ Some end
      → HasHeard looker sink (instants_at (looker.looker view) bytes) station station view view log log ticks ticks
  all_skipped [] station view log ticks end over = none_heard station view log ticks
  all_skipped (b ∷ bytes) station view log ticks end over =
      HasHeard-append (instant (looker.looker view) b ∷ []) (instants_at (looker.looker view) bytes) station station station view view view log log log ticks ticks ticks
      (over_heard (instant (looker.looker view) b) station view log ticks end over) (all_skipped bytes station view log ticks end over)

-- a piece round one of its bytes
pub around_byte : (piece : List ℕ) (i : ℕ) → i < length piece → take i piece ++ get_or piece i 0 ∷ drop (i + 1) piece ≡ piece
around_byte piece i inside = ap (λ rest. take i piece ++ rest) (sym (rw (add-one, drop-cons piece i 0))) ∙ take-append-drop i piece
