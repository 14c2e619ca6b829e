-- What all bytes of a station complete, beside the looks that were made, and how a fence ended it.
use Rattle.std.proofs.Common.{◌≡◌, ◌≤◌, ◌<◌, ℕ, ◌+◌, false, cond, Some, None, List, [], ◌∷◌, ◌++◌, map, length, refl, sym, ◌∙◌, ap, subst, arith, append_assoc, append-nil, length-append, inl, inr}
use Rattle.std.specs.Prelude.{unwrap_or}
use Rattle.std.proofs.lemmas.Bool.{lt-ltb, le-ltb}
use Rattle.std.proofs.lemmas.Bool.Decides.{leb_tells}
use Rattle.std.proofs.lemmas.List.{length-map}
use Rattle.hk_base.specs.declared.plain.End.{End}
use Rattle.hk_base.specs.declared.plain.End.TheVariants as ends
use Rattle.hk_spec_streams.specs.Station.{Fence, fences}
use Rattle.hk_spec_streams.specs.Pieces.{completed}
use Rattle.hk_spec_streams.specs.Blocks.{Block, Moment, Full, Asks, moments}
use Rattle.hk_spec_streams.proofs.Optional.{none_or_some}
use Rattle.hk_spec_settings.specs.Settings.{Rules}
use Rattle.hk_spec_runs.specs.Replay.{Listener}
use Rattle.hk_spec_runs.specs.Listening.{Instant, looks_gained, after_one, after, looks_over, versions_over}
use Rattle.hk_spec_runs.proofs.Listening.{next_over}
use Rattle.hk_spec_monitor.specs.Looks.{versions_of_blocks, AreMet}
use Rattle.hk_account.proofs.Moments.{looks_at-moments, blocks_at, none_ahead}
use Rattle.hk_account.proofs.Steps.{was_ahead, moments_for, looks_for, first_ahead, version_after, Step, step}

-- These instants complete these moments, each with a look.
pub record Sum (rules : Rules) (l : Listener) (instants : List Instant) : Type 0 where
  pub new : List Moment
  pub stay : moments rules.setting (after rules l instants).used ≡ moments rules.setting l.used ++ new
  pub as_many : length (looks_over rules l instants) ≡ length new
  pub blocks : versions_of_blocks new (looks_over rules l instants) ≡ versions_over rules l instants
  pub met : was_ahead (after rules l instants).end ≡ false → AreMet new (looks_over rules l instants)
  pub version : (after rules l instants).version ≡ version_after l.version (looks_over rules l instants)

-- They end a listener by a fence that is ahead, and that comes last.
pub record Ahead (rules : Rules) (l : Listener) (instants : List Instant) (asked found : ℕ) : Type 0 where
  pub less : found < asked
  pub front : List Moment
  pub before : List ℕ
  pub stay : moments rules.setting (after rules l instants).used ≡ moments rules.setting l.used ++ (front ++ Asks asked ∷ [])
  pub looks : looks_over rules l instants ≡ before ++ found ∷ []
  pub one_each : length before ≡ length front
  pub met : AreMet front before

-- At most one fence is complete with a byte.
abbrev pub OneFence : Type 0
OneFence = (text : List ℕ) (b : ℕ) → length (completed fences (text ++ b ∷ [])) ≤ 1

version_after-append : (v : ℕ) (xs ys : List ℕ) → version_after v (xs ++ ys) ≡ version_after (version_after v xs) ys
version_after-append v [] ys = refl
version_after-append v (x ∷ xs) ys = version_after-append x xs ys

-- a front without fences is met
blocks_met : (v : ℕ) (bs : List Block) → AreMet (map Full bs) (map (λ block. v) bs)
blocks_met v [] = tt
blocks_met v (b ∷ bs) = blocks_met v bs

module _ (rules : Rules) where
  -- a listener that is over stays
  after_over : (l : Listener) (end : End) (instants : List Instant) → l.end ≡ Some end → after rules l instants ≡ l
  after_over l end [] over = refl
  after_over l end (i ∷ rest) over = ap (λ m. after rules m rest) (next_over rules l i end over) ∙ after_over l end rest over

  looks_none : (l : Listener) (end : End) (i : Instant) → l.end ≡ Some end → looks_gained rules i.version l i.byte ≡ []
  looks_none l end i over =
      let this : Step rules l i = step rules l i in
      this.looks ∙ ap (λ bs. looks_for i.version bs this.fs) (this.over end over).0 ∙ ap (λ fs. looks_for i.version [] fs) (this.over end over).1

  looks_over-over : (l : Listener) (end : End) (instants : List Instant) → l.end ≡ Some end → looks_over rules l instants ≡ []
  looks_over-over l end [] over = refl
  looks_over-over l end (i ∷ rest) over =
      ap (λ looks. looks ++ looks_over rules (after_one rules l i) rest) (looks_none l end i over)
      ∙ ap (λ m. looks_over rules m rest) (next_over rules l i end over) ∙ looks_over-over l end rest over

  -- an end that comes later tells of this one
  not_before : (l : Listener) (rest : List Instant) → was_ahead (after rules l rest).end ≡ false → was_ahead l.end ≡ false
  not_before l rest later = elim (none_or_some l.end) [
    | inl going ↦ ap was_ahead going
    | inr over ↦ sym (ap (λ (m : Listener). was_ahead m.end) (after_over l over.0 rest over.1)) ∙ later
  ]

  pub sum : (l : Listener) (instants : List Instant) → Sum rules l instants
  sum l [] = record {
    new = [];
    stay = sym (append-nil (moments rules.setting l.used));
    as_many = refl;
    blocks = refl;
    met = λ later. tt;
    version = refl;
  }
  sum l (i ∷ rest) =
      let this : Step rules l i = step rules l i in
      let more : Sum rules (after_one rules l i) rest = sum (after_one rules l i) rest in
      let ms : List Moment = moments_for this.bs this.fs in
      let vs : List ℕ = looks_for i.version this.bs this.fs in
      let tail : List ℕ = looks_over rules (after_one rules l i) rest in
      let looks : looks_over rules l (i ∷ rest) ≡ vs ++ tail = ap (λ looks. looks ++ tail) this.looks in
      record {
        new = ms ++ more.new;
        stay = more.stay ∙ ap (λ front. front ++ more.new) this.stay ∙ append_assoc (moments rules.setting l.used) ms more.new;
        as_many =
            let front : length vs ≡ length ms = looks_at-moments i.version this.bs this.fs in
            let total : length (vs ++ tail) ≡ length vs + length tail = length-append vs tail in
            let all : length (ms ++ more.new) ≡ length ms + length more.new = length-append ms more.new in
            let same : length (looks_over rules l (i ∷ rest)) ≡ length (vs ++ tail) = ap length looks in
            omega (arith, front, total, all, same, more.as_many);
        blocks = ap (versions_of_blocks (ms ++ more.new)) looks ∙ blocks_at i.version this.bs this.fs more.new tail
            ∙ ap (λ rest. map (λ block. i.version) this.bs ++ rest) more.blocks
            ∙ ap (λ front. front ++ versions_over rules (after_one rules l i) rest) (sym this.gained);
        met = λ later. subst (AreMet (ms ++ more.new)) (sym looks)
            (none_ahead i.version this.fs more.new tail this.bs (this.wire (not_before (after_one rules l i) rest later)) (more.met later));
        version = more.version ∙ ap (λ v. version_after v tail) this.version ∙ sym (version_after-append l.version vs tail) ∙ ap (version_after l.version) (sym looks);
      }

  -- one fence that asks for more
  only_fence : (v asked : ℕ) (fs : List Fence) → length fs ≤ 1 → first_ahead v fs ≡ Some asked → (fence : Fence) × (fs ≡ fence ∷ []) × (fence.asked ≡ asked) × (v < asked)
  only_fence v asked [] few is = absurd (let no : None ≡ Some asked = is in cc)
  only_fence v asked (f ∷ g ∷ fs) few is = absurd (omega (arith, few))
  only_fence v asked (f ∷ []) few is = elim (leb_tells f.asked v) [
    | inl below ↦ absurd (let no : None ≡ Some asked = sym (ap (λ c. cond c (Some f.asked) None) (le-ltb v f.asked below.1)) ∙ is in cc)
    | inr above ↦
        let same : Some f.asked ≡ Some asked = sym (ap (λ c. cond c (Some f.asked) None) (lt-ltb v f.asked above.1)) ∙ is in
        let one : f.asked ≡ asked = ap (λ o. unwrap_or o 0) same in
        (f, refl, one, omega (arith, one, above.1))
  ]

  pub ahead : OneFence → (l : Listener) (instants : List Instant) (asked found : ℕ) → l.end ≡ None → (after rules l instants).end ≡ Some (ends.FenceAhead asked found) → Ahead rules l instants asked found
  ahead one l [] asked found going is = absurd (let no : Some (ends.FenceAhead asked found) ≡ None = sym is ∙ going in cc)
  ahead one l (i ∷ rest) asked found going is =
      let next : Listener = after_one rules l i in
      let this : Step rules l i = step rules l i in
      elim (none_or_some next.end) [
        | inr over ↦
            let stays : after rules next rest ≡ next = after_over next over.0 rest over.1 in
            let now : next.end ≡ Some (ends.FenceAhead asked found) = sym (ap (λ (m : Listener). m.end) stays) ∙ is in
            let waits = this.waits asked found going now in
            let fence = only_fence i.version asked this.fs (subst (λ fs. length fs ≤ 1) (sym waits.2) (one l.used i.byte)) waits.1 in
            record {
              less = let same : found ≡ i.version = waits.0 in omega (arith, same, fence.3);
              front = map Full this.bs;
              before = map (λ block. i.version) this.bs;
              stay = ap (λ (m : Listener). moments rules.setting m.used) stays ∙ this.stay
                  ∙ ap (λ fs. moments rules.setting l.used ++ moments_for this.bs fs) fence.1
                  ∙ ap (λ a. moments rules.setting l.used ++ (map Full this.bs ++ Asks a ∷ [])) fence.2;
              looks = ap (λ looks. looks ++ looks_over rules next rest) this.looks ∙ ap (λ tail. looks_for i.version this.bs this.fs ++ tail) (looks_over-over next over.0 rest over.1)
                  ∙ append-nil (looks_for i.version this.bs this.fs) ∙ ap (looks_for i.version this.bs) fence.1
                  ∙ ap (λ v. map (λ block. i.version) this.bs ++ v ∷ []) (sym waits.0);
              one_each = length-map this.bs (λ block. i.version) ∙ sym (length-map this.bs Full);
              met = blocks_met i.version this.bs;
            }
        | inl goes ↦
            let more : Ahead rules next rest asked found = ahead one next rest asked found goes is in
            let ms : List Moment = moments_for this.bs this.fs in
            let vs : List ℕ = looks_for i.version this.bs this.fs in
            record {
              less = more.less;
              front = ms ++ more.front;
              before = vs ++ more.before;
              stay = more.stay ∙ ap (λ front. front ++ (more.front ++ Asks asked ∷ [])) this.stay ∙ append_assoc (moments rules.setting l.used) ms (more.front ++ Asks asked ∷ [])
                  ∙ ap (λ rest. moments rules.setting l.used ++ rest) (sym (append_assoc ms more.front (Asks asked ∷ [])));
              looks = ap (λ looks. looks ++ looks_over rules next rest) this.looks ∙ ap (λ tail. vs ++ tail) more.looks ∙ sym (append_assoc vs more.before (found ∷ []));
              one_each =
                  let front : length vs ≡ length ms = looks_at-moments i.version this.bs this.fs in
                  let total : length (vs ++ more.before) ≡ length vs + length more.before = length-append vs more.before in
                  let all : length (ms ++ more.front) ≡ length ms + length more.front = length-append ms more.front in
                  omega (arith, front, total, all, more.one_each);
              met = none_ahead i.version this.fs more.front more.before this.bs (this.goes goes) more.met;
            }
      ]
