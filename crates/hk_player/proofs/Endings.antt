-- How an input ends, as what all of it says.
use Rattle.std.proofs.Common.{◌≡◌, ℕ, List, ◌++◌, refl, sym, ◌∙◌, ap, subst, append_assoc, Bool, true, false, Option, Some, None, inl, inr}
use Rattle.hk_base.specs.Devices.{Took, Wrote, WroteFront, IsNothing}
use Rattle.hk_base.proofs.Taking.{Wrote-append}
use Rattle.hk_base.specs.declared.plain.Trouble.{Trouble}
use Rattle.hk_base.specs.declared.plain.Trouble.TheVariants.{ReadFault}
use Rattle.hk_spec_lines.specs.Lines.{trouble_line}
use Rattle.hk_spec_runs.specs.Outcome.{Task, Trades, IsWhole, IsStopped, IsReadFault, IsWriteFault}
use Rattle.hk_player.specs.Playing.{IsInForm, Ends, TearsEnd}
use Rattle.hk_player.specs.Pieces.{WasPlayed, HasLeft, HasTorn}

module _ (t : Task) where
  -- an input that is read isn't left unread
  unread : {P : Type 0} → t.reads ≡ true → t.reads ≡ false → P
  unread is isnt = absurd (let both : true ≡ false = sym is ∙ isnt in cc)

  module _ (r b o : List ℕ) (rest : Option (List ℕ)) (is : o ≡ t.text b r) where
    pub whole_end : (in_order : Bool) (last : List ℕ) → t.reads ≡ true → IsNothing rest → t.wrong b ≡ None → t.ended b r ≡ in_order → t.whole b r ≡ t.text b r ++ last
        → IsWhole t rest in_order b (o ++ last)
    whole_end in_order last reads nothing right ordered whole = record {
      to_the_end = λ reading. nothing;
      unread = λ never. unread reads never;
      refused = r;
      right = right;
      text = ap (λ all. all ++ last) is ∙ sym whole;
      ended = ordered;
    }

    pub stopped_end : (trouble : Trouble) → t.wrong b ≡ Some trouble → (t.met b ≡ None → IsNothing rest) → IsStopped t rest b (o ++ trouble_line trouble)
    stopped_end trouble wrong nothing = record {
      trouble = trouble;
      refused = r;
      first = wrong;
      at_the_end = nothing;
      text = ap (λ all. all ++ trouble_line trouble) is;
    }

    pub unread_end : IsInForm t b → IsReadFault t b (o ++ trouble_line ReadFault)
    unread_end form = record {
      reads = form.reads;
      refused = r;
      no_fault = form.no_fault;
      text = ap (λ all. all ++ trouble_line ReadFault) is;
    }

  module _ (reads : t.reads ≡ true) (R : Type 0) (rest : Option (List ℕ)) (b o missing : List ℕ) where
    pub torn_text : (r : List ℕ) → o ++ missing ≡ t.text b r → IsWriteFault t R rest b o
    torn_text r is = record { unread = λ never. unread reads never; more = missing; text = inl (r, is) }

    pub torn_whole : (in_order : Bool) → IsWhole t rest in_order b (o ++ missing) → IsWriteFault t R rest b o
    torn_whole in_order whole = record { unread = λ never. unread reads never; more = missing; text = inr (inl (in_order, whole)) }

    pub torn_stop : IsStopped t rest b (o ++ missing) → IsWriteFault t R rest b o
    torn_stop stopped = record { unread = λ never. unread reads never; more = missing; text = inr (inr (inl stopped)) }

    pub torn_read : R → IsReadFault t b (o ++ missing) → IsWriteFault t R rest b o
    torn_read failed told = record { unread = λ never. unread reads never; more = missing; text = inr (inr (inr (failed, told))) }

-- What a last line adds, whole or in front.
module _ (b o line : List ℕ) (x y u v w : Option (List ℕ)) (took : Took b x y) (wrote : Wrote o u v) where
  pub with_line : (P : List ℕ → List ℕ → Type 0) → Wrote line v w → P b (o ++ line) → Trades x y u w P
  with_line P last holds = (b, o ++ line, took, Wrote-append o line u v w wrote last, holds)

  pub with_front : (P Q : List ℕ → List ℕ → Type 0) → (front : WroteFront line v w) → P b (o ++ line)
      → ((o' missing : List ℕ) → P b (o' ++ missing) → Q b o') → Trades x y u w Q
  with_front P Q front holds so = (
    b,
    o ++ front.0,
    took,
    Wrote-append o front.0 u v w wrote front.4,
    so (o ++ front.0) front.1 (subst (P b) (ap (λ t. o ++ t) front.2 ∙ sym (append_assoc o front.0 front.1)) holds),
  )

-- All that was read was played, by a player whose task stayed.
module _ (t t' : Task) (same : t' ≡ t) (P : List ℕ → List ℕ → Type 0) (x y u v w : Option (List ℕ)) (played : Trades x y u v (WasPlayed P t)) (form' : IsInForm t' played.0) where
  abbrev b : List ℕ
  b = played.0

  abbrev o : List ℕ
  o = played.1

  abbrev r : List ℕ
  r = played.4.0

  form : IsInForm t played.0
  form = subst (λ k. IsInForm k played.0) same form'

  pub finished_whole : (in_order : Bool) → IsNothing y → Ends t' played.4.0 played.0 in_order v w → Trades x y u w (IsWhole t y in_order)
  finished_whole in_order nothing ends' =
      let ends : Ends t r b in_order v w = subst (λ k. Ends k r b in_order v w) same ends' in
      with_line b o _ x y u v w played.2 played.3 (IsWhole t y in_order) ends.2.2 (whole_end t r b o y played.4.2 in_order ends.2.0 form.reads nothing ends.0 ends.1 ends.2.1)

  pub finished_torn : (R : Type 0) → IsNothing y → TearsEnd t' played.4.0 played.0 v w → Trades x y u w (IsWriteFault t R y)
  finished_torn R nothing ends' =
      let ends : TearsEnd t r b v w = subst (λ k. TearsEnd k r b v w) same ends' in
      with_front b o _ x y u v w played.2 played.3 (IsWhole t y (t.ended b r)) (IsWriteFault t R y) ends.1.2
      (whole_end t r b o y played.4.2 (t.ended b r) ends.1.0 form.reads nothing ends.0 refl ends.1.1) (λ o' missing holds. torn_whole t form.reads R y b o' missing (t.ended b r) holds)

  wrong_end : (trouble : Trouble) → IsNothing y → t'.wrong played.0 ≡ Some trouble → IsStopped t y b (o ++ trouble_line trouble)
  wrong_end trouble nothing wrong = stopped_end t r b o y played.4.2 trouble (subst (λ k. k.wrong b ≡ Some trouble) same wrong) (λ none. nothing)

  pub wrong_told : (trouble : Trouble) → IsNothing y → t'.wrong played.0 ≡ Some trouble → Wrote (trouble_line trouble) v w → Trades x y u w (IsStopped t y)
  wrong_told trouble nothing wrong line = with_line b o _ x y u v w played.2 played.3 (IsStopped t y) line (wrong_end trouble nothing wrong)

  pub wrong_torn : (trouble : Trouble) (R : Type 0) → IsNothing y → t'.wrong played.0 ≡ Some trouble → WroteFront (trouble_line trouble) v w → Trades x y u w (IsWriteFault t R y)
  wrong_torn trouble R nothing wrong front = with_front b o _ x y u v w played.2 played.3 (IsStopped t y) (IsWriteFault t R y) front
      (wrong_end trouble nothing wrong) (λ o' missing holds. torn_stop t form.reads R y b o' missing holds)

  pub unread_told : Wrote (trouble_line ReadFault) v w → Trades x y u w (IsReadFault t)
  unread_told line = with_line b o _ x y u v w played.2 played.3 (IsReadFault t) line (unread_end t r b o y played.4.2 form)

  pub unread_torn : (R : Type 0) → R → WroteFront (trouble_line ReadFault) v w → Trades x y u w (IsWriteFault t R y)
  unread_torn R failed front = with_front b o _ x y u v w played.2 played.3 (IsReadFault t) (IsWriteFault t R y) front
      (unread_end t r b o y played.4.2 form) (λ o' missing holds. torn_read t form.reads R y b o' missing failed holds)

-- A fault or a failed write came before the end.
module _ (t : Task) (reads : t.reads ≡ true) (x y u v w : Option (List ℕ)) where
  left_end : (trouble : Trouble) (b o : List ℕ) (left : HasLeft t trouble b o) → IsStopped t y b (o ++ trouble_line trouble)
  left_end trouble b o left = stopped_end t left.0 b o y left.2 trouble left.1.wrong (λ none. absurd (let both : Some trouble ≡ None = sym left.1.met ∙ none in cc))

  pub left_told : (trouble : Trouble) → Trades x y u v (HasLeft t trouble) → Wrote (trouble_line trouble) v w → Trades x y u w (IsStopped t y)
  left_told trouble left line = with_line left.0 left.1 _ x y u v w left.2 left.3 (IsStopped t y) line (left_end trouble left.0 left.1 left.4)

  pub left_torn : (trouble : Trouble) (R : Type 0) → Trades x y u v (HasLeft t trouble) → WroteFront (trouble_line trouble) v w → Trades x y u w (IsWriteFault t R y)
  left_torn trouble R left front = with_front left.0 left.1 _ x y u v w left.2 left.3 (IsStopped t y) (IsWriteFault t R y) front
      (left_end trouble left.0 left.1 left.4) (λ o' missing holds. torn_stop t reads R y left.0 o' missing holds)

pub torn_end : (t : Task) → t.reads ≡ true → (x y u v : Option (List ℕ)) (R : Type 0) → Trades x y u v (HasTorn t) → Trades x y u v (IsWriteFault t R y)
torn_end t reads x y u v R torn = (torn.0, torn.1, torn.2, torn.3, torn_text t reads R y torn.0 torn.1 torn.4.1 torn.4.0 torn.4.2)
