-- The summary's lines of the stations, one after another.
use Rattle.std.proofs.Common.{◌≡◌, ℕ, zero, suc, ◌+◌, ◌<◌, List, [], ◌∷◌, ◌++◌, length, take, drop, refl, sym, ◌∙◌, ap, subst, arith, append-nil, Bool, true, false, Some}
use Rattle.std.specs.Prelude.{slice_get, slice_set, flat_map, ◌&&◌, is_none, unwrap_or}
use Rattle.std.specs.List.{enumerate_from, list_all}
use Rattle.std.proofs.lemmas.List.{take-append-drop, length-take-le}
use Rattle.std.proofs.lemmas.List.Folds.{list_all-append}
use Rattle.std.proofs.lemmas.List.Concat.{flat_map-append}
use Rattle.std.proofs.lemmas.Option.{slice_get_within}
use Rattle.hk_base.specs.Writing.{HasWritten, HasFailed}
use Rattle.hk_base.specs.declared.sink.Sink.{Ghosts}
use Rattle.hk_base.proofs.Writing.{written-append, failed_within, failed_behind}
use Rattle.hk_spec_streams.specs.Station.{station_wrong}
use Rattle.hk_spec_streams.proofs.GrowingBlocks.{enumerate-append}
use Rattle.hk_spec_settings.specs.Settings.{Rules}
use Rattle.hk_spec_runs.specs.Replay.{Listener}
use Rattle.hk_run.specs.Course.{listener_line, lines_from, station_lines, is_in_order, all_ended}

module _ {A : Type 0} where
  next_taken : (xs : List A) (i : ℕ) (x : A) → slice_get xs i ≡ Some x → take (suc i) xs ≡ take i xs ++ x ∷ []
  next_taken [] i x is = cc
  next_taken (y ∷ xs) zero x is = ap (λ o. unwrap_or o y ∷ []) is
  next_taken (y ∷ xs) (suc i) x is = ap (λ ys. y ∷ ys) (next_taken xs i x is)

  first_left : (xs : List A) (i : ℕ) → slice_get xs i ≡ slice_get (drop i xs) 0
  first_left [] zero = refl
  first_left [] (suc i) = refl
  first_left (y ∷ xs) zero = refl
  first_left (y ∷ xs) (suc i) = first_left xs i

  -- the items behind one are the same after it was exchanged
  others_stay : (xs : List A) (i : ℕ) (x : A) → drop (suc i) (slice_set xs i x) ≡ drop (suc i) xs
  others_stay [] i x = refl
  others_stay (y ∷ xs) zero x = refl
  others_stay (y ∷ xs) (suc i) x = others_stay xs i x

  fewer_left : (xs ys : List A) (i : ℕ) → drop i xs ≡ drop i ys → drop (suc i) xs ≡ drop (suc i) ys
  fewer_left xs ys i is = sym (one_less xs i) ∙ ap (drop 1) is ∙ one_less ys i
    where
      one_less : (zs : List A) (n : ℕ) → drop 1 (drop n zs) ≡ drop (suc n) zs
      one_less [] zero = refl
      one_less [] (suc n) = refl
      one_less (z ∷ zs) zero = refl
      one_less (z ∷ zs) (suc n) = one_less zs n

  pub still_left : (old now : List A) (i : ℕ) (x : A) → drop i now ≡ drop i old → drop (i + 1) (slice_set now i x) ≡ drop (i + 1) old
  still_left old now i x is =
      let one : suc i ≡ i + 1 = omega arith in
      subst (λ n. drop n (slice_set now i x) ≡ drop n old) one (others_stay now i x ∙ fewer_left now old i is)

  pub still_there : (old now : List A) (i : ℕ) (x : A) → drop i now ≡ drop i old → slice_get now i ≡ Some x → slice_get old i ≡ Some x
  still_there old now i x is there = first_left old i ∙ ap (λ zs. slice_get zs 0) (sym is) ∙ sym (first_left now i) ∙ there

four_tests : (a b p q : Bool) → ((a && (p && true)) && (b && (q && true))) ≡ ((a && b) && (p && q))
four_tests true true true q = and_true q
  where
    and_true : (q : Bool) → (q && true) ≡ q
    and_true true = refl
    and_true false = refl
four_tests true true false q = refl
four_tests true false true q = refl
four_tests true false false q = refl
four_tests false b p q = refl

module _ (rules : Rules) (listeners : List Listener) (i : ℕ) (l : Listener) (there : slice_get listeners i ≡ Some l) where
  taken : take (i + 1) listeners ≡ take i listeners ++ l ∷ []
  taken =
      let one : suc i ≡ i + 1 = omega arith in
      subst (λ n. take n listeners ≡ take i listeners ++ l ∷ []) one (next_taken listeners i l there)

  lines_more : station_lines rules (take (i + 1) listeners) ≡ station_lines rules (take i listeners) ++ listener_line rules (i, l)
  lines_more =
      let long : length (take i listeners) ≡ i = length-take-le i listeners (let inside : i < length listeners = slice_get_within listeners i l there in omega (arith, inside)) in
      let number : 0 + length (take i listeners) ≡ i = omega (arith, long) in
      ap (station_lines rules) taken
      ∙ ap (flat_map (listener_line rules)) (enumerate-append 0 (take i listeners) (l ∷ []))
      ∙ flat_map-append (listener_line rules) (enumerate_from 0 (take i listeners)) (enumerate_from (0 + length (take i listeners)) (l ∷ []))
      ∙ ap (λ t. station_lines rules (take i listeners) ++ t) (append-nil (listener_line rules (0 + length (take i listeners), l)))
      ∙ ap (λ n. station_lines rules (take i listeners) ++ listener_line rules (n, l)) number

  pub wrote_more : {K : Type 0} {sink : Ghosts K} {x y z : K} → HasWritten sink (station_lines rules (take i listeners)) x y → HasWritten sink (listener_line rules (i, l)) y z
      → HasWritten sink (station_lines rules (take (i + 1) listeners)) x z
  wrote_more {sink = sink} {x = x} {z = z} first second = subst (λ t. HasWritten sink t x z) (sym lines_more) (written-append first second)

  pub ended_more : (all now : Bool) → all ≡ all_ended rules (take i listeners) → now ≡ is_in_order rules l → (all && now) ≡ all_ended rules (take (i + 1) listeners)
  ended_more all now so_far this =
      ap (λ t. t && now) so_far ∙ ap (λ t. all_ended rules (take i listeners) && t) this
      ∙ sym (ap (all_ended rules) taken
      ∙ ap (λ t. t && list_all (λ (m : Listener). is_none (station_wrong rules.bytes m.used)) (take i listeners ++ l ∷ [])) (list_all-append (λ (m : Listener). is_none m.end) (take i listeners) (l ∷ []))
      ∙ ap (λ t. (list_all (λ (m : Listener). is_none m.end) (take i listeners) && (is_none l.end && true)) && t) (list_all-append (λ (m : Listener). is_none (station_wrong rules.bytes m.used)) (take i listeners) (l ∷ []))
      ∙ four_tests (list_all (λ (m : Listener). is_none m.end) (take i listeners)) (list_all (λ (m : Listener). is_none (station_wrong rules.bytes m.used)) (take i listeners)) (is_none l.end) (is_none (station_wrong rules.bytes l.used)))

  rest : (more : List ℕ) × (station_lines rules listeners ≡ station_lines rules (take (i + 1) listeners) ++ more)
  rest =
      let front : List Listener = take (i + 1) listeners in (
        lines_from rules (0 + length front) (drop (i + 1) listeners),
        ap (station_lines rules) (sym (take-append-drop (i + 1) listeners))
            ∙ ap (flat_map (listener_line rules)) (enumerate-append 0 front (drop (i + 1) listeners))
            ∙ flat_map-append (listener_line rules) (enumerate_from 0 front) (enumerate_from (0 + length front) (drop (i + 1) listeners)),
      )

  pub torn_there : {K : Type 0} {sink : Ghosts K} {x y z : K} → HasWritten sink (station_lines rules (take i listeners)) x y → HasFailed sink (listener_line rules (i, l)) y z
      → HasFailed sink (station_lines rules listeners) x z
  torn_there {sink = sink} {x = x} {z = z} first torn =
      subst (λ t. HasFailed sink t x z) (sym (rest.1 ∙ ap (λ t. t ++ rest.0) lines_more)) (failed_within rest.0 (failed_behind first torn))

-- the line of a listener, by its station's number
pub numbered_at : (P : List ℕ → Type 0) (rules : Rules) (l : Listener) (n i : ℕ) → n ≡ 0 + i → P (listener_line rules (n, l)) → P (listener_line rules (i, l))
numbered_at P rules l n i same holds = let number : n ≡ i = omega (arith, same) in subst (λ k. P (listener_line rules (k, l))) number holds
