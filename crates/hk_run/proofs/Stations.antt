-- Stations and their listeners, one after another.
use Rattle.std.proofs.Common.{◌≡◌, ℕ, zero, suc, ◌+◌, List, [], ◌∷◌, ◌++◌, length, refl, ap, subst, arith, Some, None}
use Rattle.std.specs.Prelude.{slice_get, slice_set, unwrap_or}
use Rattle.hk_spec_settings.specs.Settings.{Rules}
use Rattle.hk_spec_runs.specs.Replay.{Listener}
use Rattle.hk_station.specs.Hearing.{IsHearing, station_number}
use Rattle.hk_station.specs.declared.station.Station.{Station}
use Rattle.hk_run.specs.Holding.{Numbered, AreHearing}

module _ {A B : Type 0} (P : ℕ → A → B → Type 0) where
  none_isnt : (x : A) → None ≡ Some x → ⊥
  none_isnt x is = cc

  -- one of them
  pub find : (n : ℕ) (xs : List A) (ys : List B) (i : ℕ) (x : A) → Numbered P n xs ys → slice_get xs i ≡ Some x → (y : B) × (slice_get ys i ≡ Some y) × P (n + i) x y
  unfolding Numbered
  find n [] ys i x h is = absurd (none_isnt x is)
  find n (z ∷ xs) [] i x h is = absurd h
  find n (z ∷ xs) (y ∷ ys) zero x h is =
      let same : z ≡ x = ap (λ o. unwrap_or o z) is in
      let number : n ≡ n + 0 = omega arith in
      (y, refl, subst (λ m. P m x y) number (subst (λ v. P n v y) same h.0))
  find n (z ∷ xs) (y ∷ ys) (suc i) x h is =
      let later = find (n + 1) xs ys i x h.1 is in
      let number : n + 1 + i ≡ n + suc i = omega arith in
      (later.0, later.1, subst (λ m. P m x later.0) number later.2)

  -- one of them is exchanged
  pub exchange : (n : ℕ) (xs : List A) (ys : List B) (i : ℕ) (x : A) (y : B) → Numbered P n xs ys → P (n + i) x y → Numbered P n (slice_set xs i x) (slice_set ys i y)
  unfolding Numbered
  exchange n [] [] i x y h p = tt
  exchange n [] (w ∷ ys) i x y h p = absurd h
  exchange n (z ∷ xs) [] i x y h p = absurd h
  exchange n (z ∷ xs) (w ∷ ys) zero x y h p = let number : n + 0 ≡ n = omega arith in (subst (λ m. P m x y) number p, h.1)
  exchange n (z ∷ xs) (w ∷ ys) (suc i) x y h p = let number : n + suc i ≡ n + 1 + i = omega arith in (h.0, exchange (n + 1) xs ys i x y h.1 (subst (λ m. P m x y) number p))

  -- one comes behind them
  pub join : (n : ℕ) (xs : List A) (ys : List B) (x : A) (y : B) → Numbered P n xs ys → P (n + length xs) x y → Numbered P n (xs ++ x ∷ []) (ys ++ y ∷ [])
  unfolding Numbered
  join n [] [] x y h p = let number : n + 0 ≡ n = omega arith in (subst (λ m. P m x y) number p, tt)
  join n [] (w ∷ ys) x y h p = absurd h
  join n (z ∷ xs) [] x y h p = absurd h
  join n (z ∷ xs) (w ∷ ys) x y h p = let number : n + suc (length xs) ≡ n + 1 + length xs = omega arith in (h.0, join (n + 1) xs ys x y h.1 (subst (λ m. P m x y) number p))

  -- there are as many
  pub as_many : (n : ℕ) (xs : List A) (ys : List B) → Numbered P n xs ys → length xs ≡ length ys
  unfolding Numbered
  as_many n [] [] h = refl
  as_many n [] (w ∷ ys) h = absurd h
  as_many n (z ∷ xs) [] h = absurd h
  as_many n (z ∷ xs) (w ∷ ys) h = ap suc (as_many (n + 1) xs ys h.1)

-- a station and its listener
pub record Found (rules : Rules) (n : ℕ) (station : Station) (listeners : List Listener) (i : ℕ) : Type 0 where
  pub listener : Listener
  pub there : slice_get listeners i ≡ Some listener
  pub hears : IsHearing rules station listener
  pub number : station_number station ≡ n + i

Hears : Rules → ℕ → Station → Listener → Type 0
Hears rules i station l = IsHearing rules station l × (station_number station ≡ i)

pub found : (rules : Rules) (n : ℕ) (stations : List Station) (listeners : List Listener) (i : ℕ) (station : Station) → AreHearing rules n stations listeners
    → slice_get stations i ≡ Some station → Found rules n station listeners i
unfolding Hears
found rules n stations listeners i station h is =
    let f = find (Hears rules) n stations listeners i station h is in
    record { listener = f.0; there = f.1; hears = f.2.0; number = f.2.1 }

pub exchanged : (rules : Rules) (n : ℕ) (stations : List Station) (listeners : List Listener) (i : ℕ) (station : Station) (l : Listener) → AreHearing rules n stations listeners
    → IsHearing rules station l → station_number station ≡ n + i → AreHearing rules n (slice_set stations i station) (slice_set listeners i l)
unfolding Hears
exchanged rules n stations listeners i station l h hears number = exchange (Hears rules) n stations listeners i station l h (hears, number)

pub joined : (rules : Rules) (n : ℕ) (stations : List Station) (listeners : List Listener) (station : Station) (l : Listener) → AreHearing rules n stations listeners
    → IsHearing rules station l → station_number station ≡ n + length stations → AreHearing rules n (stations ++ station ∷ []) (listeners ++ l ∷ [])
unfolding Hears
joined rules n stations listeners station l h hears number = join (Hears rules) n stations listeners station l h (hears, number)

pub all_of : (rules : Rules) (n : ℕ) (stations : List Station) (listeners : List Listener) → AreHearing rules n stations listeners → length stations ≡ length listeners
unfolding Hears
all_of rules n stations listeners h = as_many (Hears rules) n stations listeners h
