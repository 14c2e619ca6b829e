-- The songs of all looks are known.
use Rattle.std.proofs.Common.{◌≡◌, ℕ, Bool, true, false, cond, Some, List, [], ◌∷◌, ◌++◌, map, slice_index_or, refl, sym, subst, All}
use Rattle.std.specs.Prelude.{is_some}
use Rattle.std.proofs.lemmas.List.Elements.{All-nil, All-cons, All-append}
use Rattle.hk_spec_streams.specs.Pieces.{completed}
use Rattle.hk_spec_streams.specs.Station.{fences, station_met}
use Rattle.hk_spec_streams.specs.Blocks.{blocks}
use Rattle.hk_spec_matching.specs.Catalogue.{Songs}
use Rattle.hk_spec_settings.specs.Settings.{Rules}
use Rattle.hk_spec_runs.specs.Replay.{Listener}
use Rattle.hk_spec_runs.specs.Listening.{Instant, IfLooked, looks_gained, looks_over, after_one, AreKnown}
use Rattle.hk_block.specs.Looker.{Past, KeepsPast}

-- the songs of this version are known
abbrev pub IsKnownIn : Past → ℕ → Type 0
IsKnownIn past v = (songs : Songs) × (past v ≡ Some songs)

all_one : {A : Type 0} (v : ℕ) (xs : List A) → All (λ w. w ≡ v) (map (λ x. v) xs)
all_one v [] = All-nil (λ w. w ≡ v)
all_one v (x ∷ xs) = All-cons (λ w. w ≡ v) v (map (λ x. v) xs) refl (all_one v xs)

none_or : (P : ℕ → Type 0) (b c : Bool) (rest : List ℕ) → All P rest → All P (cond b [] (cond c [] rest))
none_or P true c rest all = All-nil P
none_or P false true rest all = All-nil P
none_or P false false rest all = all

each_known : (past : Past) (v : ℕ) (songs : Songs) (looks : List ℕ) → All (λ w. w ≡ v) looks → IfLooked looks (past v ≡ Some songs) → All (IsKnownIn past) looks
each_known past v songs [] same known = All-nil (IsKnownIn past)
each_known past v songs (w ∷ looks) same known = λ k d less. subst (IsKnownIn past) (sym (same k d less)) (songs, known)

module _ (rules : Rules) where
  -- all looks of an instant are at its version
  looks_same : (l : Listener) (i : Instant) → All (λ w. w ≡ i.version) (looks_gained rules i.version l i.byte)
  looks_same l i =
      let used : List ℕ = l.used ++ i.byte ∷ [] in
      let bs : List ℕ = map (λ block. i.version) (completed (blocks rules.setting) used) in
      let fs : List ℕ = map (λ fence. i.version) (completed fences used) in
      none_or (λ w. w ≡ i.version) (is_some l.end) (is_some (station_met rules.bytes used)) (bs ++ fs)
      (All-append (λ w. w ≡ i.version) bs fs (all_one i.version (completed (blocks rules.setting) used)) (all_one i.version (completed fences used)))

  pub looks_known : (l : Listener) (instants : List Instant) (past : Past) → AreKnown rules l instants past → All (IsKnownIn past) (looks_over rules l instants)
  looks_known l [] past known = All-nil (IsKnownIn past)
  looks_known l (i ∷ rest) past known = All-append (IsKnownIn past) (looks_gained rules i.version l i.byte) (looks_over rules (after_one rules l i) rest)
      (each_known past i.version i.songs (looks_gained rules i.version l i.byte) (looks_same l i) known.0) (looks_known (after_one rules l i) rest past known.1)

-- songs that are known stay so where more becomes known
pub known_later : (before now : Past) (looks : List ℕ) → KeepsPast before now → All (IsKnownIn before) looks → All (IsKnownIn now) looks
known_later before now looks keeps known = λ k d less. let was = known k d less in (was.0, keeps (slice_index_or looks k d) was.0 was.1)
