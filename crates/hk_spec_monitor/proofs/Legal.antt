-- Lines that list exactly the matches of their versions make one legal history.
use Rattle.std.proofs.Common.{◌≡◌, ◌≤◌, ℕ, zero, suc, ◌+◌, Bool, true, false, cond, Some, List, [], ◌∷◌, ◌++◌, map, length, take, fold, flat_map, zip, slice_get, refl, ◌∙◌, ap, subst, arith, eqb-true, le-leb, add-one}
use Rattle.std.specs.Prelude.{◌==◌, unwrap_or, is_none, ⊤}
use Rattle.std.specs.List.{enumerate_from}
use Rattle.hk_spec_streams.specs.Blocks.{Block}
use Rattle.hk_spec_matching.specs.Catalogue.{Songs, Edit, Journal, Limits, edited_by, version}
use Rattle.hk_spec_matching.specs.Matching.{matches}
use Rattle.hk_spec_settings.specs.Settings.{Rules}
use Rattle.hk_spec_runs.specs.History.{Reported, Look, Event, Published, Looked, looks_of, looks_at, history, IsLegalFrom}
use Rattle.hk_spec_monitor.specs.Run.{Heard, songs_seen, stations_of, blocks_heard}
use Rattle.hk_spec_monitor.specs.Laws.{LinesAreLegal}

pub some_of : {A : Type 0} (x y : A) → Some x ≡ Some y → x ≡ y
some_of x y same = ap (λ o. unwrap_or o x) same

-- looks that list exactly the matches in these songs
abbrev AreAnswered : Songs → List Event → Type 0
AreAnswered songs [] = ⊤
AreAnswered songs (Published batch ∷ events) = ⊥
AreAnswered songs (Looked look ∷ events) = (look.answer ≡ matches look.block.query songs) × AreAnswered songs events

answered-append : (songs : Songs) (xs ys : List Event) → AreAnswered songs xs → AreAnswered songs ys → AreAnswered songs (xs ++ ys)
answered-append songs [] ys first second = second
answered-append songs (Published batch ∷ xs) ys first second = absurd first
answered-append songs (Looked look ∷ xs) ys first second = (first.0, answered-append songs xs ys first.1 second)

-- at a version, of a look that was made at it
answered-if : (songs : Songs) (c : Bool) (look : Look) → (c ≡ true → look.answer ≡ matches look.block.query songs) → AreAnswered songs (cond c (Looked look ∷ []) [])
answered-if songs true look right = (right refl, tt)
answered-if songs false look right = tt

-- what these looks leave to what follows them
after_looks : (limits : Limits) (songs : Songs) (looks rest : List Event) → AreAnswered songs looks → IsLegalFrom limits songs rest → IsLegalFrom limits songs (looks ++ rest)
after_looks limits songs [] rest answered legal = legal
after_looks limits songs (Published batch ∷ looks) rest answered legal = absurd answered
after_looks limits songs (Looked look ∷ looks) rest answered legal = (answered.0, after_looks limits songs looks rest answered.1 legal)

-- the matches of a station's lines at one version
abbrev ListsAt : ℕ → Songs → List Block → List Reported → Type 0
ListsAt v songs blocks reported = (n : ℕ) (block : Block) (r : Reported) → slice_get blocks n ≡ Some block → slice_get reported n ≡ Some r → r.version ≡ v
    → r.list ≡ matches block.query songs

module _ (v : ℕ) (songs : Songs) where
  abbrev look_of : ℕ → ℕ × (Block × Reported) → List Event
  look_of station p = cond (p.1.1.version == v) (Looked (record { station = station; number = p.0; block = p.1.0; answer = p.1.1.list }) ∷ []) []

  station_answered : (station k : ℕ) (blocks : List Block) (reported : List Reported) → ListsAt v songs blocks reported
      → AreAnswered songs (flat_map (look_of station) (enumerate_from k (zip blocks reported)))
  station_answered station k [] [] lists = tt
  station_answered station k [] (r ∷ rs) lists = tt
  station_answered station k (b ∷ bs) [] lists = tt
  station_answered station k (b ∷ bs) (r ∷ rs) lists =
      answered-append songs (look_of station (k, (b, r))) (flat_map (look_of station) (enumerate_from (k + 1) (zip bs rs)))
      (answered-if songs (r.version == v) (record { station = station; number = k; block = b; answer = r.list }) (λ is. lists 0 b r refl refl (eqb-true r.version v is)))
      (station_answered station (k + 1) bs rs (λ n block q at_b at_r. lists (suc n) block q at_b at_r))

  stations_answered : (rules : Rules) (k : ℕ) (stations : List Heard) → ((n : ℕ) (h : Heard) → slice_get stations n ≡ Some h → ListsAt v songs (blocks_heard rules h) h.reported)
      → AreAnswered songs (flat_map (λ (p : ℕ × (List Block × List Reported)). looks_of v p.0 p.1.0 p.1.1) (enumerate_from k (map (λ h. (blocks_heard rules h, h.reported)) stations)))
  stations_answered rules k [] lists = tt
  stations_answered rules k (h ∷ hs) lists =
      answered-append songs (looks_of v k (blocks_heard rules h) h.reported) (flat_map (λ (p : ℕ × (List Block × List Reported)). looks_of v p.0 p.1.0 p.1.1) (enumerate_from (k + 1) (map (λ h. (blocks_heard rules h, h.reported)) hs)))
      (station_answered k 0 (blocks_heard rules h) h.reported (lists 0 h refl))
      (stations_answered rules (k + 1) hs (λ n g at. lists (suc n) g at))

-- The songs of each version come from those before by the batch between them.
abbrev Steps : Limits → (ℕ → Songs) → ℕ → Journal → Type 0
Steps limits at v [] = ⊤
Steps limits at v (batch ∷ more) = (at (v + 1) ≡ edited_by limits (at v) batch) × Steps limits at (v + 1) more

fold_next : (limits : Limits) (songs : Songs) (journal : Journal) (v : ℕ) (batch : List Edit) → slice_get journal v ≡ Some batch
    → fold (edited_by limits) songs (take (suc v) journal) ≡ edited_by limits (fold (edited_by limits) songs (take v journal)) batch
fold_next limits songs [] v batch at = absurd (subst (λ o. cond (is_none o) ⊤ ⊥) at tt)
fold_next limits songs (first ∷ rest) zero batch at = ap (edited_by limits songs) (some_of first batch at)
fold_next limits songs (first ∷ rest) (suc v) batch at = fold_next limits (edited_by limits songs first) rest v batch at

version_next : (limits : Limits) (journal : Journal) (v : ℕ) (batch : List Edit) → slice_get journal v ≡ Some batch → version limits journal (v + 1) ≡ edited_by limits (version limits journal v) batch
unfolding version
version_next limits journal v batch at = ap (λ n. fold (edited_by limits) [] (take n journal)) (add-one v) ∙ fold_next limits [] journal v batch at

steps : (limits : Limits) (journal : Journal) (v : ℕ) (rest : Journal) → ((n : ℕ) (batch : List Edit) → slice_get rest n ≡ Some batch → slice_get journal (v + n) ≡ Some batch)
    → Steps limits (version limits journal) v rest
steps limits journal v [] behind = tt
steps limits journal v (batch ∷ more) behind =
    let here : v + 0 ≡ v = omega arith in (
      version_next limits journal v batch (subst (λ n. slice_get journal n ≡ Some batch) here (behind 0 batch refl)),
      steps limits journal (v + 1) more (λ n next at.
          let there : v + suc n ≡ v + 1 + n = omega arith in
          subst (λ m. slice_get journal m ≡ Some next) there (behind (suc n) next at)),
    )

legal_from : (limits : Limits) (at : ℕ → Songs) (stations : List (List Block × List Reported)) (top v : ℕ) (rest : Journal) → v + length rest ≤ top → Steps limits at v rest
    → ((w : ℕ) → w ≤ top → AreAnswered (at w) (looks_at w stations))
    → IsLegalFrom limits (at v) (flat_map (λ p. Published p.1 ∷ looks_at p.0 stations) (enumerate_from (v + 1) rest))
legal_from limits at stations top v [] within step answered = tt
legal_from limits at stations top v (batch ∷ more) within step answered =
    let events : List Event = flat_map (λ p. Published p.1 ∷ looks_at p.0 stations) (enumerate_from (v + 1 + 1) more) in
    let rest : IsLegalFrom limits (at (v + 1)) events = legal_from limits at stations top (v + 1) more (omega (arith, within)) step.1 answered in
    subst (λ songs. IsLegalFrom limits songs (looks_at (v + 1) stations ++ events)) step.0
    (after_looks limits (at (v + 1)) (looks_at (v + 1) stations) events (answered (v + 1) (omega (arith, within))) rest)

version_zero : (limits : Limits) (journal : Journal) → version limits journal 0 ≡ []
unfolding version
version_zero limits [] = refl
version_zero limits (batch ∷ journal) = refl

-- the law
pub lines_are_legal : (rules : Rules) → LinesAreLegal rules
unfolding history
lines_are_legal rules run past lines =
    let journal : Journal = run.journal in
    let stations : List (List Block × List Reported) = stations_of rules run in
    let answered : (w : ℕ) → w ≤ length journal → AreAnswered (version rules.limits journal w) (looks_at w stations) = λ w within.
    stations_answered w (version rules.limits journal w) rules 0 run.stations (λ n h at m block r at_block at_line is.
    (lines n h at).lists m block r at_block at_line
    ∙ ap (λ u. matches block.query (songs_seen rules journal (past n) u)) is
    ∙ ap (λ c. matches block.query (cond c (version rules.limits journal w) (unwrap_or (past n w) []))) (le-leb w (length journal) within)) in
    let start : version rules.limits journal 0 ≡ [] = version_zero rules.limits journal in
    let from : IsLegalFrom rules.limits (version rules.limits journal 0) (flat_map (λ p. Published p.1 ∷ looks_at p.0 stations) (enumerate_from 1 journal)) =
    legal_from rules.limits (version rules.limits journal) stations (length journal) 0 journal (omega arith) (steps rules.limits journal 0 journal (λ n batch at. subst (λ m. slice_get journal m ≡ Some batch) (omega arith) at)) answered in
    subst (λ songs. IsLegalFrom rules.limits songs (looks_at 0 stations ++ flat_map (λ p. Published p.1 ∷ looks_at p.0 stations) (enumerate_from 1 journal))) start
    (after_looks rules.limits (version rules.limits journal 0) (looks_at 0 stations) (flat_map (λ p. Published p.1 ∷ looks_at p.0 stations) (enumerate_from 1 journal)) (answered 0 (omega arith)) from)
