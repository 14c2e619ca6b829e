-- Steps that keep the rule of a shared catalogue.
use Rattle.std.proofs.Common.{◌≡◌, ◌≢◌, ℕ, ◌+◌, ◌≤◌, List, [], ◌∷◌, ◌++◌, length, set, refl, sym, ◌∙◌, ap, subst, arith, le_refl, Some, ⊎_elim}
use Rattle.std.specs.Option.{IfSome}
use Rattle.std.proofs.lemmas.List.{append-nil, length-append}
use Rattle.std.proofs.lemmas.List.Sums.{fold-append}
use mathlib.Core.Option.{some, some-ne-none}
use mathlib.Core.List.{IsPrefix}
use lib.ListN.{get_elem?}
use Rattle.crossbeam_utils.specs.Register.{Admits, TurnsAt, Forks, Merges}
use Rattle.atomic_table.proofs.Lists.{at_set, at_snoc}
use Rattle.logbook.specs.Pages.{Book}
use Rattle.hk_spec_matching.specs.Catalogue as edits
use Rattle.hk_spec_matching.specs.Catalogue.{Songs, Limits, Journal, Rise, edited_by}
use Rattle.hk_spec_matching.proofs.Rising.{Rise-append}
use Rattle.hk_publish.specs.Journals.{songs_of_journal}
use Rattle.hk_publish.specs.Edition.{Edition, new_edition}
use Rattle.hk_publish.specs.Views.{View, Origin, new_view}
use Rattle.hk_publish.specs.Sharing.{Keeps, Stands, Enters, Catches, Meets, origin_of, origin_in, with_origin}
use Rattle.hk_journal.proofs.Prefixes.{prefix_self, prefix_trans, prefix_length}

-- one view more or less changed
set_each : (A : View → Type 0) (views : List View) (seat : ℕ) (w : View) → ((j : ℕ) (u : View) → get_elem? views j ≡ some u → A u) → A w → (j : ℕ) (u : View) → get_elem? (set views seat w) j ≡ some u → A u
set_each A views seat w each own j u at = ⊎_elim (λ (t : (j ≡ seat) × (w ≡ u)). subst A t.1 own) (λ (t : (j ≢ seat) × (get_elem? views j ≡ some u)). each j u t.1) (at_set views seat j w u at)

snoc_each : (A : View → Type 0) (views : List View) (w : View) → ((j : ℕ) (u : View) → get_elem? views j ≡ some u → A u) → A w → (j : ℕ) (u : View) → get_elem? (views ++ w ∷ []) j ≡ some u → A u
snoc_each A views w each own j u at = ⊎_elim (each j u) (λ (same : w ≡ u). subst A same own) (at_snoc views w u j at)

no_each : (A : View → Type 0) (j : ℕ) (u : View) → get_elem? [] j ≡ some u → A u
no_each A j u at = absurd (some-ne-none u (sym at))

-- what is right stays right as the journal grows
stands_more : (x y : Edition) → origin_of x ≡ origin_of y → IsPrefix x.journal y.journal → (v : View) → Stands x v → Stands y v
stands_more x y same more v is = record {
  known = subst (λ (o : Origin). IfSome v.origin (λ origin. origin ≡ o)) same is.known;
  seen = prefix_trans v.seen x.journal y.journal is.seen more;
  shown = is.shown;
}

nothing_stands : (x : Edition) → Stands x new_view
nothing_stands x = record { known = tt; seen = (x.journal, refl); shown = le_refl 0 }

-- one look more
rise_more : (versions : List ℕ) (a b : ℕ) → Rise 0 versions a → a ≤ b → Rise 0 (versions ++ b ∷ []) b
rise_more versions a b rises low = Rise-append 0 a b versions (b ∷ []) rises (low, le_refl b)

-- no look more, and more that was seen
rise_on : (versions : List ℕ) (a b : ℕ) → Rise 0 versions a → a ≤ b → Rise 0 versions b
rise_on versions a b rises low = subst (λ (vs : List ℕ). Rise 0 vs b) (append-nil versions) (Rise-append 0 a b versions [] rises low)

abbrev keeps_set : (x : Edition) (views : List View) (h : Keeps x views) (seat : ℕ) (w : View) → Stands x w → Keeps x (set views seat w)
keeps_set x views h seat w own = record { whole = h.whole; each = set_each (Stands x) views seat w h.each own }

abbrev keeps_snoc : (x : Edition) (views : List View) (h : Keeps x views) (w : View) → Stands x w → Keeps x (views ++ w ∷ [])
keeps_snoc x views h w own = record { whole = h.whole; each = snoc_each (Stands x) views w h.each own }

-- the rule at the start
pub begins : (x : Edition) (limits : Limits) (book : Book) → x ≡ new_edition limits book → Keeps x (new_view ∷ [])
begins x limits book is = subst (λ (e : Edition). Keeps e (new_view ∷ [])) (sym is) (record {
  whole = record { songs = refl; version = refl };
  each = snoc_each (Stands (new_edition limits book)) [] new_view (no_each (Stands (new_edition limits book))) (nothing_stands (new_edition limits book));
})

pub admits : Admits Keeps new_view
admits x views h = keeps_snoc x views h new_view (nothing_stands x)

-- a look
abbrev looked : Edition → View → View
looked x v = record v { seen = x.journal; entered = v.entered ++ x.journal ∷ []; shown = v.shown ++ x.version ∷ [] }

pub enters : (seat : ℕ) (v : View) (x : Edition) → TurnsAt Keeps seat v x x (λ old found _ new. Enters old found new)
enters seat v x views h at =
    let own : Stands x v = h.each seat v at in
    let low : length v.seen ≤ x.version = omega (arith, h.whole.version, prefix_length v.seen x.journal own.seen) in (
      looked x v,
      keeps_set x views h seat (looked x v) (record {
        known = own.known;
        seen = prefix_self x.journal;
        shown = subst (Rise 0 (v.shown ++ x.version ∷ [])) h.whole.version (rise_more v.shown (length v.seen) x.version own.shown low);
      }),
      record {
        finds = record { origin = refl; known = own.known; whole = h.whole; seen = refl; entered = refl; grows = own.seen };
        shown = refl;
      },
    )

-- catching up
abbrev caught : Edition → View → View
caught x v = record v { seen = x.journal; entered = v.entered ++ x.journal ∷ [] }

pub catches : (seat : ℕ) (v : View) (x : Edition) → TurnsAt Keeps seat v x x (λ old found _ new. Catches old found new)
catches seat v x views h at =
    let own : Stands x v = h.each seat v at in (
      caught x v,
      keeps_set x views h seat (caught x v) (record {
        known = own.known;
        seen = prefix_self x.journal;
        shown = rise_on v.shown (length v.seen) (length x.journal) own.shown (prefix_length v.seen x.journal own.seen);
      }),
      record {
        finds = record { origin = refl; known = own.known; whole = h.whole; seen = refl; entered = refl; grows = own.seen };
        shown = refl;
      },
    )

-- the desk learns the origin
pub meets : (seat : ℕ) (v : View) (x : Edition) → TurnsAt Keeps seat v x x (λ old found _ new. Meets old found new)
meets seat v x views h at =
    let own : Stands x v = h.each seat v at in (
      record v { origin = Some (origin_of x) },
      keeps_set x views h seat (record v { origin = Some (origin_of x) }) (record { known = refl; seen = own.seen; shown = own.shown }),
      refl,
    )

-- A publish: a batch goes behind the journal.
pub publishes : (seat : ℕ) (v : View) (x y : Edition) (batch : List edits.Edit) → y.book ≡ x.book → y.limits ≡ x.limits → y.journal ≡ x.journal ++ batch ∷ []
    → y.songs ≡ edited_by x.limits x.songs batch → y.version ≡ x.version + 1 → TurnsAt Keeps seat v x y (λ old _ _ new. new ≡ old)
publishes seat v x y batch book limits journal songs version views h at =
    let same : origin_of x ≡ origin_of y = λ i. record { book = sym book i; limits = sym limits i } in
    let more : IsPrefix x.journal y.journal = (batch ∷ [], sym journal) in
    let moved : (u : View) → Stands x u → Stands y u = stands_more x y same more in (
      v,
      record {
        whole = record {
          songs = songs ∙ ap (λ (s : Songs). edited_by x.limits s batch) h.whole.songs ∙ sym (fold-append (edited_by x.limits) [] x.journal (batch ∷ []))
              ∙ (λ i. songs_of_journal (sym limits i) (sym journal i));
          version = omega (arith, version, h.whole.version, ap length journal, length-append x.journal (batch ∷ []));
        };
        each = set_each (Stands y) views seat v (λ j u t. moved u (h.each j u t)) (moved v (h.each seat v at));
      },
      refl,
    )

pub tells : (seat : ℕ) (v : View) → Forks Keeps seat v v (origin_in v)
tells seat v x views h at =
    let own : Stands x v = h.each seat v at in
    let kept : Keeps x (set views seat v) = keeps_set x views h seat v own in
    keeps_snoc x (set views seat v) kept (origin_in v) (record { known = own.known; seen = (x.journal, refl); shown = le_refl 0 })

pub greets : (seat : ℕ) (v : View) (other : ℕ) (w : View) → Merges Keeps seat v other w (with_origin v w) new_view
greets seat v other w x views h at apart there =
    let own : Stands x v = h.each seat v at in
    let note : get_elem? views other ≡ some w = ⊎_elim (λ (t : (other ≡ seat) × (with_origin v w ≡ w)). absurd (apart t.0)) (λ (t : (other ≢ seat) × (get_elem? views other ≡ some w)). t.1)
    (at_set views seat other (with_origin v w) w there) in
    let heard : Stands x w = h.each other w note in
    let kept : Keeps x (set views seat (with_origin v w)) = keeps_set x views h seat (with_origin v w) (record { known = heard.known; seen = own.seen; shown = own.shown }) in
    keeps_set x (set views seat (with_origin v w)) kept other new_view (nothing_stands x)
