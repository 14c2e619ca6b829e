-- A desk stays in order as it stages and publishes.
use Rattle.std.proofs.Common.{◌≡◌, ℕ, ◌+◌, ◌<◌, ◌^◌, List, [], ◌∷◌, ◌++◌, fold, length, refl, sym, ◌∙◌, ap, subst, arith, Option, Some, None, inl, inr, ⊎_elim}
use Rattle.std.proofs.lemmas.List.{length-append}
use Rattle.std.proofs.lemmas.List.Elements.{All-push, All-nil, filter_map-append}
use Rattle.std.proofs.lemmas.List.Sums.{fold-append}
use Rattle.hk_spec_matching.specs.Catalogue as edits
use Rattle.hk_spec_matching.specs.Catalogue.{Songs, Limits, Journal, edited, edited_by}
use Rattle.hk_spec_matching.specs.Matching.{MOST_ERRORS}
use Rattle.hk_catalogue.specs.Refusals.{lengths_of}
use Rattle.hk_catalogue.specs.Register.{Register, noted, refusal, songs_after, new_register}
use Rattle.hk_catalogue.specs.Shelves.{song_of}
use Rattle.hk_catalogue.specs.Shelf as shelf
use Rattle.hk_catalogue.specs.Shelf.{with_staged}
use Rattle.hk_catalogue.specs.declared.edit.Edit.{Edit}
use Rattle.hk_catalogue.specs.declared.edit.Edit.TheVariants as edit
use Rattle.hk_catalogue.proofs.RollSongs.{counted}
use Rattle.hk_probe.proofs.Changes.{limits_noted, version_noted}
use Rattle.hk_journal.specs.Journals.{Reach}
use Rattle.hk_publish.specs.declared.edition.Operation.{Operation}
use Rattle.hk_publish.specs.declared.edition.Operation.TheVariants.{Change, Seal}
use Rattle.hk_publish.specs.Edition.{Edition, new_edition}
use Rattle.hk_publish.specs.Pending.{IsChange, change_of, changes_of, with_operation}
use Rattle.hk_publish.specs.Sharing.{IsWhole}
use Rattle.hk_publish.specs.Known.{home_of}
use Rattle.hk_publish.specs.Holding.{Holding, IsKept, IsAuthor, holding_at, shelf_of, after_publish}
use Rattle.hk_publish.proofs.Editions.{after, comes_sealed, whole_after}

-- an edit's step is its change
one_change : (limits : Limits) (songs : Songs) (e : Edit) → edited_by limits songs (changes_of (Change e ∷ [])) ≡ songs_after limits MOST_ERRORS songs e
one_change limits songs (edit.Add song) = refl
one_change limits songs (edit.Withdraw id) = refl
one_change limits songs edit.Seal = refl

change_push : (limits : Limits) (songs : Songs) (done : List Operation) (e : Edit)
    → edited_by limits songs (changes_of (done ++ Change e ∷ [])) ≡ songs_after limits MOST_ERRORS (edited_by limits songs (changes_of done)) e
change_push limits songs done e =
    ap (edited_by limits songs) (filter_map-append change_of done (Change e ∷ []))
    ∙ fold-append (edited limits) songs (changes_of done) (changes_of (Change e ∷ []))
    ∙ one_change limits (edited_by limits songs (changes_of done)) e

pub kept_new : (limits : Limits) (x : Edition) → x ≡ new_edition limits x.book → IsKept x [] (new_register limits)
kept_new limits x is = subst (λ (e : Edition). IsKept e [] (new_register limits)) (sym is) (record {
  whole = record { songs = refl; version = refl };
  changes = All-nil IsChange;
  limits = refl;
  version = refl;
  counts = refl;
})

pub kept_staged : (x : Edition) (pending : List Operation) (roll : Register) (e : Edit) → shelf.IsChange e → refusal roll e ≡ None
    → IsKept x pending roll → IsKept x (pending ++ Change e ∷ []) (noted roll e)
kept_staged x pending roll e change passes is = record {
  whole = is.whole;
  changes = All-push IsChange pending (Change e) is.changes change;
  limits = limits_noted roll e ∙ is.limits;
  version = version_noted roll e change ∙ is.version;
  counts = counted roll e MOST_ERRORS (edited_by x.limits x.songs (changes_of pending)) passes is.counts
      ∙ ap (λ (l : Limits). lengths_of (songs_after l MOST_ERRORS (edited_by x.limits x.songs (changes_of pending)) e)) is.limits
      ∙ ap lengths_of (sym (change_push x.limits x.songs pending e));
}

shelf_with : (desk : Holding) (change : edits.Edit) → shelf_of (record desk { staged = desk.staged ++ change ∷ [] })
    ≡ record (shelf_of desk) { present = edited desk.limits (shelf_of desk).present change; staged = desk.staged ++ change ∷ [] }
shelf_with desk change =
    ap (λ (songs : Songs). record (shelf_of desk) { present = songs; staged = desk.staged ++ change ∷ [] }) (fold-append (edited desk.limits) (shelf_of desk).base.1 desk.staged (change ∷ []))

shelf_change : (desk : Holding) (e : Edit) → shelf.IsChange e → shelf_of (record desk { staged = desk.staged ++ changes_of (Change e ∷ []) }) ≡ with_staged (shelf_of desk) e
shelf_change desk (edit.Add song) change = shelf_with desk (edits.Add song.id (song_of song.words))
shelf_change desk (edit.Withdraw id) change = shelf_with desk (edits.Withdraw id)
shelf_change desk edit.Seal change = absurd change

pub shelf_staged : (x : Edition) (pending : List Operation) (e : Edit) → shelf.IsChange e
    → shelf_of (holding_at x (pending ++ Change e ∷ [])) ≡ with_staged (shelf_of (holding_at x pending)) e
shelf_staged x pending e change =
    ap (λ (staged : List edits.Edit). shelf_of (record (holding_at x pending) { staged = staged })) (filter_map-append change_of pending (Change e ∷ []))
    ∙ shelf_change (holding_at x pending) e change

-- a publish of what is pending
module _ (x y : Edition) (pending : List Operation) (roll : Register) (reached : Reach) (kept : IsKept x pending roll) (fits : x.version + 1 < 2 ^ 32)
    (book : reached.book ≡ x.book) (journal : reached.journal ≡ x.journal ++ changes_of pending ∷ []) (is : y ≡ fold with_operation x (pending ++ Seal reached ∷ [])) where
  come : y ≡ after x (changes_of pending) reached
  come = is ∙ comes_sealed x pending reached kept.changes fits

  pub kept_after : IsKept y [] (noted roll edit.Seal)
  kept_after = subst (λ (e : Edition). IsKept e [] (noted roll edit.Seal)) (sym come) (record {
    whole = whole_after x (changes_of pending) reached kept.whole journal;
    changes = All-nil IsChange;
    limits = kept.limits;
    version = ap (λ (n : ℕ). n + 1) kept.version;
    counts = kept.counts;
  })

  pub author_after : IsAuthor reached y []
  author_after = record { book = sym (ap (λ (e : Edition). e.book) come); journal = inl (sym (ap (λ (e : Edition). e.journal) come)) }

  pub published : holding_at y [] ≡ after_publish (holding_at x pending)
  published = ap (λ (e : Edition). holding_at e []) come ∙ (λ i. record { home = home_of (book i); limits = x.limits; published = journal i; staged = [] })

  pub version_after : y.version ≡ length y.journal
  version_after = kept_after.whole.version

-- an author who has added as many batches as were published has added those
pub owes_nothing : (author : Reach) (x : Edition) (pending : List Operation) → IsWhole x → IsAuthor author x pending → length author.journal ≡ x.version → author.journal ≡ x.journal
owes_nothing author x pending whole is same = ⊎_elim
    (λ (e : author.journal ≡ x.journal). e)
    (λ (e : author.journal ≡ x.journal ++ changes_of pending ∷ []). absurd (omega (arith, same, whole.version, ap length e, length-append x.journal (changes_of pending ∷ []))))
    is.journal

-- and one who has added another number has added the pending batch too
pub owes_batch : (author : Reach) (x : Edition) (pending : List Operation) → IsWhole x → IsAuthor author x pending → ¬ (length author.journal ≡ x.version) → author.journal ≡ x.journal ++ changes_of pending ∷ []
owes_batch author x pending whole is other = ⊎_elim
    (λ (e : author.journal ≡ x.journal). absurd (other (omega (arith, whole.version, ap length e))))
    (λ (e : author.journal ≡ x.journal ++ changes_of pending ∷ []). e)
    is.journal

pub author_low : (author : Reach) (x : Edition) (pending : List Operation) → IsWhole x → IsAuthor author x pending → x.version < 2 ^ 32 → length author.journal < 2 ^ 62
author_low author x pending whole is low = ⊎_elim
    (λ (e : author.journal ≡ x.journal). omega (arith, whole.version, low, ap length e))
    (λ (e : author.journal ≡ x.journal ++ changes_of pending ∷ []). omega (arith, whole.version, low, ap length e, length-append x.journal (changes_of pending ∷ [])))
    is.journal

pub author_settled : (author : Reach) (x : Edition) (pending more : List Operation) → IsAuthor author x pending → author.journal ≡ x.journal → IsAuthor author x more
author_settled author x pending more is same = record { book = is.book; journal = inl same }

pub author_ahead : (author : Reach) (x : Edition) (pending : List Operation) → author.book ≡ x.book → author.journal ≡ x.journal ++ changes_of pending ∷ [] → IsAuthor author x pending
author_ahead author x pending book journal = record { book = book; journal = inr journal }

-- the desk's parts agree where they are the same
pub order_same : (x y : Edition) (pending left : List Operation) (roll next : Register) (author : Reach) → y ≡ x → left ≡ pending → next ≡ roll
    → IsKept x pending roll → IsAuthor author x pending → IsKept y left next × IsAuthor author y left
order_same x y pending left roll next author edition same noted kept is =
    subst (λ (z : Edition × List Operation × Register). IsKept z.0 z.1 z.2 × IsAuthor author z.0 z.1) (λ i. (sym edition i, sym same i, sym noted i)) (kept, is)

pub same_some : {A : Type 0} (o : Option A) (a b : A) → o ≡ Some a → o ≡ Some b → a ≡ b
same_some o a b p q = cc (sym p ∙ q)
