-- Laws of published journals.
use Rattle.std.proofs.Common.{◌≡◌, ℕ, ◌≤◌, [], ◌++◌, length, fold, cond, sym, ◌∙◌, ap, arith, Some, None, Bool, inl, inr}
use Rattle.std.proofs.lemmas.Bool.Decides.{leb_tells}
use Rattle.std.proofs.lemmas.List.{take_all, take-append-le}
use Rattle.std.proofs.lemmas.Option.{none-some}
use Rattle.std.proofs.lemmas.Bool.{le-leb}
use mathlib.Core.List.{IsPrefix}
use Rattle.hk_spec_matching.specs.Catalogue.{Songs, Limits, Journal, edited_by, version}
use Rattle.hk_block.specs.Looker.{KeepsPast}
use Rattle.hk_journal.proofs.Prefixes.{prefix_length}
use Rattle.hk_publish.specs.Journals.{songs_of_journal, past_of_journal}

-- the songs at a journal's own version are those that it leaves
pub songs_at_version : (limits : Limits) (journal : Journal) → version limits journal (length journal) ≡ songs_of_journal limits journal
unfolding version
songs_at_version limits journal = ap (fold (edited_by limits) []) (take_all (length journal) journal (omega arith))

-- a version is the same in a longer journal
songs_at_longer : (limits : Limits) (xs ys : Journal) (v : ℕ) → v ≤ length xs → version limits (xs ++ ys) v ≡ version limits xs v
unfolding version
songs_at_longer limits xs ys v low = ap (fold (edited_by limits) []) (take-append-le v xs ys low)

-- a version that is not above the journal's is known
pub past_is : (limits : Limits) (xs : Journal) (v : ℕ) → v ≤ length xs → past_of_journal limits xs v ≡ Some (version limits xs v)
past_is limits xs v low = ap (λ (b : Bool). cond b (Some (version limits xs v)) None) (le-leb v (length xs) low)

-- what is known of a version stays in a longer journal
pub past_stays : (limits : Limits) (xs ys : Journal) → IsPrefix xs ys → KeepsPast (past_of_journal limits xs) (past_of_journal limits ys)
past_stays limits xs ys begins v songs known = elim (leb_tells v (length xs)) [
  | inl low ↦
      let longer : v ≤ length ys = omega (arith, low.1, prefix_length xs ys begins) in
      past_is limits ys v longer
      ∙ ap (λ (s : Songs). Some s) (ap (λ (l : Journal). version limits l v) (sym begins.1) ∙ songs_at_longer limits xs begins.0 v low.1)
      ∙ sym (past_is limits xs v low.1) ∙ known
  | inr over ↦ absurd (none-some songs (sym (ap (λ (b : Bool). cond b (Some (version limits xs v)) None) over.0) ∙ known))
]
