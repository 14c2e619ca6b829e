-- What the definitions tell.
use Rattle.std.proofs.Common.{◌≡◌, ℕ, List, [], ◌∷◌, ◌++◌, refl}
use mathlib.Core.List.{IsPrefix}
use Rattle.hk_spec_matching.specs.Catalogue.{Edit, Limits, Journal}
use Rattle.hk_block.specs.Looker.{Home, Entry}
use Rattle.hk_journal.proofs.Prefixes.{prefix_trans}
use Rattle.hk_publish.specs.Journals.{entries_of_batch, list_of}
use Rattle.hk_publish.specs.Holding.{Holding, shelf_of}
use Rattle.hk_publish.specs.Known.{Known, HasLearned, IsLook, home_with}

-- equal homes have equal limits, and are of one journal
pub homes_tell : (a b : Limits) (g h : Home) → home_with a g ≡ home_with b h → (a ≡ b) × (g ≡ h)
homes_tell a b g h same =
    let songs : a.songs ≡ b.songs = cc same in
    let positions : a.positions ≡ b.positions = cc same in
    let versions : a.versions ≡ b.versions = cc same in
    let home : g ≡ h = cc same in
    (λ i. record { songs = songs i; positions = positions i; versions = versions i }, home)

-- equal homes of desks are of one journal
pub shelf_homes : (a b : Holding) → (shelf_of a).home ≡ (shelf_of b).home → a.home ≡ b.home
shelf_homes a b same = (homes_tell a.limits b.limits a.home b.home (cc same)).1

-- the first batch and what lies behind it are read off a list
first_tells : (xs ys : List Edit) (us vs : List Entry) → entries_of_batch xs ++ us ≡ entries_of_batch ys ++ vs → (xs ≡ ys) × (us ≡ vs)
first_tells [] [] us vs same = (refl, cc same)
first_tells [] (y ∷ ys) us vs same = absurd (cc same)
first_tells (x ∷ xs) [] us vs same = absurd (cc same)
first_tells (x ∷ xs) (y ∷ ys) us vs same =
    let head : x ≡ y = cc same in
    let rest = first_tells xs ys us vs (cc same) in
    (cc (head, rest.0), rest.1)

not_none : (batch : List Edit) (us : List Entry) → ¬ ([] ≡ entries_of_batch batch ++ us)
not_none [] us same = absurd (cc same)
not_none (x ∷ xs) us same = absurd (cc same)

-- equal published lists are of equal journals
pub lists_tell : (a b : Journal) → list_of a ≡ list_of b → a ≡ b
lists_tell [] [] same = refl
lists_tell [] (batch ∷ rest) same = absurd (not_none batch (list_of rest) same)
lists_tell (batch ∷ rest) [] same = absurd (not_none batch (list_of rest) (cc same))
lists_tell (batch ∷ rest) (other ∷ others) same =
    let first = first_tells batch other (list_of rest) (list_of others) same in
    cc (first.0, lists_tell rest others first.1)

-- a look after a note was learned finds a journal that begins with it
pub note_stays : (a b c : Known) (note : Journal) (answer : ℕ) → HasLearned a note b → IsLook b answer c → IsPrefix note c.seen
note_stays a b c note answer learned look = prefix_trans note b.seen c.seen learned.has_note look.grows
