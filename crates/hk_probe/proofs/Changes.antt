-- Edits done one after another, and what they leave of a roll and of a shelf.
use Rattle.std.proofs.Common.{◌≡◌, ℕ, ◌+◌, ◌<◌, List, [], ◌∷◌, ◌++◌, length, take, get_or, refl, ◌∙◌, ap}
use Rattle.std.proofs.lemmas.List.{take_more}
use Rattle.std.proofs.lemmas.List.Elements.{filter_map-append}
use Rattle.std.proofs.lemmas.List.Sums.{fold-append}
use Rattle.hk_spec_matching.specs.Catalogue as edits
use Rattle.hk_spec_matching.specs.Catalogue.{Songs, Limits, edited, edited_by}
use Rattle.hk_spec_matching.specs.Matching.{MOST_ERRORS}
use Rattle.hk_catalogue.specs.Register.{Register, noted, songs_after}
use Rattle.hk_catalogue.specs.Shelves.{version_after}
use Rattle.hk_catalogue.specs.Shelf.{IsChange, change_of, changes_of, with_staged}
use Rattle.hk_catalogue.specs.declared.edit.Edit.{Edit}
use Rattle.hk_catalogue.specs.declared.edit.Edit.TheVariants.{Add, Withdraw, Seal}
use Rattle.hk_probe.specs.Single.{Single, shelf_of}

-- an edit's step is its change
one_change : (limits : Limits) (songs : Songs) (edit : Edit) → edited_by limits songs (changes_of (edit ∷ [])) ≡ songs_after limits MOST_ERRORS songs edit
one_change limits songs (Add song) = refl
one_change limits songs (Withdraw id) = refl
one_change limits songs Seal = refl

pub change_push : (limits : Limits) (songs : Songs) (done : List Edit) (edit : Edit)
    → edited_by limits songs (changes_of (done ++ edit ∷ [])) ≡ songs_after limits MOST_ERRORS (edited_by limits songs (changes_of done)) edit
change_push limits songs done edit =
    ap (edited_by limits songs) (filter_map-append change_of done (edit ∷ []))
    ∙ fold-append (edited limits) songs (changes_of done) (changes_of (edit ∷ []))
    ∙ one_change limits (edited_by limits songs (changes_of done)) edit

pub change_more : (limits : Limits) (songs : Songs) (all : List Edit) (i : ℕ) (d : Edit) → i < length all
    → edited_by limits songs (changes_of (take (i + 1) all)) ≡ songs_after limits MOST_ERRORS (edited_by limits songs (changes_of (take i all))) (get_or all i d)
change_more limits songs all i d low =
    ap (λ es. edited_by limits songs (changes_of es)) (take_more all i d low) ∙ change_push limits songs (take i all) (get_or all i d)

pub version_stays : (version : ℕ) (edit : Edit) → IsChange edit → version_after version edit ≡ version
version_stays version (Add song) change = refl
version_stays version (Withdraw id) change = refl
version_stays version Seal change = absurd change

pub limits_noted : (roll : Register) (edit : Edit) → (noted roll edit).limits ≡ roll.limits
limits_noted roll (Add song) = refl
limits_noted roll (Withdraw id) = refl
limits_noted roll Seal = refl

pub version_noted : (roll : Register) (edit : Edit) → IsChange edit → (noted roll edit).version ≡ roll.version
version_noted roll (Add song) change = refl
version_noted roll (Withdraw id) change = refl
version_noted roll Seal change = absurd change

-- a catalogue for one thread with one edit more
abbrev pub with_edit : Single → Edit → Single
with_edit alone edit = record alone { staged = alone.staged ++ changes_of (edit ∷ []) }

-- the shelf with one change more
shelf_with : (alone : Single) (change : edits.Edit) → shelf_of (record alone { staged = alone.staged ++ change ∷ [] })
    ≡ record (shelf_of alone) { present = edited alone.limits (shelf_of alone).present change; staged = alone.staged ++ change ∷ [] }
shelf_with alone change =
    ap (λ (songs : Songs). record (shelf_of alone) { present = songs; staged = alone.staged ++ change ∷ [] }) (fold-append (edited alone.limits) alone.songs alone.staged (change ∷ []))

pub shelf_staged : (alone : Single) (edit : Edit) → IsChange edit → shelf_of (with_edit alone edit) ≡ with_staged (shelf_of alone) edit
shelf_staged alone (Add song) change = shelf_with alone _
shelf_staged alone (Withdraw id) change = shelf_with alone (edits.Withdraw id)
shelf_staged alone Seal change = absurd change
