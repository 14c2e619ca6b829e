-- Each song in a slot has its entry, with one entry more and with one less.
use Rattle.std.proofs.Common.{◌≡◌, ◌≢◌, ℕ, ◌+◌, ◌-◌, ◌<◌, ◌≤◌, List, [], length, get_or, sym, ◌∙◌, ap, arith, subst, inl, inr, Option, Some, None}
use Rattle.std.specs.List.{Contains, insert, remove}
use Rattle.std.specs.Option.{option_map_or, IfSome}
use Rattle.std.proofs.lemmas.Bool.{cases_lt, cases_eq}
use Rattle.std.proofs.lemmas.List.{get_or_default, get_or-map}
use Rattle.std.proofs.lemmas.List.Edits.{length-insert, get_or-insert_below, get_or-insert_at, get_or-insert_above, length-remove, get_or-remove_below, get_or-remove_above}
use Rattle.hk_table.specs.Store.{Store, SongWithId, song_at}
use Rattle.hk_catalogue.specs.Shelves.{songs_in, song_of, entry_of}
use Rattle.hk_catalogue.specs.CatalogueInside.{IsFilled}
use Rattle.hk_catalogue.proofs.Shelving.{SameBut, entry_in, some_not_none, length-songs}

pub Contains-insert : {X : Type 0} (xs : List X) (i : ℕ) (x y : X) → i ≤ length xs → Contains xs y → Contains (insert xs i x) y
Contains-insert xs i x y within (k, low, is) = elim (cases_lt k i) [
  | inl below ↦ (k, omega (arith, low, length-insert xs i x within), get_or-insert_below xs i x y k below within ∙ is)
  | inr above ↦ (k + 1, omega (arith, low, length-insert xs i x within), get_or-insert_above xs i x y k above within ∙ is)
]

pub Contains-inserted : {X : Type 0} (xs : List X) (i : ℕ) (x : X) → i ≤ length xs → Contains (insert xs i x) x
Contains-inserted xs i x within = (i, omega (arith, length-insert xs i x within), get_or-insert_at xs i x x within)

pub Contains-remove : {X : Type 0} (xs : List X) (i : ℕ) (x y : X) → i < length xs → get_or xs i x ≡ x → x ≢ y → Contains xs y → Contains (remove xs i) y
Contains-remove xs i x y within here other (k, low, is) = elim (cases_lt k i) [
  | inl below ↦ (k, omega (arith, below, within, length-remove xs i within), get_or-remove_below xs i y k below within ∙ is)
  | inr upto ↦ elim (cases_lt i k) [
    | inl above ↦
        let next : k - 1 + 1 ≡ k = omega arith in
        (k - 1, omega (arith, above, low, length-remove xs i within), get_or-remove_above xs i y (k - 1) (omega (arith, above)) within ∙ ap (λ n. get_or xs n y) next ∙ is)
    | inr at ↦
        let same : k ≡ i = omega (arith, upto, at) in
        absurd (other (sym here ∙ get_or_default xs i x y within ∙ ap (λ n. get_or xs n y) (sym same) ∙ is))
  ]
]

pub filled-insert : (old new : Store) (slot place : ℕ) (track : SongWithId) (index : List (ℕ × ℕ)) → SameBut slot old new → song_at new slot ≡ Some track
    → place ≤ length index → IsFilled old index → IsFilled new (insert index place (track.id, slot))
filled-insert old new slot place track index same put within filled s t is = elim (cases_eq s slot) [
  | inl at ↦
      let one : track ≡ t = let both : Some track ≡ Some t = sym put ∙ ap (song_at new) (sym at) ∙ is in cc in
      let pair : (track.id, slot) ≡ (t.id, s) = λ i. (ap (λ (x : SongWithId). x.id) one i, sym at i) in
      subst (Contains (insert index place (track.id, slot))) pair (Contains-inserted index place (track.id, slot) within)
  | inr off ↦ Contains-insert index place (track.id, slot) (t.id, s) within (filled s t (sym (same s off) ∙ is))
]

pub filled-remove : (old new : Store) (place : ℕ) (gone : ℕ × ℕ) (index : List (ℕ × ℕ)) → SameBut gone.1 old new → song_at new gone.1 ≡ None
    → place < length index → get_or index place gone ≡ gone → IsFilled old index → IsFilled new (remove index place)
filled-remove old new place gone index same cleared within here filled s t is = elim (cases_eq s gone.1) [
  | inl at ↦ absurd (some_not_none t (sym (ap (song_at new) at ∙ cleared) ∙ is))
  | inr off ↦ Contains-remove index place gone (t.id, s) within here (λ both. off (sym (ap (λ (p : ℕ × ℕ). p.1) both))) (filled s t (sym (same s off) ∙ is))
]

-- a song in a slot is one of the map's
pub song_known : (store : Store) (index : List (ℕ × ℕ)) (slot : ℕ) (found : Option SongWithId) → IsFilled store index → found ≡ song_at store slot
    → IfSome found (λ track. Contains (songs_in store index) (entry_of track))
song_known store index slot None filled is = tt
song_known store index slot (Some track) filled is =
    let listed : Contains index (track.id, slot) = filled slot track (sym is) in
    let here : entry_in store (track.id, slot) ≡ entry_of track = ap (λ t. (track.id, song_of (option_map_or (λ t. t.words) t []))) (sym is) in
    subst (Contains (songs_in store index)) here
    (listed.0, omega (arith, listed.1, length-songs store index), get_or-map (entry_in store) index listed.0 (track.id, slot) (entry_in store (track.id, slot)) listed.1 ∙ ap (entry_in store) listed.2)
