-- An entry put in or taken out, by what a roll's fields give.
use Rattle.std.proofs.Common.{◌≡◌, ℕ, ◌+◌, ◌<◌, ◌≤◌, ◌==◌, not, List, filter, get_or, length, sym, ◌∙◌, ap, subst, arith, true, None}
use Rattle.std.specs.List.{insert, remove}
use Rattle.std.specs.Ordering.{nat_cmp}
use Rattle.std.specs.FinMap.{put}
use Rattle.std.proofs.lemmas.List.{length-map}
use Rattle.std.proofs.lemmas.List.Sums.{sum_by-insert}
use Rattle.hk_spec_streams.specs.Pieces.{first_that_holds}
use Rattle.hk_catalogue.specs.Refusals.{SongLengths, has_id, words_in, add_tests}
use Rattle.hk_catalogue.specs.Entries.{entry_pairs, AreRising, Splits}
use Rattle.hk_catalogue.specs.Register.{Register}
use Rattle.hk_catalogue.specs.RollInside.{as_register, IsKept}
use Rattle.hk_catalogue.specs.declared.entry.Entry.{Entry}
use Rattle.hk_catalogue.specs.declared.roll.Roll.TheInside.{Inside}
use Rattle.hk_catalogue.proofs.Places.{map-insert, map-remove, put-at, gone-at, within-at, rising-insert, rising-remove, words-gone}
use Rattle.hk_catalogue.proofs.RollSongs.{IsAllowed, allowed}

abbrev pair : Entry → ℕ × ℕ
pair entry = (entry.id, entry.number)

-- the place of an id, by the fields
pub record IsPlace (inside : Inside) (roll : Register) (id place : ℕ) : Type 0 where
  pub view : as_register inside ≡ roll
  pub kept : IsKept inside
  pub splits : Splits (entry_pairs inside.entries.items) id place

pub is_place : (inside : Inside) (roll : Register) (entries : List Entry) (id place : ℕ) → as_register inside ≡ roll → IsKept inside
    → entries ≡ inside.entries.items → Splits (entry_pairs entries) id place → IsPlace inside roll id place
is_place inside roll entries id place view kept same splits =
    record { view = view; kept = kept; splits = subst (λ (es : List Entry). Splits (entry_pairs es) id place) same splits }

-- these entries have one more
pub record IsWith (inside : Inside) (entry : Entry) (now : List Entry) : Type 0 where
  pub words : words_in (entry_pairs now) ≡ inside.words + entry.number
  pub words_fit : inside.words + entry.number ≤ inside.positions
  pub song_fits : length inside.entries.items < inside.songs
  pub rising : AreRising (entry_pairs now)
  pub lengths : entry_pairs now ≡ put nat_cmp entry.id entry.number (entry_pairs inside.entries.items)

pub is_with : (inside : Inside) (roll : Register) (entry : Entry) (place : ℕ) (now : List Entry) → IsPlace inside roll entry.id place
    → first_that_holds (add_tests roll.limits roll.lengths entry.id entry.number) ≡ None → now ≡ insert inside.entries.items place entry → IsWith inside entry now
is_with inside roll entry place now is passes more =
    let es : SongLengths = entry_pairs inside.entries.items in
    let fits : IsAllowed (as_register inside).limits es entry.id entry.number =
    subst (λ (r : Register). IsAllowed r.limits r.lengths entry.id entry.number) (sym is.view) (allowed roll.limits roll.lengths entry.id entry.number passes) in
    let count : length es ≡ length inside.entries.items = length-map {B = ℕ × ℕ} inside.entries.items pair in
    let longer : entry_pairs now ≡ insert es place (pair entry) = ap entry_pairs more ∙ map-insert pair inside.entries.items place entry in
    record {
      words = ap words_in longer ∙ sum_by-insert (λ (e : ℕ × ℕ). e.1) es place (pair entry) ∙ ap (λ n. n + entry.number) is.kept.all_words;
      words_fit = omega (arith, fits.words_left, is.kept.all_words);
      song_fits = omega (arith, fits.song_left, count);
      rising = subst AreRising (sym longer) (rising-insert es entry.id entry.number place is.splits fits.absent is.kept.rising);
      lengths = longer ∙ put-at es entry.id entry.number place is.splits fits.absent;
    }

-- an entry stands at the place
pub stands : (inside : Inside) (roll : Register) (id place : ℕ) → IsPlace inside roll id place → has_id roll.lengths id ≡ true → place < length inside.entries.items
stands inside roll id place is there =
    let count : length (entry_pairs inside.entries.items) ≡ length inside.entries.items = length-map {B = ℕ × ℕ} inside.entries.items pair in
    omega (arith, count, within-at (entry_pairs inside.entries.items) id place is.splits is.kept.rising (ap (λ (r : Register). has_id r.lengths id) is.view ∙ there))

-- these entries have one less
pub record IsWithout (inside : Inside) (id : ℕ) (gone : Entry) (now : List Entry) : Type 0 where
  pub words : inside.words ≡ gone.number + words_in (entry_pairs now)
  pub rising : AreRising (entry_pairs now)
  pub lengths : entry_pairs now ≡ filter (λ entry. not (entry.0 == id)) (entry_pairs inside.entries.items)

pub is_without : (inside : Inside) (roll : Register) (id place : ℕ) (gone : Entry) (now : List Entry) → IsPlace inside roll id place → has_id roll.lengths id ≡ true
    → gone ≡ get_or inside.entries.items place gone → now ≡ remove inside.entries.items place → IsWithout inside id gone now
is_without inside roll id place gone now is there at_place rest =
    let es : SongLengths = entry_pairs inside.entries.items in
    let shorter : entry_pairs now ≡ remove es place = ap entry_pairs rest ∙ map-remove pair inside.entries.items place in
    record {
      words = sym is.kept.all_words ∙ words-gone inside.entries.items place gone (stands inside roll id place is there) at_place
          ∙ ap (λ entries. gone.number + words_in (entry_pairs entries)) (sym rest);
      rising = subst AreRising (sym shorter) (rising-remove es place is.kept.rising);
      lengths = shorter ∙ gone-at es id place is.splits is.kept.rising (ap (λ (r : Register). has_id r.lengths id) is.view ∙ there);
    }
