-- A roll beside the songs that it has the ids and lengths of.
use Rattle.std.proofs.Common.{◌≡◌, ℕ, ◌+◌, ◌-◌, ◌<◌, ◌≤◌, ◌==◌, Bool, true, false, not, ◌||◌, ◌&&◌, cond, [], ◌∷◌, length, filter, Option, Some, None, option_map, Ok, nat_le, nat_lt, refl, sym, ◌∙◌, ap, subst, arith}
use Rattle.std.specs.Ordering.{nat_cmp}
use Rattle.std.specs.FinMap.{put}
use Rattle.std.specs.FinMap.Entries.{by_order}
use Rattle.std.specs.declared.cmp.Ordering.TheVariants.{Less, Equal, Greater}
use Rattle.std.proofs.lemmas.Bool.{ltb-false, leb-false, lt-ltb, le-leb, and_from}
use Rattle.std.proofs.lemmas.List.{length-map}
use Rattle.std.proofs.lemmas.List.Sums.{sum_by-cons}
use Rattle.hk_base.specs.declared.plain.Reason.{Reason}
use Rattle.hk_base.specs.declared.plain.Reason.TheVariants as reason
use Rattle.hk_spec_streams.specs.Pieces.{first_that_holds}
use Rattle.hk_spec_matching.specs.Catalogue.{Song, Songs, Limits, has_song, with_song, without_song, positions_of, has_room}
use Rattle.hk_spec_settings.specs.Refusals.{add_refusals}
use Rattle.hk_spec_settings.specs.Settings.{Rules}
use Rattle.hk_catalogue.specs.Refusals.{SongLengths, lengths_of, has_id, words_in, free, add_tests, answered, reason_of}
use Rattle.hk_catalogue.specs.Register.{Register, refusal, noted, songs_after, Counts, AreRulesOf}
use Rattle.hk_catalogue.specs.declared.refused.Refused.{Refused}
use Rattle.hk_catalogue.specs.declared.refused.Refused.TheVariants as refused
use Rattle.hk_catalogue.specs.declared.edit.Edit.{Edit}
use Rattle.hk_catalogue.specs.declared.edit.Edit.TheVariants.{Add, Withdraw, Seal}

has-counted : (songs : Songs) (id : ℕ) → has_song songs id ≡ has_id (lengths_of songs) id
has-counted [] id = refl
has-counted (e ∷ songs) id = ap (λ b. (e.0 == id) || b) (has-counted songs id)

words-counted : (songs : Songs) → positions_of songs ≡ words_in (lengths_of songs)
words-counted [] = refl
words-counted (e ∷ songs) =
    sum_by-cons (λ entry. length entry.1.words) e songs ∙ ap (λ n. length e.1.words + n) (words-counted songs)
    ∙ sym (sum_by-cons (λ entry. entry.1) (e.0, length e.1.words) (lengths_of songs))

put-counted : (songs : Songs) (id : ℕ) (song : Song) → lengths_of (with_song songs id song) ≡ put nat_cmp id (length song.words) (lengths_of songs)
put-counted [] id song = refl
put-counted (e ∷ songs) id song =
    let n = length e.1.words in
    elim (nat_cmp id e.0) as (λ o. lengths_of (by_order o ((id, song) ∷ e ∷ songs) ((e.0, song) ∷ songs) (e ∷ with_song songs id song))
    ≡ by_order o ((id, length song.words) ∷ (e.0, n) ∷ lengths_of songs) ((e.0, length song.words) ∷ lengths_of songs) ((e.0, n) ∷ put nat_cmp id (length song.words) (lengths_of songs))) [
      | Less ↦ refl
      | Equal ↦ refl
      | Greater ↦ ap (λ xs. (e.0, n) ∷ xs) (put-counted songs id song)
    ]

without-counted : (songs : Songs) (id : ℕ) → lengths_of (without_song songs id) ≡ filter (λ entry. not (entry.0 == id)) (lengths_of songs)
without-counted [] id = refl
without-counted (e ∷ songs) id =
    let n = length e.1.words in
    elim (e.0 == id) as (λ b. lengths_of (cond (not b) (e ∷ without_song songs id) (without_song songs id))
    ≡ cond (not b) ((e.0, n) ∷ filter (λ entry. not (entry.0 == id)) (lengths_of songs)) (filter (λ entry. not (entry.0 == id)) (lengths_of songs))) [
      | true ↦ without-counted songs id
      | false ↦ ap (λ xs. (e.0, n) ∷ xs) (without-counted songs id)
    ]

-- what is known of a song that may be added
pub record IsAllowed (limits : Limits) (lengths : SongLengths) (id words : ℕ) : Type 0 where
  pub absent : has_id lengths id ≡ false
  pub long : 256 ≤ words
  pub song_left : length lengths < limits.songs
  pub words_left : words_in lengths + words ≤ limits.positions

four : {A : Type 0} (a b c d : Bool) (w x y z : A) → first_that_holds ((a, w) ∷ (b, x) ∷ (c, y) ∷ (d, z) ∷ []) ≡ None → (a ≡ false) × (b ≡ false) × (c ≡ false) × (d ≡ false)
four true b c d w x y z none = absurd (cc)
four false true c d w x y z none = absurd (cc)
four false false true d w x y z none = absurd (cc)
four false false false true w x y z none = absurd (cc)
four false false false false w x y z none = (refl, refl, refl, refl)

pub allowed : (limits : Limits) (lengths : SongLengths) (id words : ℕ) → first_that_holds (add_tests limits lengths id words) ≡ None → IsAllowed limits lengths id words
allowed limits lengths id words none =
    let tests = four (has_id lengths id) (nat_lt words 256) (nat_le limits.songs (length lengths)) (nat_lt (free limits lengths) words) _ _ _ _ none in
    let long : 256 ≤ words = ltb-false words 256 tests.1 in
    let left : words ≤ free limits lengths = ltb-false (free limits lengths) words tests.3 in
    record { absent = tests.0; long = long; song_left = leb-false limits.songs (length lengths) tests.2; words_left = omega arith }

added : (limits : Limits) (songs : Songs) (id : ℕ) (song : Song) → IsAllowed limits (lengths_of songs) id (length song.words)
    → (not (has_song songs id) && has_room limits songs (length song.words)) ≡ true
added limits songs id song is =
    let count : length (lengths_of songs) ≡ length songs = length-map {B = ℕ × ℕ} songs (λ entry. (entry.0, length entry.1.words)) in
    let words = words-counted songs in
    and_from (not (has_song songs id)) (has_room limits songs (length song.words)) (ap not (has-counted songs id ∙ is.absent))
    (and_from (nat_lt (length songs) limits.songs) (nat_le (positions_of songs + length song.words) limits.positions)
    (lt-ltb (length songs) limits.songs (omega (arith, count, is.song_left))) (le-leb (positions_of songs + length song.words) limits.positions (omega (arith, words, is.words_left))))

-- a roll of songs stays their roll over an edit that may be done
pub counted : (roll : Register) (edit : Edit) (errors : ℕ) (songs : Songs) → refusal roll edit ≡ None → Counts roll songs
    → Counts (noted roll edit) (songs_after roll.limits errors songs edit)
counted roll (Add block) errors songs passes counts =
    let song : Song = record { words = block.words; limit = errors } in
    let is : IsAllowed roll.limits (lengths_of songs) block.id (length block.words) =
    subst (λ lengths. IsAllowed roll.limits lengths block.id (length block.words)) counts (allowed roll.limits roll.lengths block.id (length block.words) passes) in
    ap (put nat_cmp block.id (length block.words)) counts
    ∙ sym (ap (λ b. lengths_of (cond b (with_song songs block.id song) songs)) (added roll.limits songs block.id song is) ∙ put-counted songs block.id song)
counted roll (Withdraw id) errors songs passes counts = ap (filter (λ entry. not (entry.0 == id))) counts ∙ sym (without-counted songs id)
counted roll Seal errors songs passes counts = counts

pub there : (roll : Register) (songs : Songs) (id : ℕ) → Counts roll songs → has_id roll.lengths id ≡ has_song songs id
there roll songs id counts = ap (λ lengths. has_id lengths id) counts ∙ sym (has-counted songs id)

-- the first reason of four
abbrev first : Bool → Bool → Bool → Bool → Option Reason
first a b c d = first_that_holds ((a, reason.Duplicate) ∷ (b, reason.Short) ∷ (c, reason.SongsFull) ∷ (d, reason.PositionsFull) ∷ [])

without_numbers : (a b c d : Bool) (id words limit free : ℕ)
    → option_map reason_of (first_that_holds ((a, refused.Duplicate id) ∷ (b, refused.Short words) ∷ (c, refused.SongsFull limit) ∷ (d, refused.PositionsFull free words) ∷ [])) ≡ first a b c d
without_numbers true b c d id words limit free = refl
without_numbers false true c d id words limit free = refl
without_numbers false false true d id words limit free = refl
without_numbers false false false true id words limit free = refl
without_numbers false false false false id words limit free = refl

-- the tests are those of the definitions
pub reasons : (rules : Rules) (roll : Register) (songs : Songs) (id words : ℕ) → AreRulesOf rules roll → Counts roll songs
    → option_map reason_of (first_that_holds (add_tests roll.limits roll.lengths id words)) ≡ first_that_holds (add_refusals rules songs id words)
reasons rules roll songs id words are counts =
    let count : length roll.lengths ≡ length songs = ap length counts ∙ length-map {B = ℕ × ℕ} songs (λ entry. (entry.0, length entry.1.words)) in
    let sum : words_in roll.lengths ≡ positions_of songs = ap words_in counts ∙ sym (words-counted songs) in
    let short : nat_lt words 256 ≡ nat_lt words rules.setting.block.size = ap (nat_lt words) (sym are.block_size) in
    let songs_full : nat_le roll.limits.songs (length roll.lengths) ≡ nat_le rules.limits.songs (length songs) =
    ap (nat_le roll.limits.songs) count ∙ ap (λ (l : Limits). nat_le l.songs (length songs)) (sym are.limits) in
    let positions_full : nat_lt (roll.limits.positions - words_in roll.lengths) words ≡ nat_lt (rules.limits.positions - positions_of songs) words =
    ap (λ n. nat_lt (roll.limits.positions - n) words) sum ∙ ap (λ (l : Limits). nat_lt (l.positions - positions_of songs) words) (sym are.limits) in
    without_numbers (has_id roll.lengths id) (nat_lt words 256) (nat_le roll.limits.songs (length roll.lengths)) (nat_lt (free roll.limits roll.lengths) words) id words roll.limits.songs (free roll.limits roll.lengths)
    ∙ ap (λ a. first a (nat_lt words 256) (nat_le roll.limits.songs (length roll.lengths)) (nat_lt (free roll.limits roll.lengths) words)) (there roll songs id counts)
    ∙ ap (λ b. first (has_song songs id) b (nat_le roll.limits.songs (length roll.lengths)) (nat_lt (free roll.limits roll.lengths) words)) short
    ∙ ap (λ c. first (has_song songs id) (nat_lt words rules.setting.block.size) c (nat_lt (free roll.limits roll.lengths) words)) songs_full
    ∙ ap (first (has_song songs id) (nat_lt words rules.setting.block.size) (nat_le rules.limits.songs (length songs))) positions_full

-- an edit that no check refuses
pub passes : (refused : Option Refused) → answered refused ≡ Ok tt → refused ≡ None
passes None is = refl
passes (Some r) is = absurd (cc)
