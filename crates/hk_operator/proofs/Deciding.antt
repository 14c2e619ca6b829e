-- What is decided of edits, on a shelf and on its state.
use Rattle.std.proofs.Common.{◌≡◌, ℕ, ◌-◌, ◌^◌, ◌≤◌, inl, inr, List, [], ◌∷◌, ◌++◌, length, refl, sym, ◌∙◌, ap, subst, arith, Bool, true, false, Option, Some, None, option_map, Ok, Err}
use Rattle.std.specs.Prelude.{not, min, nat_lt, nat_le}
use Rattle.std.specs.Option.{option_map_or}
use Rattle.std.proofs.lemmas.Bool.{cases_lt, lt-ltb, le-ltb}
use Rattle.std.proofs.lemmas.List.{take_all}
use Rattle.std.proofs.lemmas.List.Sums.{fold-append}
use Rattle.hk_base.specs.declared.plain.Reason.{Reason}
use Rattle.hk_base.specs.declared.plain.Reason.TheVariants.{Duplicate, Short, SongsFull, PositionsFull, Unknown, NoSongOpen, NoMemory}
use Rattle.hk_base.specs.declared.plain.What.{What}
use Rattle.hk_base.specs.declared.plain.What.TheVariants.{Done, Published, Refused}
use Rattle.hk_spec_streams.specs.Pieces.{first_that_holds}
use Rattle.hk_spec_streams.specs.Operator.{Command, AddWords, Close}
use Rattle.hk_spec_streams.specs.Operator as commands
use Rattle.hk_spec_matching.specs.Catalogue.{Songs, Limits, has_song, positions_of, edited, edited_by, version}
use Rattle.hk_spec_matching.specs.Catalogue as edits
use Rattle.hk_spec_runs.specs.OperatorState.{OperatorState, UnfinishedSong, present, refusals, words_heard, added_song, with_edit, IsReply, answer, after}
use Rattle.hk_spec_settings.specs.Refusals.{add_refusals}
use Rattle.hk_spec_settings.specs.Settings.{Rules}
use Rattle.hk_block.specs.Looker.{ShelfView}
use Rattle.hk_catalogue.specs.Refusals.{lengths_of, add_tests, withdraw_tests, answered, reason_of, has_id}
use Rattle.hk_catalogue.specs.Register.{AreRulesOf}
use Rattle.hk_catalogue.specs.Shelf.{register_of, with_change}
use Rattle.hk_catalogue.specs.Shelves as shelves
use Rattle.hk_catalogue.specs.declared.refused.Refused as refusing
use Rattle.hk_catalogue.specs.declared.refused.Refused.TheVariants as refused
use Rattle.hk_catalogue.proofs.RollSongs.{reasons, allowed, there}
use Rattle.hk_operator.specs.WordBuffer.{Buffered, KeepsWords}
use Rattle.hk_operator.specs.Sound.{IsFixed}
use Rattle.hk_operator.specs.OnShelf.{IsOnShelf, IsDecided, StaysPublished}

-- the tests on the shelf are those on the state
pub add_reasons : (rules : Rules) (view : ShelfView) (state : OperatorState) (id words : ℕ) → IsFixed rules → IsOnShelf rules view state
    → option_map reason_of (first_that_holds (add_tests view.limits (lengths_of view.present) id words)) ≡ first_that_holds (add_refusals rules (present rules state) id words)
add_reasons rules view state id words fixed at =
    let are : AreRulesOf rules (register_of view) = record { block_size = fixed.block_size; limits = sym at.limits } in
    reasons rules (register_of view) (present rules state) id words are (ap lengths_of at.present)

-- so many words as stand still at their count's end are as many for the tests
rows : ℕ → Limits → Songs → ℕ → Bool → Bool → Option Reason
rows block limits songs id short full = first_that_holds ((has_song songs id, Duplicate) ∷ (short, Short) ∷ (nat_le limits.songs (length songs), SongsFull) ∷ (full, PositionsFull) ∷ [])

rows_are : (rules : Rules) (songs : Songs) (id words : ℕ) → first_that_holds (add_refusals rules songs id words)
    ≡ rows rules.setting.block.size rules.limits songs id (nat_lt words rules.setting.block.size) (nat_lt (rules.limits.positions - positions_of songs) words)
unfolding rows
rows_are rules songs id words = refl

count_tests : (rules : Rules) (songs : Songs) (id words : ℕ) → IsFixed rules → rules.limits.positions ≤ 2 ^ 24
    → first_that_holds (add_refusals rules songs id (min words (2 ^ 64 - 1))) ≡ first_that_holds (add_refusals rules songs id words)
count_tests rules songs id words fixed most = elim (cases_lt words (2 ^ 64 - 1)) [
  | inl few ↦ ap (λ n. first_that_holds (add_refusals rules songs id n)) (let same : min words (2 ^ 64 - 1) ≡ words = omega (arith, few) in same)
  | inr many ↦
      let block : rules.setting.block.size ≡ 256 = fixed.block_size in
      let left : rules.limits.positions - positions_of songs ≤ rules.limits.positions = omega arith in
      rows_are rules songs id (min words (2 ^ 64 - 1))
      ∙ ap (λ t. rows rules.setting.block.size rules.limits songs id t (nat_lt (rules.limits.positions - positions_of songs) (min words (2 ^ 64 - 1))))
      (le-ltb (min words (2 ^ 64 - 1)) rules.setting.block.size (omega (arith, block, many)) ∙ sym (le-ltb words rules.setting.block.size (omega (arith, block, many))))
      ∙ ap (rows rules.setting.block.size rules.limits songs id (nat_lt words rules.setting.block.size))
      (lt-ltb (rules.limits.positions - positions_of songs) (min words (2 ^ 64 - 1)) (omega (arith, left, most, many))
      ∙ sym (lt-ltb (rules.limits.positions - positions_of songs) words (omega (arith, left, most, many))))
      ∙ sym (rows_are rules songs id words)
]

-- the tests on the shelf, of the words that are counted
pub kept_reasons : (rules : Rules) (view : ShelfView) (state : OperatorState) (kept : Buffered) (all : List ℕ) (id : ℕ) → IsFixed rules → IsOnShelf rules view state → KeepsWords kept all
    → kept.room ≡ rules.limits.positions → kept.room ≤ 2 ^ 24
    → option_map reason_of (first_that_holds (add_tests view.limits (lengths_of view.present) id kept.count)) ≡ first_that_holds (add_refusals rules (present rules state) id (length all))
kept_reasons rules view state kept all id fixed at is room most =
    add_reasons rules view state id kept.count fixed at
    ∙ ap (λ n. first_that_holds (add_refusals rules (present rules state) id n)) is.count
    ∙ count_tests rules (present rules state) id (length all) fixed (subst (λ n. n ≤ 2 ^ 24) room most)

unknown_by : (t : Bool) (id : ℕ) → option_map reason_of (first_that_holds ((t, refused.Unknown id) ∷ [])) ≡ first_that_holds ((t, Unknown) ∷ [])
unknown_by true id = refl
unknown_by false id = refl

pub withdraw_reasons : (rules : Rules) (view : ShelfView) (state : OperatorState) (id : ℕ) → IsOnShelf rules view state
    → option_map reason_of (first_that_holds (withdraw_tests (lengths_of view.present) id)) ≡ first_that_holds (refusals rules state (commands.Withdraw id))
withdraw_reasons rules view state id at =
    unknown_by (not (has_id (lengths_of view.present) id)) id
    ∙ ap (λ t. first_that_holds ((not t, Unknown) ∷ [])) (there (register_of view) (present rules state) id (ap lengths_of at.present))

-- what is published stays
pub stays : (view : ShelfView) → StaysPublished view view
stays view = record { base = refl; limits = refl; journal = refl; home = refl }

-- the state with an edit that is staged
pub change_on_shelf : (rules : Rules) (view : ShelfView) (state : OperatorState) (change : edits.Edit) → IsOnShelf rules view state → IsOnShelf rules (with_change view change) (with_edit rules state change)
change_on_shelf rules view state change at = record {
  present = ap (λ l. edited l view.present change) at.limits ∙ ap (λ s. edited rules.limits s change) at.present
      ∙ sym (fold-append (edited rules.limits) (version rules.limits state.journal (length state.journal)) state.staged (change ∷ []));
  staged = ap (λ es. es ++ change ∷ []) at.staged;
  base = at.base;
  limits = at.limits;
}

-- the words of a song that isn't refused were all kept
pub all_kept : (rules : Rules) (view : ShelfView) (state : OperatorState) (kept : Buffered) (all : List ℕ) (id : ℕ) → IsOnShelf rules view state → KeepsWords kept all
    → kept.room ≡ rules.limits.positions → kept.room ≤ 2 ^ 24 → first_that_holds (add_tests view.limits (lengths_of view.present) id kept.count) ≡ None → kept.words ≡ all
all_kept rules view state kept all id at is room most none =
    let may = allowed view.limits (lengths_of view.present) id kept.count none in
    let left = may.words_left in
    let count : kept.count ≡ min (length all) (2 ^ 64 - 1) = is.count in
    let same : view.limits.positions ≡ rules.limits.positions = ap (λ (l : Limits). l.positions) at.limits in
    is.words ∙ take_all kept.room all (omega (arith, left, count, room, most, same))

song_is : (rules : Rules) (words : List ℕ) → IsFixed rules → shelves.song_of words ≡ added_song rules words
song_is rules words fixed = ap (λ n. record { words = words; limit = n }) (sym fixed.errors)

-- the state with a song that is staged
pub song_on_shelf : (rules : Rules) (view : ShelfView) (state : OperatorState) (id : ℕ) (words all : List ℕ) → IsFixed rules → IsOnShelf rules view state → words ≡ all
    → IsOnShelf rules (with_change view (edits.Add id (shelves.song_of words))) (with_edit rules state (edits.Add id (added_song rules all)))
song_on_shelf rules view state id words all fixed at same =
    subst (λ ws. IsOnShelf rules (with_change view (edits.Add id (shelves.song_of words))) (with_edit rules state (edits.Add id (added_song rules ws)))) same
    (subst (λ s. IsOnShelf rules (with_change view (edits.Add id (shelves.song_of words))) (with_edit rules state (edits.Add id s))) (song_is rules words fixed)
    (change_on_shelf rules view state (edits.Add id (shelves.song_of words)) at))

-- a decision by other words
pub decided_as : (tests tests' : Option Reason) (what : What) (Stays Staged Stays' Staged' : Type 0) → tests ≡ tests' → (Stays → Stays') → (tests' ≡ None → Staged → Staged')
    → IsDecided tests what Stays Staged → IsDecided tests' what Stays' Staged'
decided_as tests tests' what Stays Staged Stays' Staged' same stays staged is = by tests' what staged (subst (λ t. IsDecided t what Stays Staged) same is)
  where
    by : (t : Option Reason) (w : What) → (t ≡ None → Staged → Staged') → IsDecided t w Stays Staged → IsDecided t w Stays' Staged'
    by (Some reason) w on is = (is.0, stays is.1)
    by None Done on is = on refl is
    by None (Published v) on is = absurd is
    by None (Refused reason) on is = (is.0, stays is.1)

-- what is decided is a reply that fits, and leaves the state that the definitions leave
module _ (rules : Rules) (state : OperatorState) (Leaves : OperatorState → Type 0) where
  module _ (command : Command) (Staged Stays : Type 0)
      (answer_is : answer rules state command ≡ option_map_or (λ reason. Refused reason) (first_that_holds (refusals rules state command)) Done)
      (staged : Staged → Leaves (after rules state command Done)) (stays : (reason : Reason) → Stays → Leaves (after rules state command (Refused reason))) where
    replied : (t : Option Reason) (what : What) → first_that_holds (refusals rules state command) ≡ t → IsDecided t what Stays Staged
        → IsReply rules state command what × Leaves (after rules state command what)
    replied (Some reason) what is decided =
        (inl (decided.0 ∙ sym (answer_is ∙ ap (λ o. option_map_or (λ r. Refused r) o Done) is)), subst (λ w. Leaves (after rules state command w)) (sym decided.0) (stays reason decided.1))
    replied None Done is decided = (inl (sym (answer_is ∙ ap (λ o. option_map_or (λ r. Refused r) o Done) is)), staged decided)
    replied None (Published v) is decided = absurd decided
    replied None (Refused reason) is decided = (inr (ap (λ r. Refused r) decided.0, is), stays reason decided.1)

  pub add_replied : (id : ℕ) (words : List ℕ) (what : What)
      → IsDecided (first_that_holds (add_refusals rules (present rules state) id (length words))) what (Leaves state) (Leaves (with_edit rules state (edits.Add id (added_song rules words))))
      → IsReply rules state (AddWords id words) what × Leaves (after rules state (AddWords id words) what)
  unfolding answer after
  add_replied id words what decided =
      replied (AddWords id words) (Leaves (with_edit rules state (edits.Add id (added_song rules words)))) (Leaves state) refl (λ s. s) (λ reason s. s)
      (first_that_holds (add_refusals rules (present rules state) id (length words))) what refl decided

  pub withdraw_replied : (id : ℕ) (what : What)
      → IsDecided (first_that_holds (refusals rules state (commands.Withdraw id))) what (Leaves state) (Leaves (with_edit rules state (edits.Withdraw id)))
      → IsReply rules state (commands.Withdraw id) what × Leaves (after rules state (commands.Withdraw id) what)
  unfolding answer after
  withdraw_replied id what decided =
      replied (commands.Withdraw id) (Leaves (with_edit rules state (edits.Withdraw id))) (Leaves state) refl (λ s. s) (λ reason s. s)
      (first_that_holds (refusals rules state (commands.Withdraw id))) what refl decided

  -- on a state whose song is this one
  close_some : (song : UnfinishedSong) (what : What)
      → IsDecided (first_that_holds (add_refusals rules (present rules state) song.id (length (words_heard rules song)))) what (Leaves (record state { song = None }))
      (Leaves (record (with_edit rules state (edits.Add song.id (added_song rules (words_heard rules song)))) { song = None }))
      → IsReply rules (record state { song = Some song }) Close what × Leaves (after rules (record state { song = Some song }) Close what)
  unfolding answer after
  close_some song what decided = by (first_that_holds (add_refusals rules (present rules state) song.id (length (words_heard rules song)))) what refl decided
    where
      by : (t : Option Reason) (w : What) → first_that_holds (add_refusals rules (present rules state) song.id (length (words_heard rules song))) ≡ t
          → IsDecided t w (Leaves (record state { song = None })) (Leaves (record (with_edit rules state (edits.Add song.id (added_song rules (words_heard rules song)))) { song = None }))
          → IsReply rules (record state { song = Some song }) Close w × Leaves (after rules (record state { song = Some song }) Close w)
      by (Some reason) w is d =
          (inl (d.0 ∙ sym (ap (λ o. option_map_or (λ r. Refused r) o Done) is)), subst (λ v. Leaves (after rules (record state { song = Some song }) Close v)) (sym d.0) d.1)
      by None Done is d = (inl (sym (ap (λ o. option_map_or (λ r. Refused r) o Done) is)), d)
      by None (Published v) is d = absurd d
      by None (Refused reason) is d = (inr (ap (λ r. Refused r) d.0, is), d.1)

  pub close_replied : (song : UnfinishedSong) (what : What) → state.song ≡ Some song
      → IsDecided (first_that_holds (add_refusals rules (present rules state) song.id (length (words_heard rules song)))) what (Leaves (record state { song = None }))
      (Leaves (record (with_edit rules state (edits.Add song.id (added_song rules (words_heard rules song)))) { song = None }))
      → IsReply rules state Close what × Leaves (after rules state Close what)
  close_replied song what is decided =
      subst (λ o. IsReply rules (record state { song = o }) Close what × Leaves (after rules (record state { song = o }) Close what)) (sym is) (close_some song what decided)

  no_song : answer rules (record state { song = None }) Close ≡ Refused NoSongOpen
  unfolding answer
  no_song = refl

  left_none : Leaves (record state { song = None }) → Leaves (after rules state Close (Refused NoSongOpen))
  unfolding after
  left_none leaves = leaves

  pub close_none : state.song ≡ None → Leaves (record state { song = None }) → IsReply rules state Close (Refused NoSongOpen) × Leaves (after rules state Close (Refused NoSongOpen))
  close_none none leaves = (inl (sym (subst (λ o. answer rules (record state { song = o }) Close ≡ Refused NoSongOpen) (sym none) no_song)), left_none leaves)

pub refused_from : (tests : Option refusing.Refused) (r : refusing.Refused) → answered tests ≡ Err r → tests ≡ Some r
refused_from None r is = absurd (cc)
refused_from (Some s) r is = cc

pub passed_from : (tests : Option refusing.Refused) → answered tests ≡ Ok tt → tests ≡ None
passed_from None is = refl
passed_from (Some s) is = absurd (cc)

pub refused_so : (tests : Option Reason) (reason reason' : Reason) (Stays Staged : Type 0) → tests ≡ Some reason → reason' ≡ reason → Stays → IsDecided tests (Refused reason') Stays Staged
refused_so tests reason reason' Stays Staged is same stays = subst (λ t. IsDecided t (Refused reason') Stays Staged) (sym is) (ap (λ r. Refused r) same, stays)

pub no_memory_so : (tests : Option Reason) (Stays Staged : Type 0) → tests ≡ None → Stays → IsDecided tests (Refused NoMemory) Stays Staged
no_memory_so tests Stays Staged is stays = subst (λ t. IsDecided t (Refused NoMemory) Stays Staged) (sym is) (refl, stays)

-- the tests of a block's words are those of the words that are counted, where no test holds of these
pub tests_of_block : (rules : Rules) (view : ShelfView) (state : OperatorState) (kept : Buffered) (all : List ℕ) (id : ℕ) (words : List ℕ) → IsFixed rules → IsOnShelf rules view state → KeepsWords kept all
    → kept.room ≡ rules.limits.positions → kept.room ≤ 2 ^ 24 → words ≡ kept.words → first_that_holds (add_tests view.limits (lengths_of view.present) id kept.count) ≡ None
    → (option_map reason_of (first_that_holds (add_tests view.limits (lengths_of view.present) id (length words))) ≡ first_that_holds (add_refusals rules (present rules state) id (length all)))
    × (words ≡ all)
tests_of_block rules view state kept all id words fixed at keeps room most same none =
    let whole : words ≡ all = same ∙ all_kept rules view state kept all id at keeps room most none in
    (add_reasons rules view state id (length words) fixed at ∙ ap (λ ws. first_that_holds (add_refusals rules (present rules state) id (length ws))) whole, whole)
