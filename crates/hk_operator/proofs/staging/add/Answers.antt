use Rattle.std.proofs.Common.{◌≡◌, length, option_map, ap, sym, ◌∙◌, subst}
use Rattle.hk_spec_streams.specs.Pieces.{first_that_holds}
use Rattle.hk_spec_matching.specs.Catalogue as edits
use Rattle.hk_spec_runs.specs.OperatorState.{with_edit, added_song}
use Rattle.hk_block.specs.Looker.{ShelfView}
use Rattle.hk_catalogue.specs.Refusals.{reason_of, answered, add_tests, lengths_of}
use Rattle.hk_catalogue.specs.Shelf.{with_change}
use Rattle.hk_catalogue.specs.Shelves as shelves
use Rattle.hk_operator.specs.OnShelf.{IsOnShelf}
use Rattle.hk_operator.proofs.Deciding.{decided_as, kept_reasons, song_on_shelf, refused_from, passed_from, refused_so, no_memory_so, tests_of_block}
use Rattle.hk_operator.proofs.staging.add.Goals as goal

pub returns-in-Err-clause-decided : goal.returns-in-Err-clause-decided
returns-in-Err-clause-decided g c = λ rules state all fixed at keeps room.
    let view = g.S.Shelf.shelf c.args.shelf.now in
    let checked : answered (first_that_holds (add_tests (g.S.Shelf.shelf c.args.shelf.now).limits (lengths_of (g.S.Shelf.shelf c.args.shelf.now).present) c.args.id c.args.words.now.count)) ≡ c.check_add.result =
    ap (λ n. answered (first_that_holds (add_tests view.limits (lengths_of view.present) c.args.id n))) (sym c.count.ensures.count) ∙ sym c.check_add.ensures in
    let tests = first_that_holds (add_tests view.limits (lengths_of view.present) c.args.id c.args.words.now.count) in
    refused_so _ _ _ _ _ (sym (kept_reasons rules (g.S.Shelf.shelf c.args.shelf.now) state c.args.words.now all c.args.id fixed at keeps room c.count.ensures.room)
    ∙ ap (option_map reason_of) (refused_from tests c.in-Err.refused (checked ∙ c.in-Err.is))) c.reason_of.ensures at

pub returns-in-Err-copied-clause-decided : goal.returns-in-Err-copied-clause-decided
returns-in-Err-copied-clause-decided g c = λ rules state all fixed at keeps room.
    let view = g.S.Shelf.shelf c.args.shelf.now in
    let checked : answered (first_that_holds (add_tests (g.S.Shelf.shelf c.args.shelf.now).limits (lengths_of (g.S.Shelf.shelf c.args.shelf.now).present) c.args.id c.args.words.now.count)) ≡ c.check_add.result =
    ap (λ n. answered (first_that_holds (add_tests view.limits (lengths_of view.present) c.args.id n))) (sym c.count.ensures.count) ∙ sym c.check_add.ensures in
    let tests = first_that_holds (add_tests view.limits (lengths_of view.present) c.args.id c.args.words.now.count) in
    no_memory_so _ _ _ (sym (kept_reasons rules (g.S.Shelf.shelf c.args.shelf.now) state c.args.words.now all c.args.id fixed at keeps room c.count.ensures.room)
    ∙ ap (option_map reason_of) (passed_from tests (checked ∙ c.in_default.is))) at

pub returns-in-Ok-clause-decided : goal.returns-in-Ok-clause-decided
returns-in-Ok-clause-decided g c = λ rules state all fixed at keeps room.
    let view = g.S.Shelf.shelf c.args.shelf.now in
    let checked : answered (first_that_holds (add_tests (g.S.Shelf.shelf c.args.shelf.now).limits (lengths_of (g.S.Shelf.shelf c.args.shelf.now).present) c.args.id c.args.words.now.count)) ≡ c.check_add.result =
    ap (λ n. answered (first_that_holds (add_tests view.limits (lengths_of view.present) c.args.id n))) (sym c.count.ensures.count) ∙ sym c.check_add.ensures in
    let tests = first_that_holds (add_tests view.limits (lengths_of view.present) c.args.id c.args.words.now.count) in
    let words = c.new.result.words in
    let id = c.new.result.id in
    let none = passed_from tests (checked ∙ c.in_default.is) in
    let both = tests_of_block rules view state c.args.words.now all c.args.id words fixed at keeps room c.count.ensures.room (c.new.ensures.words ∙ c.in-Ok.ensures.words) none in
    decided_as _ _ c.stage.result _ _ _ _
    (ap (λ i. option_map reason_of (first_that_holds (add_tests view.limits (lengths_of view.present) i (length words)))) c.new.ensures.id ∙ both.0)
    (λ same. subst (λ (v : ShelfView). IsOnShelf rules v state) (sym same) at)
    (λ passes same. subst (λ (v : ShelfView). IsOnShelf rules v (with_edit rules state (edits.Add c.args.id (added_song rules all)))) (sym same)
    (subst (λ i. IsOnShelf rules (with_change view (edits.Add id (shelves.song_of words))) (with_edit rules state (edits.Add i (added_song rules all)))) c.new.ensures.id
    (song_on_shelf rules view state id words all fixed at both.1)))
    c.stage.ensures.decided
