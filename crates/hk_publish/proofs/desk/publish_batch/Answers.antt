-- The staged edits and a Seal are published, all at once; or all stays.
use Rattle.std.proofs.Common.{rules, ◌≡◌, ◌+◌, ◌<◌, ◌^◌, ◌++◌, [], ◌∷◌, List, drop, fold, refl, ◌∙◌, ap, subst, arith, Some}
use Rattle.hk_catalogue.specs.Register.{noted}
use Rattle.hk_catalogue.specs.declared.edit.Edit.TheVariants as edit
use Rattle.hk_journal.specs.Journals.{Reach}
use Rattle.hk_publish.specs.declared.edition.Operation.{Operation}
use Rattle.hk_publish.specs.declared.edition.Operation.TheVariants.{Seal}
use Rattle.hk_publish.specs.Edition.{Edition}
use Rattle.hk_publish.specs.Pending.{with_operation, changes_of}
use Rattle.hk_publish.specs.Holding.{IsKept, holding_at}
use Rattle.hk_publish.proofs.Desks.{kept_after, author_after, published, order_same, same_some}
use Rattle.hk_publish.proofs.desk.publish_batch.Goals as goal

pub returns-then-not-append_seal : goal.returns-then-not-append_seal
returns-then-not-append_seal g c =
    let w = c.in-Some.writer in
    let o = c.requires.order in
    let is : c.args.place.now ≡ Some w = search rules in
    let kept : IsKept w.desk.shown.value (drop w.behind w.log.items) c.args.roll.now =
    subst (λ w. IsKept w.desk.shown.value (drop w.behind w.log.items) c.args.roll.now) (same_some c.args.place.now o.0 w o.1 is) o.2 in
    let v = c.append_seal.new.writer in
    let value : v.desk.shown.value ≡ w.desk.shown.value = ap (λ d. d.shown.value) c.append_seal.ensures.desk in
    let same : drop v.behind v.log.items ≡ drop w.behind w.log.items = search rules in
    let order = order_same _ _ _ _ _ _ c.append_seal.new.author value same refl kept c.append_seal.ensures.author in
    (w, v, is, c.put.ensures, order.0, order.1, λ i. holding_at (value i) (same i))

pub returns : goal.returns
returns g c =
    let w = c.in-Some.writer in
    let o = c.requires.order in
    let is : c.args.place.now ≡ Some w = search rules in
    let kept : IsKept w.desk.shown.value (drop w.behind w.log.items) c.args.roll.now =
    subst (λ w. IsKept w.desk.shown.value (drop w.behind w.log.items) c.args.roll.now) (same_some c.args.place.now o.0 w o.1 is) o.2 in
    let x : Edition = w.desk.shown.value in
    let pending : List Operation = drop w.behind w.log.items in
    let v = c.publish_pending-writer.result in
    let y : Edition = v.desk.shown.value in
    let author : Reach = c.append_seal.new.author in
    let fits : x.version + 1 < 2 ^ 32 = omega (arith, c.requires.fits, kept.version) in
    let sealed = c.append_seal.new.writer in
    let more : (drop sealed.behind sealed.log.items ≡ pending ++ Seal author ∷ []) × (author.journal ≡ x.journal ++ changes_of pending ∷ []) = search rules in
    let edition : y ≡ fold with_operation x (pending ++ Seal author ∷ []) =
    c.publish_pending-writer.ensures.edition ∙ (λ i. fold with_operation (ap (λ d. d.shown.value) c.append_seal.ensures.desk i) (more.0 i)) in
    let none = c.publish_pending-writer.ensures.nothing_pending in
    let book = c.append_seal.ensures.author.book in
    let order = order_same y y [] (drop v.behind v.log.items) (noted c.args.roll.now edit.Seal) c.note.new.self author refl none c.note.ensures.noted
    (kept_after x y pending c.args.roll.now author kept fits book more.1 edition) (author_after x y pending c.args.roll.now author kept fits book more.1 edition) in
    (w, v, is, c.put-2.ensures, order.0, order.1, ap (holding_at y) none ∙ published x y pending c.args.roll.now author kept fits book more.1 edition)
