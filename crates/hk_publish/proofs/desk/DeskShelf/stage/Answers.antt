-- One edit more is staged, and the roll notes it; or memory is refused and all stays.
use Rattle.std.proofs.Common.{rules, ◌≡◌, ◌++◌, [], ◌∷◌, List, drop, ◌∙◌, ap, subst, None}
use Rattle.hk_catalogue.specs.Register.{noted, refusal}
use Rattle.hk_catalogue.specs.Shelf.{with_staged}
use Rattle.hk_publish.specs.declared.edition.Operation.{Operation}
use Rattle.hk_publish.specs.declared.edition.Operation.TheVariants.{Change}
use Rattle.hk_publish.specs.Holding.{Holding, IsKept, IsAuthor, holding_at, shelf_of}
use Rattle.hk_publish.specs.contracts.desk.Desk.{the_view}
use Rattle.hk_publish.proofs.Desks.{kept_staged, shelf_staged, author_settled, order_same, same_some}
use Rattle.hk_publish.proofs.desk.DeskShelf.stage.Goals as goal

pub invariant_of-self : goal.invariant_of-self
invariant_of-self c =
    let d = c.stage_change.ensures.desk in
    let v = c.self.invariant in
    let was : IsKept d.0.desk.shown.value (drop d.0.behind d.0.log.items) c.self.inside.roll = search rules in
    let author : IsAuthor c.self.inside.author d.0.desk.shown.value (drop d.0.behind d.0.log.items) =
    subst (λ w. IsAuthor c.self.inside.author w.desk.shown.value (drop w.behind w.log.items)) (same_some c.self.inside.writer v.0 d.0 v.1 d.2) v.3 in
    let pending : drop d.1.behind d.1.log.items ≡ drop d.0.behind d.0.log.items = search rules in
    let roll : c.stage_change.new.roll ≡ c.self.inside.roll = search rules in
    let order = order_same _ _ _ _ _ _ c.self.inside.author (ap (λ d. d.shown.value) d.4) pending roll was author in
    (d.1, d.3, order.0, order.1)

pub invariant_of-self-2 : goal.invariant_of-self-2
invariant_of-self-2 c =
    let d = c.stage_change.ensures.desk in
    let v = c.self.invariant in
    let was : IsKept d.0.desk.shown.value (drop d.0.behind d.0.log.items) c.self.inside.roll = search rules in
    let author : IsAuthor c.self.inside.author d.0.desk.shown.value (drop d.0.behind d.0.log.items) =
    subst (λ w. IsAuthor c.self.inside.author w.desk.shown.value (drop w.behind w.log.items)) (same_some c.self.inside.writer v.0 d.0 v.1 d.2) v.3 in
    let o = c.owes.ensures c.if-owes.false in
    let settled : c.self.inside.author.journal ≡ d.0.desk.shown.value.journal = o.2 ∙ ap (λ w. w.desk.shown.value.journal) (same_some c.self.inside.writer o.0 d.0 o.1 d.2) in
    let more : drop d.1.behind d.1.log.items ≡ drop d.0.behind d.0.log.items ++ Change c.args.edit ∷ [] = search rules in
    let roll : c.stage_change.new.roll ≡ noted c.self.inside.roll c.args.edit = search rules in
    let passes : refusal c.self.inside.roll c.args.edit ≡ None = search rules in
    let staged : List Operation = drop d.0.behind d.0.log.items ++ Change c.args.edit ∷ [] in
    let order = order_same _ _ _ _ _ _ c.self.inside.author (ap (λ d. d.shown.value) d.4) more roll
    (kept_staged _ _ _ c.args.edit c.requires.change passes was) (author_settled _ _ _ staged author settled) in
    (d.1, d.3, order.0, order.1)

pub returns-clause-staged : goal.returns-clause-staged
returns-clause-staged c =
    let d = c.stage_change.ensures.desk in
    let more : drop d.1.behind d.1.log.items ≡ drop d.0.behind d.0.log.items ++ Change c.args.edit ∷ [] = search rules in
    let first : the_view (record { writer = c.stage_change.new.place; author = c.self.inside.author; roll = c.stage_change.new.roll }) ≡ holding_at d.1.desk.shown.value (drop d.1.behind d.1.log.items) = search rules in
    let old : holding_at d.0.desk.shown.value (drop d.0.behind d.0.log.items) ≡ c.args.self.now = search rules in
    let here : holding_at d.1.desk.shown.value (drop d.1.behind d.1.log.items) ≡ holding_at d.0.desk.shown.value (drop d.0.behind d.0.log.items ++ Change c.args.edit ∷ []) =
    λ i. holding_at (ap (λ d. d.shown.value) d.4 i) (more i) in
    ap shelf_of (first ∙ here) ∙ shelf_staged d.0.desk.shown.value (drop d.0.behind d.0.log.items) c.args.edit c.requires.change ∙ ap (λ (h : Holding). with_staged (shelf_of h) c.args.edit) old
