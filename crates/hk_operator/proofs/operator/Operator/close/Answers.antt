use Rattle.std.proofs.Common.{refl, sym, ◌∙◌}
use Rattle.hk_operator.specs.declared.operator.Operator.{Operator}
use Rattle.hk_operator.proofs.Completing.{song_closed, none_closed}
use Rattle.hk_operator.proofs.operator.Operator.close.Goals as goal

pub returns-in-Some-clause-decided : goal.returns-in-Some-clause-decided
returns-in-Some-clause-decided g c = λ rules state h.
    let now : Operator = record c.args.self.now { recorder = record c.args.self.now.recorder { song = c.take.new.self } } in
    song_closed rules c.args.self.now (g.S.Shelf.shelf c.args.shelf.now) state h now (g.S.Shelf.shelf c.add.new.shelf) c.take.ensures.after refl refl
    c.in-Some.id c.add.result (sym c.take.ensures.value ∙ c.in-Some.is) c.add.ensures.decided

pub returns-in-None-clause-decided : goal.returns-in-None-clause-decided
returns-in-None-clause-decided g c = λ rules state h.
    let now : Operator = record c.args.self.now { recorder = record c.args.self.now.recorder { song = c.take.new.self } } in
    none_closed rules c.args.self.now (g.S.Shelf.shelf c.args.shelf.now) state h now (g.S.Shelf.shelf c.args.shelf.now) c.take.ensures.after refl refl
    refl (sym c.take.ensures.value ∙ c.in-None.is)
