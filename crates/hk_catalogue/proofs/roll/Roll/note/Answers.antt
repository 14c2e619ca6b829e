use Rattle.std.proofs.Common.{◌≡◌, ◌∙◌, ap, rules}
use Rattle.hk_catalogue.specs.Register.{Register, noted}
use Rattle.hk_catalogue.proofs.RollSongs.{counted}
use Rattle.hk_catalogue.proofs.roll.Roll.note.Goals as goal

pub returns-in-Add-clause-songs : goal.returns-in-Add-clause-songs
returns-in-Add-clause-songs c errors songs counts =
    let same : c.add.new.self ≡ noted c.args.self.now c.args.edit.now = search rules in
    ap (λ (r : Register). r.lengths) same ∙ counted c.args.self.now c.args.edit.now errors songs c.requires.passes counts

pub returns-in-Withdraw-clause-songs : goal.returns-in-Withdraw-clause-songs
returns-in-Withdraw-clause-songs c errors songs counts =
    let same : c.withdraw.new.self ≡ noted c.args.self.now c.args.edit.now = search rules in
    ap (λ (r : Register). r.lengths) same ∙ counted c.args.self.now c.args.edit.now errors songs c.requires.passes counts
