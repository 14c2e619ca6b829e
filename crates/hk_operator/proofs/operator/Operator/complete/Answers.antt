use Rattle.std.proofs.Common.{[], refl, sym, ◌∙◌, ap, Some}
use Rattle.hk_spec_streams.specs.Commands as kinds
use Rattle.hk_operator_wire.specs.Kinds.{kind_meant}
use Rattle.hk_operator.specs.Obeying.{IsAtCommand, next_number}
use Rattle.hk_operator.specs.declared.operator.Operator.{Operator}
use Rattle.hk_operator.proofs.Completing.{as_kind, add_completes, open_completes, audio_completes, withdraw_completes, answered_with}
use Rattle.hk_operator.proofs.operator.Operator.complete.Goals as goal

pub returns-in-Some-AddWords-clause-answered : goal.returns-in-Some-AddWords-clause-answered
returns-in-Some-AddWords-clause-answered g c = λ rules state command h drafts.
    let now : Operator = record c.args.self.now { commands = c.saturating_add-number.result } in
    let view = g.S.Shelf.shelf c.args.shelf.now in
    let view' = g.S.Shelf.shelf c.add.new.shelf in
    answered_with rules state command c.saturating_add-number.result (next_number c.args.self.now) c.add.result c.reply.result (λ d. IsAtCommand rules now view' d []) c.reply.ensures c.saturating_add-number.ensures
    (add_completes rules c.args.self.now view state c.saturating_add-number.result now view' refl c.add.result refl c.add.ensures.decided command h
    (as_kind c.args.self.now.draft kinds.AddWords command (ap (λ k. Some (kind_meant k)) (sym c.in-Some-AddWords.field-0-is) ∙ c.in-Some-AddWords.ensures) drafts))

pub returns-in-Some-OpenSong-clause-answered : goal.returns-in-Some-OpenSong-clause-answered
returns-in-Some-OpenSong-clause-answered g c = λ rules state command h drafts.
    let now : Operator = record c.args.self.now { recorder = c.open.new.self; commands = c.saturating_add-number.result } in
    let view = g.S.Shelf.shelf c.args.shelf.now in
    answered_with rules state command c.saturating_add-number.result (next_number c.args.self.now) c.open.result c.reply-in-Some-OpenSong.result (λ d. IsAtCommand rules now view d []) c.reply-in-Some-OpenSong.ensures c.saturating_add-number.ensures
    (open_completes rules c.args.self.now view state c.saturating_add-number.result now view refl c.open.result refl c.open.ensures.room
    (λ is. c.open.ensures.answer rules state is) (λ fixed allowed is. c.open.ensures.song rules state fixed allowed is) command h
    (as_kind c.args.self.now.draft kinds.OpenSong command (ap (λ k. Some (kind_meant k)) (sym c.in-Some-OpenSong.field-0-is) ∙ c.in-Some-OpenSong.ensures) drafts))

pub returns-in-Some-Audio-clause-answered : goal.returns-in-Some-Audio-clause-answered
returns-in-Some-Audio-clause-answered g c = λ rules state command h drafts.
    let now : Operator = record c.args.self.now { commands = c.saturating_add-number.result } in
    let view = g.S.Shelf.shelf c.args.shelf.now in
    answered_with rules state command c.saturating_add-number.result (next_number c.args.self.now) c.audio.result c.reply-in-Some-Audio.result (λ d. IsAtCommand rules now view d []) c.reply-in-Some-Audio.ensures c.saturating_add-number.ensures
    (audio_completes rules c.args.self.now view state c.saturating_add-number.result now view refl c.audio.result refl refl
    (λ sound is. c.audio.ensures.answer rules state sound is) (λ sound is. c.audio.ensures.song rules state sound is) command h
    (as_kind c.args.self.now.draft kinds.Audio command (ap (λ k. Some (kind_meant k)) (sym c.in-Some-Audio.field-0-is) ∙ c.in-Some-Audio.ensures) drafts))

pub returns-in-Some-Withdraw-clause-answered : goal.returns-in-Some-Withdraw-clause-answered
returns-in-Some-Withdraw-clause-answered g c = λ rules state command h drafts.
    let now : Operator = record c.args.self.now { commands = c.saturating_add-number.result } in
    let view = g.S.Shelf.shelf c.args.shelf.now in
    let view' = g.S.Shelf.shelf c.withdraw.new.shelf in
    answered_with rules state command c.saturating_add-number.result (next_number c.args.self.now) c.withdraw.result c.reply-in-Some-Withdraw.result (λ d. IsAtCommand rules now view' d []) c.reply-in-Some-Withdraw.ensures c.saturating_add-number.ensures
    (withdraw_completes rules c.args.self.now view state c.saturating_add-number.result now view' refl c.withdraw.result refl c.withdraw.ensures.decided command h
    (as_kind c.args.self.now.draft kinds.Withdraw command (ap (λ k. Some (kind_meant k)) (sym c.in-Some-Withdraw.field-0-is) ∙ c.in-Some-Withdraw.ensures) drafts))
