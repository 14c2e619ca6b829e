use Rattle.std.proofs.Common.{◌<◌, ◌≤◌, ◌+◌, ◌++◌, ◌∷◌, [], ℕ, List, length, take, drop, get_or, refl, sym, ◌∙◌, ap, subst, append-nil, arith}
use Rattle.std.proofs.lemmas.List.{take_all}
use Rattle.hk_base.specs.declared.plain.What.{What}
use Rattle.hk_clerk.specs.Course.{HasAnswered, PieceLeaves}
use Rattle.hk_clerk.specs.declared.piece.Progress.TheVariants.{Over, Torn}
use Rattle.hk_clerk.proofs.Concluding.{wrote_more, over, torn, around_byte, front_more}
use Rattle.hk_clerk.proofs.piece.obey_piece.Goals as goal
use Rattle.hk_clerk.proofs.piece.obey_piece.Goals.{in-Quiet, in-Reply+in-Ok}

pub loop-byte-init : goal.loop-byte-init
loop-byte-init g c = record {
  answers = λ rules start taken told h.
      (told, subst (λ (bytes : List ℕ). HasAnswered rules start bytes told c.args.operator.now c.args.desk.now (g.P.Sink.written c.args.replies.now)) (sym (append-nil taken)) h);
  faults = refl;
  home = refl;
  limits = refl;
}

pub returns-in-Over-clause-answers : goal.returns-in-Over-clause-answers
returns-in-Over-clause-answers g c = λ rules start taken told h.
    let piece : List ℕ = c.args.piece.now in
    let i : ℕ = c.loop-byte.byte-index in
    let inside : c.loop-byte.byte-index < length c.args.piece.now = omega arith in
    let bytes : List ℕ = (taken ++ take i piece) ++ get_or piece i 0 ∷ [] in
    let before = c.loop-byte.invariant.answers rules start taken told h in
    let step = c.in-Over.ensures.leaves rules (taken ++ take i piece) before.0 before.1.done in
    subst (λ (all : List ℕ). PieceLeaves rules start all c.obey.new.operator c.obey.new.desk (g.P.Sink.written c.loop-byte.replies) (Over c.in-Over.end)) (around_byte taken piece i inside)
    (over rules start (g.P.Sink.written c.loop-byte.replies) bytes (drop (i + 1) piece) before.0 c.obey.new.operator c.obey.new.desk c.in-Over.end step.0 step.1 before.1.text)

pub returns-in-Err-clause-answers : goal.returns-in-Err-clause-answers
returns-in-Err-clause-answers g c = λ rules start taken told h.
    let piece : List ℕ = c.args.piece.now in
    let i : ℕ = c.loop-byte.byte-index in
    let inside : c.loop-byte.byte-index < length c.args.piece.now = omega arith in
    let bytes : List ℕ = (taken ++ take i piece) ++ get_or piece i 0 ∷ [] in
    let before = c.loop-byte.invariant.answers rules start taken told h in
    let step = c.in-Reply.ensures.leaves rules (taken ++ take i piece) before.0 before.1.done in
    subst (λ (all : List ℕ). PieceLeaves rules start all c.obey.new.operator c.obey.new.desk (g.P.Sink.written c.write_reply.new.sink) Torn) (around_byte taken piece i inside)
    (torn rules start (g.P.Sink.written c.loop-byte.replies) (g.P.Sink.written c.write_reply.new.sink) bytes (drop (i + 1) piece) before.0 c.in-Reply.reply.what c.in-Reply.reply.number
    c.obey.new.operator c.obey.new.desk step.2 step.1 before.1.text c.in-Err.ensures.torn.front)

pub loop-byte-preserved : goal.loop-byte-preserved
loop-byte-preserved g c = record {
  answers = λ rules start taken told h.
      let piece : List ℕ = c.args.piece.now in
      let i : ℕ = c.loop-byte.byte-index in
      let inside : c.loop-byte.byte-index < length c.args.piece.now = omega arith in
      let before = c.loop-byte.invariant.answers rules start taken told h in
      subst (λ (bytes : List ℕ). (now : List What) × HasAnswered rules start bytes now c.obey.new.operator c.obey.new.desk (g.P.Sink.written c.match-obey.replies)) (front_more taken piece i inside)
      (elim c.match-obey.branch [
        | in-Quiet w ↦
            let step = w.in-Quiet.ensures.leaves rules (taken ++ take i piece) before.0 before.1.done in
            (before.0, record { done = step.1; going = step.0; text = rw w.replies-is before.1.text })
        | in-Reply+in-Ok w ↦
            let step = w.in-Reply.ensures.leaves rules (taken ++ take i piece) before.0 before.1.done in (
              before.0 ++ w.in-Reply.reply.what ∷ [],
              record {
                done = step.2;
                going = step.0;
                text = rw w.replies-is (wrote_more rules before.0 w.in-Reply.reply.what w.in-Reply.reply.number start (g.P.Sink.written c.loop-byte.replies) (g.P.Sink.written w.write_reply.new.sink)
                    step.1 before.1.text w.in-Ok.ensures.whole.appended);
              },
            )
      ]);
  faults = elim c.match-obey.branch [
    | in-Quiet w ↦ ap g.P.Sink.faults w.replies-is ∙ c.loop-byte.invariant.faults
    | in-Reply+in-Ok w ↦ ap g.P.Sink.faults w.replies-is ∙ w.in-Ok.ensures.whole.stays ∙ c.loop-byte.invariant.faults
  ];
  home = c.obey.ensures.home ∙ c.loop-byte.invariant.home;
  limits = c.obey.ensures.limits ∙ c.loop-byte.invariant.limits;
}

pub returns-clause-answers : goal.returns-clause-answers
returns-clause-answers g c = λ rules start taken told h.
    let over : length c.args.piece.now ≤ c.loop-byte.byte-index = omega arith in
    subst (λ (bytes : List ℕ). (now : List What) × HasAnswered rules start (taken ++ bytes) now c.loop-byte.operator c.loop-byte.desk (g.P.Sink.written c.loop-byte.replies))
    (take_all c.loop-byte.byte-index c.args.piece.now over) (c.loop-byte.invariant.answers rules start taken told h)
