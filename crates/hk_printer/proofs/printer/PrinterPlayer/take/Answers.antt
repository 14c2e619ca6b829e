use Rattle.std.proofs.Common.{◌≡◌, ◌<◌, ◌++◌, [], length, refl, arith, Some, None, ap, ◌∙◌}
use Rattle.hk_base.proofs.Taking.{Wrote-nothing}
use Rattle.hk_spec_lines.specs.Lines.{print_line}
use Rattle.hk_player.specs.declared.player.Taken.TheVariants.{Stopped}
use Rattle.hk_printer.specs.Sounding.{lines_of}
use Rattle.hk_printer.specs.Printed.{printing_of}
use Rattle.hk_printer.proofs.Taking.{fault_told, takes, added, torn, stopped, one_line, no_line}
use Rattle.hk_printer.proofs.printer.PrinterPlayer.take.Goals as goal

pub returns-in-Ok-clause-going : goal.returns-in-Ok-clause-going
returns-in-Ok-clause-going g c = λ is refused text h.
    let old = c.args.self.now in
    let room : length text < c.args.self.now.limit = omega (arith, c.if-self.false, h.taken, h.within) in
    let prints = c.in-Some.ensures.print text h.heard in (
      refused,
      takes old text c.args.byte h room (Some c.in-Some.print) prints _ c.in-Some.ensures.rules (c.in-Some.ensures.taken text h.heard) refl refl refl refl,
      (print_line old.lines c.in-Some.print, added old text c.args.byte h room _ (one_line old text c.args.byte c.in-Some.print h prints), c.in-Ok.ensures.whole.appended),
    )

pub returns-in-Err-clause-torn : goal.returns-in-Err-clause-torn
returns-in-Err-clause-torn g c = λ is refused text h.
    let old = c.args.self.now in
    let room : length text < c.args.self.now.limit = omega (arith, c.if-self.false, h.taken, h.within) in
    let front = c.in-Err.ensures.torn.front in
    let line = one_line old text c.args.byte c.in-Some.print h (c.in-Some.ensures.print text h.heard) ∙ ap (λ l. lines_of (printing_of old) text ++ l) front.2 in
    (refused, λ more. let on = torn old text c.args.byte h room front.0 front.1 line more in (front.0, on.0, on.1, front.4))

pub returns-in-None-clause-going : goal.returns-in-None-clause-going
returns-in-None-clause-going g c = λ is refused text h.
    let old = c.args.self.now in
    let room : length text < c.args.self.now.limit = omega (arith, c.if-self.false, h.taken, h.within) in
    let prints = c.in-None.ensures.print text h.heard in (
      refused,
      takes old text c.args.byte h room None prints _ c.in-None.ensures.rules (c.in-None.ensures.taken text h.heard) refl refl (omega arith) refl,
      ([], added old text c.args.byte h room [] (no_line old text c.args.byte prints), Wrote-nothing (g.K.Sink.written c.args.out.now)),
    )

pub returns-then-self-clause-stopped : goal.returns-then-self-clause-stopped
returns-then-self-clause-stopped g c = λ refused text h.
    let full : length text ≡ c.args.self.now.limit = omega (arith, c.if-self.true, h.taken) in
    stopped c.args.self.now refused text c.args.byte h full

pub returns-then-self-clause-same_fault : goal.returns-then-self-clause-same_fault
returns-then-self-clause-same_fault g c = λ t is. ap (λ u. Stopped u) (fault_told c.args.self.now.is_over c.args.self.now.limit t is).1

pub returns-in-Ok-clause-same_fault : goal.returns-in-Ok-clause-same_fault
returns-in-Ok-clause-same_fault g c = λ t is.
    let full = c.args.self.now.over_at_limit (fault_told c.args.self.now.is_over c.args.self.now.limit t is).0 in
    absurd (omega (arith, full, c.if-self.false))

pub returns-in-Err-clause-same_fault : goal.returns-in-Err-clause-same_fault
returns-in-Err-clause-same_fault g c = λ t is.
    let full = c.args.self.now.over_at_limit (fault_told c.args.self.now.is_over c.args.self.now.limit t is).0 in
    absurd (omega (arith, full, c.if-self.false))

pub returns-in-None-clause-same_fault : goal.returns-in-None-clause-same_fault
returns-in-None-clause-same_fault g c = λ t is.
    let full = c.args.self.now.over_at_limit (fault_told c.args.self.now.is_over c.args.self.now.limit t is).0 in
    absurd (omega (arith, full, c.if-self.false))
