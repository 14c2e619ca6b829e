use Rattle.std.proofs.Common.{◌≡◌, ◌≤◌, ◌++◌, ℕ, List, length, length-take, take, refl, ◌∙◌, sym, ap, subst, arith}
use Rattle.std.proofs.lemmas.List.{take-take}
use Rattle.hk_spec_runs.specs.Replay.{Scene}
use Rattle.hk_words.specs.Rules.{rules_meant}
use Rattle.hk_records.specs.Reader.{HasRead, bytes_ahead, input_limit, stations_of}
use Rattle.hk_records.specs.declared.reader.RecordReader.{RecordReader}
use Rattle.hk_run.specs.Course.{scene_after, heard_by}
use Rattle.hk_run.specs.Holding.{Holds}
use Rattle.hk_run.proofs.Listening.{plays_further, same_text}
use Rattle.hk_run.proofs.Taking.{held_by, by_rules}
use Rattle.hk_run.proofs.run.RunPlayer.listen.Goals as goal

pub skip-requires : goal.skip-requires
skip-requires c =
    let same : bytes_ahead c.attend-count.new.self.reader ≡ bytes_ahead c.args.self.now.reader = ap bytes_ahead c.attend-count.ensures.reader_stays in
    omega (arith, same, c.in-Some.ensures.len, c.attend-count.ensures.within, length-take c.min-most.result c.args.piece.now, c.min-most.ensures)

pub returns-clause-listened : goal.returns-clause-listened
returns-clause-listened c = λ refused text h.
    let rules = rules_meant c.args.self.now.rules in
    let run = c.args.self.now in
    let number : ℕ = c.in-Some.stretch.number in
    let scene : Scene = scene_after rules refused text in
    let bytes : List ℕ = take c.attend-count.result c.args.piece.now in
    let inside : c.attend-count.result ≤ c.min-most.result = omega (arith, c.attend-count.ensures.within, length-take c.min-most.result c.args.piece.now) in
    let long : length (take c.attend-count.result c.args.piece.now) ≡ c.attend-count.result =
    omega (arith, inside, c.min-most.ensures, length-take c.attend-count.result c.args.piece.now) in
    let cut : take c.attend-count.result (take c.min-most.result c.args.piece.now) ≡ bytes = take-take c.attend-count.result c.min-most.result c.args.piece.now inside in
    let came = c.in-Some.ensures.arrive text bytes h.read (omega (arith, long, inside, c.min-most.ensures)) in
    let read = c.skip.ensures.reads text bytes (subst (λ (reader : RecordReader). HasRead reader text) (sym c.attend-count.ensures.reader_stays) h.read) long in
    let limit = c.skip.ensures.limit ∙ ap input_limit c.attend-count.ensures.reader_stays in
    let stations = c.skip.ensures.stations ∙ ap stations_of c.attend-count.ensures.reader_stays in
    let held = subst (λ (heard : List ℕ). Holds rules c.attend-count.new.self (heard_by rules refused scene number heard)) cut
    (c.attend-count.ensures.holds rules scene h.holds refused) in
    let prints_nothing = subst (λ (heard : List ℕ). (heard_by rules refused scene number heard).printed ≡ scene.printed) cut
    (c.attend-count.ensures.prints_nothing rules scene h.holds refused) in (
      by_rules c.args.self.now.rules _ refused (text ++ bytes) c.attend-count.ensures.rules_stay
          (plays_further rules run refused text bytes number h came c.skip.new.self read limit stations _ refl
          (held_by rules c.attend-count.new.self _ (heard_by rules refused scene number bytes) refl refl refl held)),
      same_text rules run refused text bytes number h came c.skip.new.self read limit stations prints_nothing,
    )
