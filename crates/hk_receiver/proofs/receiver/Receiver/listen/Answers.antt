use Rattle.std.proofs.Common.{◌≡◌, ◌≤◌, ◌++◌, [], ◌∷◌, ℕ, List, length, take, refl, sym, ◌∙◌, ap, subst, arith, length-take, cond}
use Rattle.std.proofs.lemmas.List.{take-take}
use Rattle.hk_spec_streams.specs.Station.{heard_form}
use Rattle.hk_station_wire.specs.Taken.{limit_of}
use Rattle.hk_spec_settings.specs.Settings.{Rules}
use Rattle.hk_station_wire.specs.declared.item.Item.TheVariants as item
use Rattle.hk_station_wire.specs.Says.{SaysByte}
use Rattle.hk_station_wire.specs.Sounding.{AreSound, SoundAhead}
use Rattle.hk_station_wire.proofs.Sounding.{fewer}
use Rattle.hk_receiver.specs.Received.{HasReceived}
use Rattle.hk_receiver.specs.Segment.{HasBytes, prints_by}
use Rattle.hk_receiver.proofs.Holding.{closed}
use Rattle.hk_receiver.proofs.Listening.{Listened, Sounds, listened}
use Rattle.hk_receiver.proofs.Telling.{full, some, said}
use Rattle.hk_receiver.proofs.receiver.Receiver.listen.Goals as goal

taken : goal.After-self-1 → List ℕ
taken c = take c.listen-count.result c.args.piece.now

module _ (c : goal.After-self-1) (rules : Rules) (text : List ℕ) (h : HasReceived rules c.args.self.now text) where
  -- a byte of sound may come
  says : SaysByte 0 rules.bytes text 0
  says = said rules c.args.self.now text 0 h (item.Byte 0) (sym (c.stretch.ensures.sound text (0 ∷ []) h.bytes (omega (arith, c.min-most.ensures, c.if-most-eq0.false))).0)

  inside : c.listen-count.result ≤ c.min-most.result
  inside = omega (arith, c.listen-count.ensures.within, length-take c.min-most.result c.args.piece.now)

  long : length (take c.listen-count.result c.args.piece.now) ≡ c.listen-count.result
  long = omega (arith, inside, c.min-most.ensures, length-take c.listen-count.result c.args.piece.now)

  sounds : Sounds rules (full rules c.args.self.now text 0 h) (some rules c.args.self.now text 0 h) (heard_form text) h.holds.before text h.holds.bytes
  sounds = record {
    no_fault = h.no_fault;
    form_is = refl;
    segments_are = closed rules.setting (full rules c.args.self.now text 0 h) (some rules c.args.self.now text 0 h) text 0 c.args.self.now.segment h.holds says.gain.no_gap_before;
    no_gap = says.gain.no_gap_before;
  }

  no_print : (k : ℕ) → k ≤ length (taken c) → prints_by rules.setting (heard_form text) (h.holds.bytes ++ take k (taken c)) ≡ prints_by rules.setting (heard_form text) h.holds.bytes
  unfolding taken
  no_print k few =
      let within : k ≤ c.listen-count.result = omega (arith, few, long) in
      ap (λ bytes. prints_by rules.setting (heard_form text) (h.holds.bytes ++ bytes))
      (take-take k c.listen-count.result c.args.piece.now within ∙ sym (take-take k c.min-most.result c.args.piece.now (omega (arith, within, inside))))
      ∙ c.listen-count.ensures.no_print rules.setting (heard_form text) h.holds.bytes k says.sounds h.holds.has within

  ahead : SoundAhead (limit_of c.args.self.now.wire) text (length (taken c))
  unfolding taken
  ahead = fewer (limit_of c.args.self.now.wire) text c.min-most.result (length (taken c)) (omega (arith, long, inside))
      (c.stretch.ensures.ahead c.min-most.result text h.bytes (omega (arith, c.if-most-eq0.false)) (omega (arith, c.min-most.ensures)))

  heard : Listened rules (full rules c.args.self.now text 0 h) (some rules c.args.self.now text 0 h) (heard_form text) h.holds.before text h.holds.bytes (taken c)
  unfolding taken
  heard = listened rules (full rules c.args.self.now text 0 h) (some rules c.args.self.now text 0 h) (heard_form text) h.holds.before (taken c) text h.holds.bytes sounds
      (subst (λ limit. AreSound limit text (taken c)) h.limit (c.stretch.ensures.sound text (taken c) h.bytes (omega (arith, long, inside, c.min-most.ensures)))) no_print

pub returns-clause-goes_on : goal.returns-clause-goes_on
unfolding taken
returns-clause-goes_on c = λ rules text h.
    let all = heard c rules text h in
    record {
      limit = c.skip.ensures.limit_stays ∙ h.limit;
      bytes = c.skip.ensures.taken text (taken c) h.bytes (ahead c rules text h) (long c rules text h);
      no_fault = all.sounds.no_fault;
      holds = record {
        before = h.holds.before;
        bytes = h.holds.bytes ++ taken c;
        are = all.sounds.segments_are ∙ ap (λ g. h.holds.before ++ (h.holds.bytes ++ taken c) ∷ cond g ([] ∷ []) []) (sym all.sounds.no_gap);
        number = c.listen-count.ensures.same_number ∙ h.holds.number;
        has = subst (λ form. HasBytes rules.setting form c.listen-count.new.self (h.holds.bytes ++ taken c)) (sym all.sounds.form_is)
            (subst (λ bytes. HasBytes rules.setting (heard_form text) c.listen-count.new.self (h.holds.bytes ++ bytes))
            (take-take c.listen-count.result c.min-most.result c.args.piece.now (inside c rules text h))
            (c.listen-count.ensures.goes_on rules.setting (heard_form text) h.holds.bytes (says c rules text h).sounds h.holds.has));
      };
      blocks_are = h.blocks_are ∙ sym (ap length all.same_blocks);
    }

pub returns-clause-quiet : goal.returns-clause-quiet
unfolding taken
returns-clause-quiet c = λ rules text h. (heard c rules text h).quiet
