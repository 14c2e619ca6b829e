use Rattle.std.proofs.Common.{◌≡◌, refl, sym, ap, ◌∙◌, Some}
use Rattle.hk_spec_runs.specs.Outcome.{Task, task_of}
use Rattle.hk_spec_runs.specs.Words.{Order}
use Rattle.hk_words.specs.Orders.{order_meant}
use Rattle.hk_words.specs.Options.{word_texts}
use Rattle.hk_replay.proofs.Doing.{Told, told_by, asked_for, asks, ends_in_order, ends_by_every_reading}
use Rattle.hk_replay.proofs.top.replay_top.Goals as goal

pub returns-in-Some : goal.returns-in-Some
returns-in-Some g c =
    let order : Order = order_meant c.in-Some.order in
    let words_ask = c.in-Some.ensures.order in
    let told : Told g.S.Source g.K.Sink order c.status_of.result.code c.args.input.now c.carry_out.new.input c.args.out.now c.carry_out.new.out =
    told_by g.S.Source g.K.Sink order c.args.input.now c.carry_out.new.input c.args.out.now c.carry_out.new.out c.carry_out.result _ c.status_of.ensures c.carry_out.ensures.does in
    record {
      known = told.known;
      reads_count = told.reads_count;
      writes_count = told.writes_count;
      usage_only = λ is. absurd (told.asked is);
      usage = λ none. absurd (asks _ order words_ask none);
      usage_unread = λ is. absurd (told.asked is);
      usage_unwritten = λ is. absurd (told.asked is);
      no_memory_unread = told.no_memory_unread;
      no_memory_unwritten = told.no_memory_unwritten;
      make_unread = asked_for _ order _ words_ask c.carry_out.ensures.make_unread;
      ended = λ is. asked_for _ order _ words_ask (told.ended is);
      in_disorder = λ is. asked_for _ order _ words_ask (told.in_disorder is);
      read_fault_cause = told.read_fault_cause;
      read_fault = λ is. asked_for _ order _ words_ask (told.read_fault is);
      write_fault_cause = told.write_fault_cause;
      write_fault = λ is. asked_for _ order _ words_ask (told.write_fault is);
      stopped = λ is. asked_for _ order _ words_ask (told.stopped is);
      no_read_failed = told.no_read_failed;
      no_write_failed = told.no_write_failed;
      complete = asked_for _ order _ words_ask told.complete;
      complete_in_order = asked_for _ order _ words_ask (ends_in_order g.S.Source g.K.Sink order _ _ _ _ _ told);
      complete_by_every_reading = asked_for _ order _ words_ask (ends_by_every_reading g.S.Source g.K.Sink order _ _ _ _ _ told);
    }
