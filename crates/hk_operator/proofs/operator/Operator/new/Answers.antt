use Rattle.std.proofs.Common.{[], sym, ap, subst, arith, ◌∙◌}
use Rattle.hk_operator_wire.proofs.Reading.{in_hello}
use Rattle.hk_operator_wire.proofs.Taking.{no_text}
use Rattle.hk_operator.specs.Draft.{IsDraft}
use Rattle.hk_operator.specs.Sound.{IsRecording, sound_ahead}
use Rattle.hk_operator_wire.specs.Items.{last_command}
use Rattle.hk_operator.specs.WordBuffer.{Buffered}
use Rattle.hk_operator.specs.declared.draft.Draft.{Draft}
use Rattle.hk_operator.proofs.Drafting.{no_draft}
use Rattle.hk_operator.proofs.Following.{no_commands}
use Rattle.hk_operator.proofs.operator.Operator.new.Goals as goal

pub returns : goal.returns
returns c = λ rules view state fixed limit positions none at.
    let nothing = in_hello [] (omega arith) in
    record {
      fixed = fixed;
      stream = record {
        taken = c.new.ensures.nothing_taken;
        no_fault = no_text rules.bytes;
        draft = subst (IsDraft c.in_ok-new.field-0) (sym nothing) (no_draft c.in_ok-new.field-0);
        recording = subst (λ o. IsRecording rules c.in_ok-new-2.field-0 o (sound_ahead (last_command []))) (sym none) c.in_ok-new-2.ensures.song;
        few = omega (arith, no_commands);
      };
      shelf = at;
      number = sym no_commands;
      limit = c.new.ensures.limit ∙ sym limit;
      short = omega (arith, limit, c.ranges.limit.fits);
      room = ap (λ (d : Draft). d.words.room) c.in_ok-new.ensures ∙ sym positions;
      song_room = ap (λ (w : Buffered). w.room) c.in_ok-new-2.ensures.words ∙ sym positions;
    }
