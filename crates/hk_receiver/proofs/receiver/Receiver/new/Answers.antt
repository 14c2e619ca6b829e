use Rattle.std.proofs.Common.{◌<◌, length, sym, ◌∙◌, ap, arith}
use Rattle.hk_receiver.proofs.Beginning.{no_fault_yet, holds_nothing, no_blocks_yet}
use Rattle.hk_receiver.proofs.receiver.Receiver.new.Goals as goal

pub returns : goal.returns
returns c = λ rules set limit_is.
    let some : 0 < rules.setting.block.size = omega (arith, set.cuts.size) in
    record {
      limit = c.new.ensures.limit ∙ sym limit_is;
      bytes = c.new.ensures.nothing_taken;
      no_fault = no_fault_yet rules.bytes;
      holds = holds_nothing rules.setting c.new-2.result c.new-2.ensures.first (c.new-2.ensures.empty rules.setting set);
      blocks_are = sym (ap length (no_blocks_yet rules.setting set.analysis some));
    }
