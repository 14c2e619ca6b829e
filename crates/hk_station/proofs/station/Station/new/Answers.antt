use Rattle.std.proofs.Common.{◌≡◌, ℕ, ◌<◌, length, refl, sym, ◌∙◌, ap, arith}
use Rattle.hk_spec_streams.specs.Blocks.{Setting}
use Rattle.hk_receiver.proofs.Beginning.{no_blocks_yet}
use Rattle.hk_station.proofs.station.Station.new.Goals as goal

pub returns-clause-unheard : goal.returns-clause-unheard
returns-clause-unheard c = λ rules is limit_is.
    let size : rules.setting.block.size ≡ 256 = ap (λ (s : Setting). s.block.size) is in
    let analysis = ap (λ (s : Setting). s.analysis) is in
    let some : 0 < rules.setting.block.size = omega (arith, size) in
    record {
      receives = λ _. c.new-3.ensures rules (record {
        analysis = analysis;
        flips_are = ap (λ (s : Setting). s.flips) is ∙ sym c.in_ok-front.ensures.flips;
        cuts = record { size = size; rule = ap (λ (s : Setting). s.block) is ∙ sym c.in_ok-ring.ensures.block };
      }) limit_is;
      end_is = refl;
      lines = sym (ap length (no_blocks_yet rules.setting analysis some));
      version_is = refl;
    }
