use Rattle.std.proofs.Common.{◌≤◌, [], length, refl, sym, ap, arith}
use Rattle.hk_front.specs.Hearing.{channels_of, factor_of}
use Rattle.hk_printer.proofs.Growing.{silent}
use Rattle.hk_printer.proofs.Limits.{form_within}
use Rattle.hk_printer.proofs.printer.Printer.new.Goals as goal

pub returns-clause-new : goal.returns-clause-new
returns-clause-new c =
    let channels : 1 ≤ channels_of c.start.new.self = omega (arith, c.start.ensures.channels, c.requires.some_channels) in
    record {
      some_channels = channels;
      some_factor = omega (arith, c.start.ensures.factor, c.requires.some_factor);
      heard = c.start.ensures.taken;
      taken = refl;
      in_form = form_within (record { channels = channels_of c.start.new.self; factor = factor_of c.start.new.self; flips = c.start.new.self.flips; bytes = c.args.limit }) [] (omega arith) c.requires.limit;
      within = omega arith;
      most = c.requires.limit;
      lines = sym (ap length (silent c.start.new.self.flips (channels_of c.start.new.self) (factor_of c.start.new.self) channels));
      none_met = refl;
    }
