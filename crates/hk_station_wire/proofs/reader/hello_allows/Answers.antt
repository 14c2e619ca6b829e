use Rattle.std.proofs.Common.{◌≡◌, ◌∙◌, ap, arith}
use Rattle.hk_spec_streams.specs.Station.{hello_allows}
use Rattle.hk_station_wire.proofs.reader.hello_allows.Goals as goal

pub returns-in_default-clause-allows : goal.returns-in_default-clause-allows
returns-in_default-clause-allows c =
    let five : 5 ≡ c.args.place = omega arith in
    c.factor_allowed.ensures.allowed ∙ ap (λ place. hello_allows place c.args.channels c.args.byte) five
