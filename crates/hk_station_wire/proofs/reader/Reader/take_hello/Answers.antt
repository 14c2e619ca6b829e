use Rattle.std.proofs.Common.{◌≡◌, ◌∙◌, ◌++◌, ◌∷◌, [], ap, sym, refl, arith, length, true, Some}
use Rattle.hk_base.specs.declared.plain.WireFault.TheVariants.{BadHello}
use Rattle.hk_spec_streams.specs.Station.{channels_of, factor_of, hello_allows}
use Rattle.hk_station_wire.proofs.reader.Reader.take_hello.Goals as goal
use Rattle.hk_station_wire.proofs.LastItems.{same_channels}
use Rattle.hk_station_wire.proofs.InHello.{hello_brings, hello_meets, here, not_five, form_is}

pub returns-then-not-hello_allows-clause-brings : goal.returns-then-not-hello_allows-clause-brings
returns-then-not-hello_allows-clause-brings c limit text place room stands =
    hello_meets limit text c.args.byte c.args.self.now (omega arith) (omega arith) stands
    (ap (λ p. hello_allows p c.args.self.now.told.channels c.args.byte) (sym place) ∙ sym c.hello_allows.ensures.allows ∙ c.if-not-hello_allows.true)
    ∙ ap (λ p. Some (BadHello p)) (sym place)

pub returns-in-5-clause-brings : goal.returns-in-5-clause-brings
returns-in-5-clause-brings c limit text place room stands =
    let allowed : hello_allows (length text) c.args.self.now.told.channels c.args.byte ≡ true =
    ap (λ p. hello_allows p c.args.self.now.told.channels c.args.byte) (sym place) ∙ sym c.hello_allows.ensures.allows ∙ c.if-not-hello_allows.false in
    let five : 5 ≡ length text = omega arith in
    let channels : c.args.self.now.told.channels ≡ channels_of (text ++ c.args.byte ∷ []) = stands.told.channels (omega arith) ∙ sym (same_channels text c.args.byte (omega arith)) in
    let factor : c.args.byte ≡ factor_of (text ++ c.args.byte ∷ []) = sym (here text c.args.byte 5 five) in
    hello_brings limit text c.args.byte c.args.self.now _ _ (omega arith) (omega arith) stands allowed refl refl
    (λ h. channels) (λ h. factor) (form_is text c.args.byte _ _ five channels factor)

pub returns-in-4-clause-brings : goal.returns-in-4-clause-brings
returns-in-4-clause-brings c limit text place room stands =
    let allowed : hello_allows (length text) c.args.self.now.told.channels c.args.byte ≡ true =
    ap (λ p. hello_allows p c.args.self.now.told.channels c.args.byte) (sym place) ∙ sym c.hello_allows.ensures.allows ∙ c.if-not-hello_allows.false in
    let four : 4 ≡ length text = omega arith in
    hello_brings limit text c.args.byte c.args.self.now _ _ (omega arith) (omega arith) stands allowed refl refl
    (λ h. sym (here text c.args.byte 4 four)) (λ h. absurd (omega arith)) (not_five text c.args.byte (omega arith))

pub returns-in_default-clause-brings : goal.returns-in_default-clause-brings
returns-in_default-clause-brings c limit text place room stands =
    let allowed : hello_allows (length text) c.args.self.now.told.channels c.args.byte ≡ true =
    ap (λ p. hello_allows p c.args.self.now.told.channels c.args.byte) (sym place) ∙ sym c.hello_allows.ensures.allows ∙ c.if-not-hello_allows.false in
    hello_brings limit text c.args.byte c.args.self.now _ _ (omega arith) (omega arith) stands allowed refl refl
    (λ h. absurd (omega arith)) (λ h. absurd (omega arith)) (not_five text c.args.byte (omega arith))
