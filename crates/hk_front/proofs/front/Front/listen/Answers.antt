use Rattle.std.proofs.Common.{◌≡◌, ◌≤◌, ◌++◌, ℕ, List, take, sym, subst, arith, Option}
use Rattle.std.specs.Prelude.{option_map}
use Rattle.hk_bands.specs.declared.energies.Energies.{Energies}
use Rattle.hk_front.specs.Hearing.{Hearing, HasAnalysed, prints_in}
use Rattle.hk_front.proofs.Heard.{hears_on, no_print}
use Rattle.hk_front.proofs.front.Front.listen.Goals as goal

-- the energies before, as contracts see them
abbrev bands_of : Option Energies → Option (List ℕ)
bands_of before = option_map (λ e. e.band) before

pub returns-clause-taken : goal.returns-clause-taken
returns-clause-taken c = λ bytes had.
    let s = c.self.inside in
    let was : Hearing = record { flips = s.flips; framer = s.framer; before = bands_of s.before } in
    let has = subst (λ (h : Hearing). HasAnalysed h bytes) (sym c.self.view_is) had in
    hears_on was bytes (bytes ++ take c.listen.result c.args.piece.now) (c.listen.ensures.no_frame bytes c.listen.result has.framed (omega arith))
    c.listen.new.self c.listen.ensures.form (c.listen.ensures.taken bytes has.framed) has

pub returns-clause-no_print : goal.returns-clause-no_print
returns-clause-no_print c = λ bytes k had upto.
    let s = c.self.inside in
    let was : Hearing = record { flips = s.flips; framer = s.framer; before = bands_of s.before } in
    let has = subst (λ (h : Hearing). HasAnalysed h bytes) (sym c.self.view_is) had in
    let longer : List ℕ = bytes ++ take k c.args.piece.now in
    subst (λ (h : Hearing). prints_in h longer ≡ prints_in h bytes) c.self.view_is
    (no_print was bytes longer (c.listen.ensures.no_frame bytes k has.framed upto))
