-- Facts of what came of a byte.
use Rattle.std.proofs.Common.{◌≡◌, refl, ap, sym, ◌∙◌, Option, None, Some, Result, Ok, Err}
use Rattle.std.specs.Prelude.{OnOk, OnErr}
use Rattle.hk_base.specs.declared.plain.End.{End}
use Rattle.hk_station.specs.declared.station.Progress.{Progress}
use Rattle.hk_station.specs.declared.station.Progress.TheVariants.{Going, Over}
use Rattle.hk_station.specs.Outcome.{progress_of}

pub ok_both : {T E P Q R : Type 0} (r : Result T E) → (P → Q → R) → OnOk r P → OnOk r Q → OnOk r R
ok_both (Ok x) f p q = f p q
ok_both (Err e) f p q = tt

pub err_both : {T E P Q R : Type 0} (r : Result T E) → (P → Q → R) → OnErr r P → OnErr r Q → OnErr r R
err_both (Ok x) f p q = tt
err_both (Err e) f p q = f p q

pub none_left : {A : Type 0} (o : Option A) → ((x : A) → o ≡ Some x → ⊥) → o ≡ None
none_left None other = refl
none_left (Some x) other = absurd (other x refl)

abbrev end_in : Progress → Option End
end_in Going = None
end_in (Over end) = Some end

ended_so : (o : Option End) → end_in (progress_of o) ≡ o
ended_so None = refl
ended_so (Some end) = refl

-- the end that was told is the one kept
pub end_told : (o : Option End) (end : End) → Over end ≡ progress_of o → o ≡ Some end
end_told o end told = sym (ended_so o) ∙ ap end_in (sym told)

pub going_told : (o : Option End) → Going ≡ progress_of o → o ≡ None
going_told o told = sym (ended_so o) ∙ ap end_in (sym told)
