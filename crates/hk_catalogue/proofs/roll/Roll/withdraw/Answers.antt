use Rattle.std.proofs.Common.{◌≡◌, ◌-◌, ◌==◌, not, filter, ap, subst, arith}
use Rattle.hk_catalogue.specs.Refusals.{SongLengths}
use Rattle.hk_catalogue.specs.Register.{Register}
use Rattle.hk_catalogue.specs.RollInside.{as_register, IsKept}
use Rattle.hk_catalogue.specs.declared.roll.Roll.TheInside.{Inside}
use Rattle.hk_catalogue.proofs.RollFields.{is_place, stands, IsWithout, is_without}
use Rattle.hk_catalogue.proofs.roll.Roll.withdraw.Goals as goal

pub remove-gone-requires : goal.remove-gone-requires
remove-gone-requires c =
    let place = is_place c.self.inside c.args.self.now c.as_slice.result.now c.args.id c.place_of-place.result c.self.view_is c.self.invariant c.as_slice.ensures.value c.place_of-place.ensures.splits in
    omega (arith, stands c.self.inside c.args.self.now c.args.id c.place_of-place.result place c.requires, c.self.inside.entries.ok)

pub overflow_sub-self : goal.overflow_sub-self
overflow_sub-self c =
    let place = is_place c.self.inside c.args.self.now c.as_slice.result.now c.args.id c.place_of-place.result c.self.view_is c.self.invariant c.as_slice.ensures.value c.place_of-place.ensures.splits in
    omega (arith, (is_without c.self.inside c.args.self.now c.args.id c.place_of-place.result c.remove-gone.result c.remove-gone.new.self.items place c.requires c.remove-gone.ensures.value c.remove-gone.ensures.items).words)

pub invariant_of-self : goal.invariant_of-self
invariant_of-self c =
    let inside : Inside = c.self.inside in
    let kept : IsKept inside = c.self.invariant in
    let place = is_place inside c.args.self.now c.as_slice.result.now c.args.id c.place_of-place.result c.self.view_is kept c.as_slice.ensures.value c.place_of-place.ensures.splits in
    let less : IsWithout inside c.args.id c.remove-gone.result c.remove-gone.new.self.items =
    is_without inside c.args.self.now c.args.id c.place_of-place.result c.remove-gone.result c.remove-gone.new.self.items place c.requires c.remove-gone.ensures.value c.remove-gone.ensures.items in
    record {
      rising = less.rising;
      all_words = omega (arith, less.words);
      few_words = omega (arith, kept.few_words);
      few_songs = omega (arith, kept.few_songs, c.remove-gone.ensures.len);
      few_versions = kept.few_versions;
      room = omega (arith, kept.room, c.remove-gone.ensures.capacity);
    }

pub returns : goal.returns
returns c =
    let inside : Inside = c.self.inside in
    let place = is_place inside c.args.self.now c.as_slice.result.now c.args.id c.place_of-place.result c.self.view_is c.self.invariant c.as_slice.ensures.value c.place_of-place.ensures.splits in
    let less : IsWithout inside c.args.id c.remove-gone.result c.remove-gone.new.self.items =
    is_without inside c.args.self.now c.args.id c.place_of-place.result c.remove-gone.result c.remove-gone.new.self.items place c.requires c.remove-gone.ensures.value c.remove-gone.ensures.items in
    let with_lengths : SongLengths → Register = λ lengths. record (as_register inside) { lengths = lengths } in
    let new : Register = as_register (record inside { entries = c.remove-gone.new.self; words = inside.words - c.remove-gone.result.number }) in
    subst (λ (roll : Register). new ≡ record roll { lengths = filter (λ entry. not (entry.0 == c.args.id)) roll.lengths }) c.self.view_is (ap with_lengths less.lengths)
