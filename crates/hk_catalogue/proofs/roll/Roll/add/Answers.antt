use Rattle.std.proofs.Common.{◌≡◌, ◌+◌, ap, subst, arith}
use Rattle.std.specs.Ordering.{nat_cmp}
use Rattle.std.specs.FinMap.{put}
use Rattle.hk_catalogue.specs.Refusals.{SongLengths}
use Rattle.hk_catalogue.specs.Register.{Register}
use Rattle.hk_catalogue.specs.RollInside.{as_register, IsKept}
use Rattle.hk_catalogue.specs.declared.entry.Entry.{Entry}
use Rattle.hk_catalogue.specs.declared.roll.Roll.TheInside.{Inside}
use Rattle.hk_catalogue.proofs.RollFields.{is_place, IsWith, is_with}
use Rattle.hk_catalogue.proofs.roll.Roll.add.Goals as goal

pub invariant_of-self : goal.invariant_of-self
invariant_of-self c =
    let inside : Inside = c.self.inside in
    let kept : IsKept inside = c.self.invariant in
    let entry : Entry = record { id = c.args.id; number = c.args.length } in
    let place = is_place inside c.args.self.now c.as_slice.result.now c.args.id c.place_of-place.result c.self.view_is kept c.as_slice.ensures.value c.place_of-place.ensures.splits in
    let more : IsWith inside entry c.insert.new.self.items = is_with inside c.args.self.now entry c.place_of-place.result c.insert.new.self.items place c.requires c.in-Ok.ensures.items in
    record {
      rising = more.rising;
      all_words = more.words;
      few_words = more.words_fit;
      few_songs = omega (arith, more.song_fits, c.in-Ok.ensures.len, inside.entries.ok);
      few_versions = kept.few_versions;
      room = omega (arith, kept.room, c.in-Ok.ensures.capacity);
    }

pub returns : goal.returns
returns c =
    let inside : Inside = c.self.inside in
    let entry : Entry = record { id = c.args.id; number = c.args.length } in
    let place = is_place inside c.args.self.now c.as_slice.result.now c.args.id c.place_of-place.result c.self.view_is c.self.invariant c.as_slice.ensures.value c.place_of-place.ensures.splits in
    let more : IsWith inside entry c.insert.new.self.items = is_with inside c.args.self.now entry c.place_of-place.result c.insert.new.self.items place c.requires c.in-Ok.ensures.items in
    let with_lengths : SongLengths → Register = λ lengths. record (as_register inside) { lengths = lengths } in
    let new : Register = as_register (record inside { entries = c.insert.new.self; words = inside.words + c.args.length }) in
    subst (λ (roll : Register). new ≡ record roll { lengths = put nat_cmp c.args.id c.args.length roll.lengths }) c.self.view_is (ap with_lengths more.lengths)
