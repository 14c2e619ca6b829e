use Rattle.std.proofs.Common.{◌≡◌, ◌&&◌, Bool, true, false, not, nat_lt, nat_le, ◌+◌, ℕ, length, sym, ◌∙◌, subst, refl}
use Rattle.std.proofs.lemmas.Bool.{and_parts, ltb-true}
use Rattle.hk_spec_matching.specs.Catalogue.{Limits, Songs, has_song, has_room, positions_of}
use Rattle.hk_spec_matching.specs.Matching.{MOST_ERRORS}
use Rattle.hk_catalogue.specs.Register.{songs_after}
use Rattle.hk_catalogue.specs.Shelves.{Shelves, songs_of}
use Rattle.hk_catalogue.specs.declared.edit.Edit.{Edit}
use Rattle.hk_catalogue.proofs.Shelving.{without-absent}
use Rattle.hk_catalogue.proofs.catalogue.Catalogue.absorb.Goals as goal

-- limits that the catalogue has
abbrev pub own : Shelves → Limits
own shelves = record { songs = length shelves.store.slots; positions = shelves.store.positions; versions = 0 }

room : (c : goal.After-add-arg-1) → (not (has_song (songs_of c.args.self.now) c.in-Add.song.id) && has_room (own c.args.self.now) (songs_of c.args.self.now) (length c.in-Add.song.words)) ≡ true
room c = sym (c.has_room.ensures.room (own c.args.self.now) (record { songs = refl; positions = refl })) ∙ c.if-has_room.true

not_true : (b : Bool) → not b ≡ true → b ≡ false
not_true true is = sym is
not_true false is = refl

pub add-requires-clause-new : goal.add-requires-clause-new
add-requires-clause-new c =
    not_true (has_song (songs_of c.args.self.now) c.in-Add.song.id)
    (and_parts (not (has_song (songs_of c.args.self.now) c.in-Add.song.id)) (has_room (own c.args.self.now) (songs_of c.args.self.now) (length c.in-Add.song.words)) (room c)).0

pub add-requires-clause-slot : goal.add-requires-clause-slot
add-requires-clause-slot c =
    let songs : Songs = songs_of c.args.self.now in
    let slots : ℕ = length c.args.self.now.store.slots in
    let both = and_parts (not (has_song songs c.in-Add.song.id)) (has_room (own c.args.self.now) songs (length c.in-Add.song.words)) (room c) in
    let left = and_parts (nat_lt (length songs) slots) (nat_le (positions_of songs + length c.in-Add.song.words) c.args.self.now.store.positions) both.1 in
    ltb-true (length songs) slots left.0

pub returns-else-has-clause-songs : goal.returns-else-has-clause-songs
returns-else-has-clause-songs c limits has =
    let songs : Songs = songs_of c.args.self.now in
    subst (λ (e : Edit). songs ≡ songs_after limits MOST_ERRORS songs e) (sym c.in-Withdraw.is)
    (sym (without-absent songs c.in-Withdraw.id (sym c.has.ensures ∙ c.if-has.false)))
