-- The song stands behind all others, and its slot is the only one that changes.
use Rattle.std.proofs.Common.{◌≡◌, ◌+◌, ◌++◌, ℕ, List, length, get_or, set, ◌∙◌, ap, arith, subst, length-append, Option, Some, None}
use Rattle.std.proofs.lemmas.List.Sums.{sum_by-set}
use Rattle.hk_table.specs.Store.{Store, SongWithId, spare, with_song_at}
use Rattle.hk_table.specs.Extents.{extent_songs, IsWithin, length_of}
use Rattle.hk_table.specs.Inside.{IsKept}
use Rattle.hk_table.specs.declared.extent.Extent.{Extent}
use Rattle.hk_table.specs.declared.song_store.SongStore.TheInside.{Inside}
use Rattle.hk_table.proofs.Extents.{behind, songs-behind, within-behind, apart-behind}
use Rattle.hk_table.proofs.Room.{room_left, slot_there, slot_empty, spare-put}
use Rattle.hk_table.proofs.song_store.SongStore.put.Goals as goal

pub unreachable-requires : goal.unreachable-requires
unreachable-requires c =
    let room = room_left c.self.inside c.args.self.now (length c.args.song.now.words) c.self.view_is c.self.invariant c.requires.room in
    omega (arith, room, ap length c.words-words.ensures.words, c.in-Err.ensures.full, c.self.invariant.room, c.self.inside.words.ok)

pub invariant_of-self : goal.invariant_of-self
invariant_of-self c =
    let inside : Inside = c.self.inside in
    let kept : IsKept inside = c.self.invariant in
    let slots : List (Option Extent) = inside.slots.items in
    let song = c.words-words.result.now in
    let room = room_left inside c.args.self.now (length c.args.song.now.words) c.self.view_is kept c.requires.room in
    let there = slot_there inside c.args.self.now c.args.slot c.self.view_is c.requires.there in
    let empty : get_or slots c.args.slot None ≡ None = slot_empty inside c.args.self.now c.args.slot c.self.view_is c.requires.empty in
    let longer : c.extend_from_slice.new.self.items ≡ inside.words.items ++ song = c.in-Ok.ensures.items in
    let size : length c.extend_from_slice.new.self.items ≡ length inside.words.items + length song = ap length longer ∙ length-append inside.words.items song in
    let at : c.len-start.result ≡ length inside.words.items = omega (arith, c.len-start.ensures, inside.words.ok) in
    let extent : Extent = record { id = c.id.result; start = c.len-start.result; length = length song } in
    let here : IsWithin (length c.extend_from_slice.new.self.items) extent = record { ends = omega (arith, size, at); long = c.words-words.ensures.long } in
    record {
      within = within-behind (length inside.words.items) (length c.extend_from_slice.new.self.items) slots c.args.slot extent (omega (arith, size)) kept.within here;
      apart = apart-behind (length inside.words.items) slots c.args.slot extent there at kept.within kept.apart;
      all_words = omega (arith, sum_by-set length_of slots c.args.slot (Some extent) None there, ap length_of empty, size, kept.all_words);
      few_words = omega (arith, room, ap length c.words-words.ensures.words, c.in-Ok.ensures.len, inside.words.ok);
      short = kept.short;
      room = omega (arith, kept.room, c.in-Ok.ensures.capacity);
    }

pub returns-clause-put : goal.returns-clause-put
returns-clause-put c =
    let inside : Inside = c.self.inside in
    let slots : List (Option Extent) = inside.slots.items in
    let words : List ℕ = inside.words.items in
    let song : SongWithId = c.args.song.now in
    let extent : Extent = record { id = c.id.result; start = c.len-start.result; length = length c.words-words.result.now } in
    let at : c.len-start.result ≡ length words = omega (arith, c.len-start.ensures, inside.words.ok) in
    let same : c.words-words.result.now ≡ song.words = c.words-words.ensures.words in
    let is : extent ≡ behind words song = λ i. record { id = c.id.ensures i; start = at i; length = length (same i) } in
    let longer : c.extend_from_slice.new.self.items ≡ words ++ song.words = c.in-Ok.ensures.items ∙ ap (λ ws. words ++ ws) same in
    let grown : extent_songs c.extend_from_slice.new.self.items (set slots c.args.slot (Some extent)) ≡ set (extent_songs words slots) c.args.slot (Some song) =
    ap (λ ws. extent_songs ws (set slots c.args.slot (Some extent))) longer
    ∙ ap (λ x. extent_songs (words ++ song.words) (set slots c.args.slot (Some x))) is
    ∙ songs-behind words slots c.args.slot song c.self.invariant.within in
    let new : Store = record { slots = extent_songs c.extend_from_slice.new.self.items (set slots c.args.slot (Some extent)); positions = inside.positions } in
    subst (λ (s : Store). new ≡ with_song_at s c.args.slot song) c.self.view_is (λ i. record { slots = grown i; positions = inside.positions })

pub returns-clause-spare : goal.returns-clause-spare
returns-clause-spare c =
    ap (λ (s : Store). spare s + length c.args.song.now.words) (returns-clause-put c)
    ∙ spare-put c.args.self.now c.args.slot c.args.song.now c.requires.there c.requires.empty c.requires.room
