use Rattle.std.proofs.Common.{◌≡◌, ◌<◌, sym, ◌∙◌, ap, subst, arith, length, option_map, Some}
use Rattle.std.specs.List.{slice_get}
use Rattle.hk_table.specs.Store.{SongWithId}
use Rattle.hk_catalogue.specs.Shelves.{Shelves, songs_of, entry_of}
use Rattle.hk_catalogue.proofs.Shelving.{some_not_none}
use Rattle.hk_catalogue.proofs.Kept.{count_in_view, held_at, entry_read}
use Rattle.hk_catalogue.proofs.catalogue.Catalogue.nth.Goals as goal

pub unreachable-requires : goal.unreachable-requires
unreachable-requires c =
    let low : c.args.n < length c.self.inside.index.items = omega (arith, c.requires, count_in_view c.self.inside c.args.self.now c.self.view_is) in
    let held = held_at c.self.inside.store c.self.inside.index.items c.args.n c.index.result.now c.self.invariant.held low c.index.ensures in
    some_not_none c.index.result.now.id (sym (ap (option_map (λ (t : SongWithId). t.id)) (sym c.song.ensures ∙ c.in-None.is)) ∙ held)

pub returns : goal.returns
returns c =
    let low : c.args.n < length c.self.inside.index.items = omega (arith, c.requires, count_in_view c.self.inside c.args.self.now c.self.view_is) in
    subst (λ (s : Shelves). slice_get (songs_of s) c.args.n ≡ Some (entry_of c.in-Some.song)) c.self.view_is
    (entry_read c.self.inside.store c.self.inside.index.items c.args.n c.index.result.now c.in-Some.song c.self.invariant.held low c.index.ensures (sym c.song.ensures ∙ c.in-Some.is))
