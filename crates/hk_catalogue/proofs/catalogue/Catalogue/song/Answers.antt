use Rattle.std.proofs.Common.{subst}
use Rattle.std.specs.List.{Contains}
use Rattle.std.specs.Option.{IfSome}
use Rattle.hk_catalogue.specs.Shelves.{Shelves, songs_of, entry_of}
use Rattle.hk_catalogue.specs.Entries.{entry_pairs}
use Rattle.hk_catalogue.proofs.Filled.{song_known}
use Rattle.hk_catalogue.proofs.catalogue.Catalogue.song.Goals as goal

pub returns-clause-known : goal.returns-clause-known
returns-clause-known c =
    subst (λ (s : Shelves). IfSome c.song.result (λ song. Contains (songs_of s) (entry_of song))) c.self.view_is
    (song_known c.self.inside.store (entry_pairs c.self.inside.index.items) c.args.slot c.song.result c.self.invariant.filled c.song.ensures)
