use Rattle.std.proofs.Common.{◌≡◌, ◌-◌, subst, arith}
use Rattle.hk_table.specs.Store.{Store, spare}
use Rattle.hk_table.proofs.Room.{all_in}
use Rattle.hk_table.proofs.song_store.SongStore.spare.Goals as goal

pub returns : goal.returns
returns c =
    subst (λ (s : Store). c.self.inside.positions - c.len.result ≡ spare s) c.self.view_is
    (omega (arith, all_in c.self.inside c.self.invariant, c.len.ensures, c.self.inside.words.ok))
