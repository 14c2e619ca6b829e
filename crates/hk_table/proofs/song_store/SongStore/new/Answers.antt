use Rattle.std.proofs.Common.{◌∙◌, ap}
use Rattle.hk_table.specs.Extents.{extent_songs}
use Rattle.hk_table.proofs.Room.{slots_new}
use Rattle.hk_table.proofs.song_store.SongStore.new.Goals as goal

pub returns-in-Ok-resize : goal.returns-in-Ok-resize
returns-in-Ok-resize c = λ i. record {
  slots = (ap (extent_songs c.in-Ok.words.items) c.in-Ok-resize.ensures.items
      ∙ slots_new c.in-Ok.words.items c.new-slots.result.items c.args.songs c.new-slots.result.len c.new-slots.ensures.items c.new-slots.ensures.len) i;
  positions = c.args.positions;
}
