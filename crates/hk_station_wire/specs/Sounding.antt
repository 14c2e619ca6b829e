-- Bytes of sound behind a text.
use Rattle.std.specs.Prelude.{◌≡◌, ℕ, ◌+◌, ◌≤◌, ⊤, false, List, [], ◌∷◌, ◌++◌, length, slice_index, None}
use Rattle.hk_spec_streams.specs.Grammar.{packet_size}
use Rattle.hk_spec_streams.specs.Station.{width_in, station_fault, DATA}
use Rattle.hk_station_wire.specs.LastPacket.{last_packet}
use Rattle.hk_station_wire.specs.Items.{carries_prints, item_at}
use Rattle.hk_station_wire.specs.declared.item.Item.TheVariants.{Byte}

-- each of these bytes behind the text is a byte of sound
abbrev pub AreSound : ℕ → List ℕ → List ℕ → Type 0
AreSound limit text [] = ⊤
AreSound limit text (b ∷ bytes) = (item_at limit (text ++ b ∷ []) ≡ Byte b) × AreSound limit (text ++ b ∷ []) bytes

-- The text's last packet lacks at least so many bytes of sound, which may come within the limit. Its first twelve have come.
pub record SoundAhead (limit : ℕ) (text : List ℕ) (count : ℕ) : Type 0 where
  pub no_fault : station_fault limit text ≡ None
  pub sound : carries_prints text ≡ false
  pub kind : slice_index (last_packet text) 0 ≡ DATA
  pub begun : 12 ≤ length (last_packet text)
  pub inside : length (last_packet text) + count ≤ packet_size (width_in text) (last_packet text)
  pub room : length text + count ≤ limit
