-- What a roll keeps, and what is true of it.
use Rattle.std.specs.Prelude.{◌≡◌, ◌≤◌, vec_len, vec_capacity}
use Rattle.hk_catalogue.specs.Refusals.{words_in}
use Rattle.hk_catalogue.specs.Entries.{entry_pairs, AreRising}
use Rattle.hk_catalogue.specs.Register.{Register}
use Rattle.hk_catalogue.specs.declared.roll.Roll.TheInside.{Inside}

abbrev pub as_register : Inside → Register
as_register r = record {
  lengths = entry_pairs r.entries.items;
  limits = record { songs = r.songs; positions = r.positions; versions = r.versions };
  version = r.version;
}

pub record IsKept (r : Inside) : Type 0 where
  pub rising : AreRising (entry_pairs r.entries.items)
  pub all_words : words_in (entry_pairs r.entries.items) ≡ r.words
  pub few_words : r.words ≤ r.positions
  pub few_songs : vec_len r.entries ≤ r.songs
  pub few_versions : r.version ≤ r.versions
  pub room : r.songs ≤ vec_capacity r.entries
