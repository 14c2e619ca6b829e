use Rattle.std.proofs.Common.{◌≡◌, ◌<◌, ◌+◌, ◌++◌, sym, ◌∙◌, ap, arith, ℕ, length, take, get_or}
use Rattle.std.proofs.lemmas.Option.{get_or_from_slice_get}
use Rattle.hk_spec_matching.specs.Catalogue.{Song, Songs}
use Rattle.hk_spec_matching.specs.Matching.{Query, matches, matches_of_song}
use Rattle.hk_catalogue.specs.Shelves.{songs_of, entry_of}
use Rattle.hk_probe.specs.Comparison.{query_in}
use Rattle.hk_probe.proofs.Songs.{matches_none, matches_more, positions_more, positions_within}
use Rattle.hk_probe.proofs.full_scan.scan.Goals as goal

pub loop-n-init : goal.loop-n-init
loop-n-init g c = record {
  listed = c.clear.ensures.empty ∙ sym (matches_none (query_in c.of-block.result));
  few = omega (arith, ap length c.clear.ensures.empty);
  room = c.clear.ensures.room;
}

pub list_song-requires : goal.list_song-requires
list_song-requires g c =
    let songs : Songs = songs_of c.args.catalogue.now in
    let low : c.loop-n.n < length songs = omega (arith, c.loop-n-test.true, c.count-n-end.ensures.count) in
    let song : get_or songs c.loop-n.n (entry_of c.nth.result) ≡ entry_of c.nth.result = get_or_from_slice_get songs c.loop-n.n (entry_of c.nth.result) (entry_of c.nth.result) c.nth.ensures in
    omega (
      arith,
      positions_more songs c.loop-n.n (entry_of c.nth.result) low,
      ap (λ (e : ℕ × Song). length e.1.words) song,
      positions_within songs (c.loop-n.n + 1),
      c.count-n-end.ensures.words_fit,
      c.requires.space,
      c.loop-n.invariant.few,
      c.loop-n.invariant.room,
    )

pub loop-n-preserved : goal.loop-n-preserved
loop-n-preserved g c =
    let query : Query = query_in c.of-block.result in
    let songs : Songs = songs_of c.args.catalogue.now in
    let low : c.loop-n.n < length songs = omega (arith, c.loop-n-test.true, c.count-n-end.ensures.count) in
    let song : get_or songs c.loop-n.n (entry_of c.nth.result) ≡ entry_of c.nth.result = get_or_from_slice_get songs c.loop-n.n (entry_of c.nth.result) (entry_of c.nth.result) c.nth.ensures in
    record {
      listed = c.list_song.ensures.list
          ∙ ap (λ xs. xs ++ matches_of_song query (entry_of c.nth.result)) c.loop-n.invariant.listed
          ∙ ap (λ e. matches query (take c.loop-n.n songs) ++ matches_of_song query e) (sym song)
          ∙ sym (matches_more query songs c.loop-n.n (entry_of c.nth.result) low);
      few = omega (arith, c.list_song.ensures.count, positions_more songs c.loop-n.n (entry_of c.nth.result) low, ap (λ (e : ℕ × Song). length e.1.words) song, c.loop-n.invariant.few);
      room = c.list_song.ensures.room ∙ c.loop-n.invariant.room;
    }
