use Rattle.std.proofs.Common.{◌≡◌, ◌++◌, [], ◌∷◌, sym, ◌∙◌, ap, arith, length, Some, None, length-append}
use Rattle.std.proofs.lemmas.List.{append-nil}
use Rattle.hk_spec_matching.specs.Matching.{Query, match_at}
use Rattle.hk_catalogue.specs.Shelves.{entry_of, song_of}
use Rattle.hk_probe.specs.Comparison.{query_in}
use Rattle.hk_probe.proofs.Starts.{listed_more, start_words, starts_of}
use Rattle.hk_probe.proofs.full_scan.list_song.Goals.{in-Some, in_default}
use Rattle.hk_probe.proofs.full_scan.list_song.Goals as goal

pub loop-start-preserved : goal.loop-start-preserved
loop-start-preserved g c =
    let query : Query = query_in c.args.block.now in
    let words = c.args.song.now.words in
    let here = c.window.ensures.words ∙ start_words query words c.loop-start.start (omega arith) in
    let id_is = ap (λ n. match_at query (n, song_of words) (c.loop-start.start, c.window.new.into)) c.id.ensures in
    elim c.match-match_at.branch [
      | in-Some w ↦
          let grown : c.match-match_at.scratch.matches ≡ c.loop-start.scratch.matches ++ w.in-Some.found ∷ [] = ap (λ s. s.matches) (w.scratch-is ∙ w.put.ensures.appended) in
          let room : c.match-match_at.scratch.room ≡ c.loop-start.scratch.room = ap (λ s. s.room) (w.scratch-is ∙ w.put.ensures.appended) in
          record {
            listed = listed_more query (entry_of c.args.song.now) c.loop-start.start _ (Some w.in-Some.found) c.args.scratch.now.matches c.loop-start.scratch.matches c.match-match_at.scratch.matches
                here (sym w.in-Some.is ∙ c.match_at.ensures words ∙ id_is) c.loop-start.invariant.listed grown;
            few = omega (arith, ap length grown, length-append c.loop-start.scratch.matches (w.in-Some.found ∷ []), c.loop-start.invariant.few);
            room = room ∙ c.loop-start.invariant.room;
          }
      | in_default w ↦
          let grown : c.match-match_at.scratch.matches ≡ c.loop-start.scratch.matches = ap (λ s. s.matches) w.scratch-is in
          let room : c.match-match_at.scratch.room ≡ c.loop-start.scratch.room = ap (λ s. s.room) w.scratch-is in
          record {
            listed = listed_more query (entry_of c.args.song.now) c.loop-start.start _ None c.args.scratch.now.matches c.loop-start.scratch.matches c.match-match_at.scratch.matches
                here (sym w.in_default.is ∙ c.match_at.ensures words ∙ id_is) c.loop-start.invariant.listed (grown ∙ sym (append-nil c.loop-start.scratch.matches));
            few = omega (arith, ap length grown, c.loop-start.invariant.few);
            room = room ∙ c.loop-start.invariant.room;
          }
    ]

pub returns-clause-list : goal.returns-clause-list
returns-clause-list g c =
    let query : Query = query_in c.args.block.now in
    c.loop-start.invariant.listed
    ∙ ap (λ xs. c.args.scratch.now.matches ++ xs) (starts_of query (entry_of c.args.song.now) c.loop-start.start (omega arith) (omega arith) (omega arith))
