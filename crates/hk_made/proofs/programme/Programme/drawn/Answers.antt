use Rattle.std.proofs.Common.{◌+◌, ◌*◌, length, take, ap, ◌∙◌, arith}
use Rattle.hk_spec_made.specs.Input.{drawn_words}
use Rattle.hk_made.proofs.Drawing.{length-high_parts}
use Rattle.hk_made.proofs.programme.Programme.drawn.Goals as goal

pub song_words-requires : goal.song_words-requires
song_words-requires c =
    let all = ap length (c.deref.ensures.value ∙ c.in_ok-highs.ensures) ∙ length-high_parts c.args.seed (2 * 10800 + 4 * c.from.result * 600) in
    omega (arith, all)

pub invariant_of-result : goal.invariant_of-result
invariant_of-result c =
    let all = ap length c.in_ok-highs.ensures ∙ length-high_parts c.args.seed (2 * 10800 + 4 * c.from.result * 600) in
    record {
      few_stations = c.requires.few_stations;
      few_flips = c.requires.few_flips;
      all_drawn = omega (arith, all, c.from.ensures);
      exact = c.in_ok-words.ensures ∙ ap (λ hs. take 10800 (drawn_words hs)) c.deref.ensures.value;
    }
