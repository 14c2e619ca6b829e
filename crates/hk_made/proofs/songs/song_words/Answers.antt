use Rattle.std.proofs.Common.{rules, ◌≡◌, ◌+◌, ◌*◌, [], ◌∷◌, ◌++◌, take, get_or, ap, sym, ◌∙◌, arith}
use Rattle.std.proofs.lemmas.List.FromFn.{map-range_with_len_more}
use Rattle.hk_spec_made.specs.Input.{drawn_words}
use Rattle.hk_made.proofs.Drawing.{word_at, drawn_words-first}
use Rattle.hk_made.proofs.songs.song_words.Goals as goal

pub loop-place-preserved : goal.loop-place-preserved
loop-place-preserved c =
    let highs = c.args.highs.now in
    let words = c.loop-place.words.items in
    let k = c.loop-place.place in
    let pushed : c.push.new.self.items ≡ words ++ (c.from-high.result * 65536 + c.from-low.result) ∷ [] = search rules in
    let high : c.from-high.result ≡ get_or highs (2 * k) 0 = search rules in
    let low : c.from-low.result ≡ get_or highs (2 * k + 1) 0 = search rules in
    pushed
    ∙ ap (λ y. words ++ (y * 65536 + c.from-low.result) ∷ []) high
    ∙ ap (λ y. words ++ (get_or highs (2 * k) 0 * 65536 + y) ∷ []) low
    ∙ ap (λ ws. ws ++ word_at highs k ∷ []) c.loop-place.invariant
    ∙ sym (map-range_with_len_more (word_at highs) 0 k k (omega arith))

pub returns : goal.returns
returns c =
    let highs = c.args.highs.now in
    let all : c.loop-place.place ≡ 10800 = omega (arith, c.loop-place-test.false, c.loop-place.auto.place-end) in
    c.loop-place.invariant ∙ drawn_words-first highs c.loop-place.place (omega (arith, c.requires)) ∙ ap (λ n. take n (drawn_words highs)) all
