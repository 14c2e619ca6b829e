use Rattle.std.proofs.Common.{◌≡◌, ℕ, ◌<◌, List, length, get_or, zip, arith, sym, ◌∙◌, ap, below_more, true, false}
use Rattle.std.proofs.lemmas.List.Sums.{position_or_len_is}
use Rattle.std.proofs.lemmas.Slice.Zip.{get_or-zip, length-zip}
use Rattle.hk_base.specs.declared.plain.Print.{Print}
use Rattle.hk_spec_matching.specs.Matching.{Query, is_hit}
use Rattle.hk_probe.specs.Comparison.{query_in}
use Rattle.hk_probe.proofs.comparison.Block.first_hit.Goals as goal

abbrev pair : List Print → List ℕ → ℕ → Print × ℕ
pair prints words k = get_or (zip prints words) k (record { word = 0; mask = 0 }, 0)

pair_is : (prints : List Print) (words : List ℕ) (k : ℕ) → k < length prints → k < length words
    → pair prints words k ≡ (get_or prints k (record { word = 0; mask = 0 }), get_or words k 0)
pair_is prints words k low high = get_or-zip prints words k (record { word = 0; mask = 0 }, 0) low high

pub loop-j-preserved : goal.loop-j-preserved
loop-j-preserved c =
    let query : Query = query_in c.args.self.now in
    let words = c.args.words.now in
    below_more (λ k. is_hit query (pair query.prints words k) ≡ false) c.loop-j.j c.loop-j.invariant
    (ap (is_hit query) (pair_is query.prints words c.loop-j.j (omega arith) (omega arith)) ∙ sym c.is_hit.ensures ∙ c.if-is_hit.false)

pub returns-then-is_hit-clause-first : goal.returns-then-is_hit-clause-first
returns-then-is_hit-clause-first c =
    let query : Query = query_in c.args.self.now in
    let words = c.args.words.now in
    let here : is_hit query (pair query.prints words c.loop-j.j) ≡ true =
    ap (is_hit query) (pair_is query.prints words c.loop-j.j (omega arith) (omega arith)) ∙ sym c.is_hit.ensures ∙ c.if-is_hit.true in
    sym (position_or_len_is (is_hit query) (zip query.prints words) c.loop-j.j (record { word = 0; mask = 0 }, 0)
    (omega (arith, length-zip query.prints words)) c.loop-j.invariant (λ low. here))

pub returns-clause-first : goal.returns-clause-first
returns-clause-first c =
    let query : Query = query_in c.args.self.now in
    let words = c.args.words.now in
    let all : length (zip query.prints words) ≡ 256 = omega (arith, length-zip query.prints words) in
    sym (position_or_len_is (is_hit query) (zip query.prints words) 256 (record { word = 0; mask = 0 }, 0) (omega (arith, all))
    (λ k low. c.loop-j.invariant k (omega arith)) (λ low. absurd (omega (arith, all, low))))
