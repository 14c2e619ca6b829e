use Rattle.std.proofs.Common.{◌≡◌, ◌==◌, ◌+◌, ◌<◌, ℕ, length, sym, ap, ◌∙◌, subst, arith}
use Rattle.std.specs.List.{count_by}
use Rattle.hk_spec_matching.specs.Buckets.{bucket_bits, bucket_of}
use Rattle.hk_nodes.specs.Store.{chain_at}
use Rattle.hk_table.specs.Index.{Index, Course, ArePlaces, bucket_size, all_words}
use Rattle.hk_table.specs.Walks.{course}
use Rattle.hk_table.specs.Songs.{bucket_at, as_index, IsKept, slots_in}
use Rattle.hk_table.specs.declared.table.Table.TheInside.{Inside}
use Rattle.hk_table.proofs.Buckets.{least_bits, most_bits, bucket_low, is_bucket}
use Rattle.hk_table.proofs.Finding.{are_places}
use Rattle.hk_table.proofs.table.Table.walk.Goals as goal

pub of-requires : goal.of-requires
of-requires c = omega (arith, c.self.invariant.shift, least_bits (length c.self.inside.nodes.behind))

low : (t : Inside) → IsKept t → (word : ℕ) → bucket_at t.shift word < length t.nodes.chains
low t kept word =
    let bits = bucket_bits (length t.nodes.behind) in
    let sum : bits + t.shift ≡ 32 = omega (arith, kept.shift, most_bits (length t.nodes.behind)) in
    omega (arith, kept.buckets, bucket_low bits t.shift word sum)

pub new-requires-clause-bucket : goal.new-requires-clause-bucket
new-requires-clause-bucket c = omega (arith, c.of.ensures, low c.self.inside c.self.invariant c.args.word)

places : (t : Inside) (word : ℕ) → IsKept t → ArePlaces (as_index t) word (course t.nodes word (chain_at t.nodes (bucket_at t.shift word))).places
places t word kept = are_places (bucket_at t.shift) t.nodes t.heads.items (length t.nodes.behind) word kept.hold (low t kept word)

size : (t : Inside) (word : ℕ) → IsKept t → length (chain_at t.nodes (bucket_at t.shift word)) ≡ bucket_size (as_index t) word
size t word kept =
    let same : (w : ℕ) → bucket_at t.shift w ≡ bucket_of (length t.nodes.behind) w =
    λ w. ap (λ s. bucket_at s w) kept.shift ∙ is_bucket (length t.nodes.behind) w in
    kept.hold.counts (bucket_at t.shift word)
    ∙ (λ i. count_by (λ x. same x i == same word i) (all_words (slots_in t.nodes t.heads.items)))

pub returns-clause-places : goal.returns-clause-places
returns-clause-places c =
    subst (λ (x : Index). ArePlaces x c.args.word c.new.result.places) c.self.view_is
    (subst (λ (w : Course). ArePlaces (as_index c.self.inside) c.args.word w.places)
    (ap (λ b. course c.self.inside.nodes c.args.word (chain_at c.self.inside.nodes b)) (sym c.of.ensures) ∙ sym c.new.ensures)
    (places c.self.inside c.args.word c.self.invariant))

pub returns-clause-nodes : goal.returns-clause-nodes
returns-clause-nodes c =
    ap (λ (w : Course). w.nodes) c.new.ensures
    ∙ ap (λ b. length (chain_at c.self.inside.nodes b)) c.of.ensures
    ∙ size c.self.inside c.args.word c.self.invariant
    ∙ ap (λ (x : Index). bucket_size x c.args.word) c.self.view_is
