use Rattle.std.proofs.Common.{◌==◌, ℕ, ap, ◌∙◌, subst}
use Rattle.std.specs.List.{count_by}
use Rattle.hk_spec_matching.specs.Buckets.{bucket_of}
use Rattle.hk_spec_matching.specs.Cost.{all_words}
use Rattle.hk_table.specs.Index.{Index, ArePlaces, bucket_size, index_of}
use Rattle.hk_catalogue.specs.Shelves.{Shelves, songs_of}
use Rattle.hk_catalogue.proofs.catalogue.Catalogue.walk.Goals as goal

pub returns-clause-places : goal.returns-clause-places
returns-clause-places c =
    subst (λ (s : Shelves). ArePlaces (index_of s.store) c.args.word c.walk.result.places) c.self.view_is
    (subst (λ (x : Index). ArePlaces x c.args.word c.walk.result.places) c.self.invariant.indexed c.walk.ensures.places)

-- how many words of the map are in the bucket of a word
abbrev in_bucket : Shelves → ℕ → ℕ
in_bucket shelves word = count_by (λ x. bucket_of shelves.store.positions x == bucket_of shelves.store.positions word) (all_words (songs_of shelves))

pub returns-clause-nodes : goal.returns-clause-nodes
returns-clause-nodes c =
    c.walk.ensures.nodes
    ∙ ap (λ (x : Index). bucket_size x c.args.word) c.self.invariant.indexed
    ∙ c.self.invariant.counted (λ x. bucket_of c.self.inside.store.positions x == bucket_of c.self.inside.store.positions c.args.word)
    ∙ ap (λ (s : Shelves). in_bucket s c.args.word) c.self.view_is
