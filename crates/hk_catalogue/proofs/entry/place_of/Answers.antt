use Rattle.std.proofs.Common.{rules, of_calls, nat_lt}
use Rattle.std.proofs.lemmas.List.Sorted.{IsPartitionPoint-from_clause, IsPartitionedBy-ltb}
use Rattle.hk_catalogue.proofs.Places.{splits, non_decreasing}
use Rattle.hk_catalogue.proofs.entry.place_of.Goals as goal

pub returns-clause-splits : goal.returns-clause-splits
returns-clause-splits c =
    let entries = c.args.entries.now in
    splits entries c.args.id c.partition_point.result
    (IsPartitionPoint-from_clause (λ entry. nat_lt entry.id c.args.id) entries c.partition_point.result c.partition_point.ensures.partitioned
    (IsPartitionedBy-ltb (λ entry. entry.id) entries c.args.id (non_decreasing entries c.requires)) (λ a r f k. search (rules, of_calls)))
    c.partition_point.ensures.bound
