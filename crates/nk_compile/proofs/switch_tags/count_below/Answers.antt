use Rattle.std.proofs.Common.{rules}
use Rattle.std.specs.Prelude.{nat_lt}
use Rattle.std.proofs.lemmas.List.Sorted.{IsPartitionPoint-from_clause}
use Rattle.nk_topo.proofs.Places.{prefix_of_point, numbers_parted}
use Rattle.nk_compile.proofs.switch_tags.count_below.Goals as goal

pub returns-clause-place : goal.returns-clause-place
returns-clause-place c =
    let up = numbers_parted c.args.numbers.now c.args.n c.requires in
    let point = IsPartitionPoint-from_clause (λ m. nat_lt m c.args.n) _ _ c.partition_point.ensures.partitioned up (λ a r q k. search rules) in
    prefix_of_point (λ m. nat_lt m c.args.n) c.args.numbers.now c.partition_point.result 0 c.partition_point.ensures.bound point
