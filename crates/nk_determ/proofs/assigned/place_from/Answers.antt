use Rattle.std.proofs.Common.{◌≡◌, ℕ, ltb, true, false, get_or, arith, rules}
use Rattle.std.specs.List.Sorted.{IsPartitionPoint}
use Rattle.std.proofs.lemmas.Bool.Decides.{nat_tests}
use Rattle.std.proofs.lemmas.List.Sorted.{IsPartitionPoint-from_clause, IsPartitionedBy-ltb}
use Rattle.nk_determ.proofs.assigned.place_from.Goals as goal

point : (c : goal.After-partition_point) →
    IsPartitionPoint (λ (y : ℕ). ltb y c.args.from ≡ true) (λ y. ltb y c.args.from ≡ false) c.args.values.now c.partition_point.result
point c =
    let parted = IsPartitionedBy-ltb (λ (y : ℕ). y) c.args.values.now c.args.from c.requires.sorted in
    IsPartitionPoint-from_clause (λ (y : ℕ). ltb y c.args.from) _ _ c.partition_point.ensures.partitioned parted (λ a r q k. search rules)

pub returns-clause-below : goal.returns-clause-below
returns-clause-below c = λ k e l m. let t : ltb (get_or c.args.values.now k e) c.args.from ≡ true = (point c).0 k e (omega arith) m in grind (arith, nat_tests, t)

pub returns-clause-on : goal.returns-clause-on
returns-clause-on c = λ l.
    let t : ltb (get_or c.args.values.now c.partition_point.result 0) c.args.from ≡ false = (point c).1 c.partition_point.result 0 (omega arith) l in
    grind (arith, nat_tests, t)
