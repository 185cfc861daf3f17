use Rattle.std.proofs.Common.{◌≡◌, ℕ, ◌<◌, ltb, true, false, length, get_or, arith, rules}
use Rattle.std.specs.List.Sorted.{IsPartitionPoint}
use Rattle.std.proofs.lemmas.Bool.Decides.{nat_tests}
use Rattle.std.proofs.lemmas.List.Sorted.{IsPartitionPoint-from_clause, IsPartitionedBy-ltb}
use Rattle.nk_apply.proofs.Places.{ends_ordered, place_within, place_found}
use Rattle.nk_apply.proofs.part.place_of.Goals as goal

point : (c : goal.After-partition_point) →
    IsPartitionPoint (λ (y : ℕ × ℕ). ltb y.0 c.args.v ≡ true) (λ y. ltb y.0 c.args.v ≡ false) c.args.parts.now c.partition_point.result
point c =
    let parted = IsPartitionedBy-ltb (λ (p : ℕ × ℕ). p.0) c.args.parts.now c.args.v (ends_ordered c.args.max 0 c.args.parts.now c.requires.rise) in
    IsPartitionPoint-from_clause (λ (p : ℕ × ℕ). ltb p.0 c.args.v) _ _ c.partition_point.ensures.partitioned parted (λ a r q k. search rules)

below : (c : goal.After-partition_point) (e : ℕ × ℕ) (k : ℕ) → k < c.partition_point.result → (get_or c.args.parts.now k e).0 < c.args.v
below c e k l = let t : ltb (get_or c.args.parts.now k e).0 c.args.v ≡ true = (point c).0 k e (omega arith) l in grind (arith, nat_tests, t)

within : (c : goal.After-partition_point) → c.partition_point.result < length c.args.parts.now
within c = place_within c.args.max 0 c.args.v c.partition_point.result c.args.parts.now (0, 0) c.requires.rise (omega arith) c.requires.within c.partition_point.ensures.bound (below c (0, 0))

pub returns-clause-within : goal.returns-clause-within
returns-clause-within c = within c

pub returns-clause-found : goal.returns-clause-found
returns-clause-found c = λ e.
    let t : ltb (get_or c.args.parts.now c.partition_point.result e).0 c.args.v ≡ false = (point c).1 c.partition_point.result e (omega arith) (within c) in
    place_found c.args.v c.partition_point.result c.args.parts.now (0, 0) e (within c) (below c e) (grind (arith, nat_tests, t))
