-- What is said of a policy holds of it once its dups are numbered, and stays with more fields; and the policy that a tree
-- stands for has fields, values and complements as they are to be.
use Rattle.std.proofs.Common.{◌≡◌, ℕ, ◌+◌, ◌*◌, ◌≤◌, refl, ap, ◌∙◌, arith}
use Rattle.std.specs.Prelude.{max}
use Rattle.nk_field.specs.Packet.{FieldTable, IsValue}
use Rattle.nk_policy.specs.Policy.{Policy, Policies, test, range, assign, sum_of, seq_of, not_of, star_of, dup, link, no_part, part, depth_of, depths_of, size_of, sizes_of, dups_of, dups_of_all, is_predicate, are_predicates, marked_from, all_marked_from}
use Rattle.nk_policy.specs.Ranges.{IsInRange, AreInRange, IsOverFields, AllUseOnly}
use Rattle.nk_names.specs.Complements.{NegatesPredicates, AllNegatePredicates}

-- the parts are over the fields
abbrev pub AreOver : FieldTable → Policies → Type 0
AreOver fields ps = AllUseOnly (IsValue fields) ps

mutual
  -- numbering changes no count of dups
  pub dups_marked : (p : Policy) (n : ℕ) → dups_of (marked_from p n) ≡ dups_of p
  dups_marked (sum_of ps) n = all_dups_marked ps n
  dups_marked (seq_of ps) n = all_dups_marked ps n
  dups_marked (not_of p) n = dups_marked p n
  dups_marked (star_of p) n = dups_marked p n
  dups_marked p n = refl

  -- numbering changes no count of the parts' dups
  pub all_dups_marked : (ps : Policies) (n : ℕ) → dups_of_all (all_marked_from ps n) ≡ dups_of_all ps
  all_dups_marked no_part n = refl
  all_dups_marked (part p ps) n = omega (arith, dups_marked p n, all_dups_marked ps (n + dups_of p))

mutual
  -- the last numbering stands
  pub marked_again : (p : Policy) (k n : ℕ) → marked_from (marked_from p k) n ≡ marked_from p n
  marked_again (sum_of ps) k n = ap sum_of (all_marked_again ps k n)
  marked_again (seq_of ps) k n = ap seq_of (all_marked_again ps k n)
  marked_again (not_of p) k n = ap not_of (marked_again p k n)
  marked_again (star_of p) k n = ap star_of (marked_again p k n)
  marked_again p k n = refl

  -- the last numbering of parts stands
  pub all_marked_again : (ps : Policies) (k n : ℕ) → all_marked_from (all_marked_from ps k) n ≡ all_marked_from ps n
  all_marked_again no_part k n = refl
  all_marked_again (part p ps) k n =
      ap (λ q. part q (all_marked_from (all_marked_from ps (k + dups_of p)) (n + dups_of (marked_from p k)))) (marked_again p k n)
      ∙ ap (λ d. part (marked_from p n) (all_marked_from (all_marked_from ps (k + dups_of p)) (n + d))) (dups_marked p k)
      ∙ ap (part (marked_from p n)) (all_marked_again ps (k + dups_of p) (n + dups_of p))

mutual
  -- numbering changes no size
  pub size_marked : (p : Policy) (n : ℕ) → size_of (marked_from p n) ≡ size_of p
  size_marked (sum_of ps) n = ap (λ k. 1 + k) (sizes_marked ps n)
  size_marked (seq_of ps) n = ap (λ k. 1 + k) (sizes_marked ps n)
  size_marked (not_of p) n = ap (λ k. 1 + k) (size_marked p n)
  size_marked (star_of p) n = ap (λ k. 1 + k) (size_marked p n)
  size_marked p n = refl

  -- numbering changes no size of parts
  pub sizes_marked : (ps : Policies) (n : ℕ) → sizes_of (all_marked_from ps n) ≡ sizes_of ps
  sizes_marked no_part n = refl
  sizes_marked (part p ps) n = omega (arith, size_marked p n, sizes_marked ps (n + dups_of p))

mutual
  -- numbering changes no depth
  pub depth_marked : (p : Policy) (n : ℕ) → depth_of (marked_from p n) ≡ depth_of p
  depth_marked (sum_of ps) n = ap (λ k. 1 + k) (depths_marked ps n)
  depth_marked (seq_of ps) n = ap (λ k. 1 + k) (depths_marked ps n)
  depth_marked (not_of p) n = ap (λ k. 1 + k) (depth_marked p n)
  depth_marked (star_of p) n = ap (λ k. 1 + k) (depth_marked p n)
  depth_marked p n = refl

  -- numbering changes no depth of parts
  pub depths_marked : (ps : Policies) (n : ℕ) → depths_of (all_marked_from ps n) ≡ depths_of ps
  depths_marked no_part n = refl
  depths_marked (part p ps) n =
      ap (λ d. max d (depths_of (all_marked_from ps (n + dups_of p)))) (depth_marked p n)
      ∙ ap (max (depth_of p)) (depths_marked ps (n + dups_of p))

mutual
  -- numbering changes no predicate
  pub predicate_marked : (p : Policy) (n : ℕ) → is_predicate (marked_from p n) ≡ is_predicate p
  predicate_marked (sum_of ps) n = predicates_marked ps n
  predicate_marked (seq_of ps) n = predicates_marked ps n
  predicate_marked (not_of p) n = predicate_marked p n
  predicate_marked p n = refl

  -- numbering changes no predicate among parts
  pub predicates_marked : (ps : Policies) (n : ℕ) → are_predicates (all_marked_from ps n) ≡ are_predicates ps
  predicates_marked no_part n = refl
  predicates_marked (part p ps) n = cc (predicate_marked p n, predicates_marked ps (n + dups_of p))

mutual
  -- a policy has at most two dups for each element
  pub few_dups : (p : Policy) → dups_of p ≤ 2 * size_of p
  few_dups (sum_of ps) = omega (arith, all_few_dups ps)
  few_dups (seq_of ps) = omega (arith, all_few_dups ps)
  few_dups (not_of p) = omega (arith, few_dups p)
  few_dups (star_of p) = omega (arith, few_dups p)
  few_dups p = omega arith

  -- parts have at most two dups for each element
  pub all_few_dups : (ps : Policies) → dups_of_all ps ≤ 2 * sizes_of ps
  all_few_dups no_part = omega arith
  all_few_dups (part p ps) = omega (arith, few_dups p, all_few_dups ps)

module _ (fields : FieldTable) where
  mutual
    -- numbering changes no field and no value
    pub over_marked : (p : Policy) (n : ℕ) → IsOverFields fields p → IsOverFields fields (marked_from p n)
    over_marked (sum_of ps) n h = all_over_marked ps n h
    over_marked (seq_of ps) n h = all_over_marked ps n h
    over_marked (not_of p) n h = over_marked p n h
    over_marked (star_of p) n h = over_marked p n h
    over_marked (dup l) n h = tt
    over_marked p n h = h

    -- numbering changes no field and no value of parts
    pub all_over_marked : (ps : Policies) (n : ℕ) → AreOver fields ps → AreOver fields (all_marked_from ps n)
    all_over_marked no_part n h = tt
    all_over_marked (part p ps) n h = (over_marked p n h.0, all_over_marked ps (n + dups_of p) h.1)

  mutual
    -- a policy over the fields assigns values in range
    pub over_in_range : (p : Policy) → IsOverFields fields p → IsInRange p fields
    over_in_range (assign f v) h = h.1
    over_in_range (sum_of ps) h = all_over_in_range ps h
    over_in_range (seq_of ps) h = all_over_in_range ps h
    over_in_range (star_of p) h = over_in_range p h
    over_in_range (link a m b k l) h = (h.2.1, h.3.1)
    over_in_range p h = tt

    -- parts over the fields assign values in range
    pub all_over_in_range : (ps : Policies) → AreOver fields ps → AreInRange ps fields
    all_over_in_range no_part h = tt
    all_over_in_range (part p ps) h = (over_in_range p h.0, all_over_in_range ps h.1)

mutual
  -- numbering leaves complements of predicates
  pub negates_marked : (p : Policy) (n : ℕ) → NegatesPredicates p → NegatesPredicates (marked_from p n)
  negates_marked (sum_of ps) n h = all_negate_marked ps n h
  negates_marked (seq_of ps) n h = all_negate_marked ps n h
  negates_marked (not_of p) n h = (predicate_marked p n ∙ h.0, negates_marked p n h.1)
  negates_marked (star_of p) n h = negates_marked p n h
  negates_marked p n h = tt

  -- numbering leaves complements of predicates in parts
  pub all_negate_marked : (ps : Policies) (n : ℕ) → AllNegatePredicates ps → AllNegatePredicates (all_marked_from ps n)
  all_negate_marked no_part n h = tt
  all_negate_marked (part p ps) n h = (negates_marked p n h.0, all_negate_marked ps (n + dups_of p) h.1)

module _ (fields more : FieldTable) (wider : (f v : ℕ) → IsValue fields f v → IsValue more f v) where
  mutual
    -- a policy over the fields is one over more fields
    pub over_more : (p : Policy) → IsOverFields fields p → IsOverFields more p
    over_more (test f v) h = wider f v h
    over_more (range f low high) h = (wider f low h.0, wider f high h.1)
    over_more (assign f v) h = wider f v h
    over_more (sum_of ps) h = all_over_more ps h
    over_more (seq_of ps) h = all_over_more ps h
    over_more (not_of p) h = over_more p h
    over_more (star_of p) h = over_more p h
    over_more (dup l) h = tt
    over_more (link a m b k l) h = (wider 0 a h.0, wider 1 m h.1, wider 0 b h.2, wider 1 k h.3)

    -- parts over the fields are parts over more fields
    pub all_over_more : (ps : Policies) → AreOver fields ps → AreOver more ps
    all_over_more no_part h = tt
    all_over_more (part p ps) h = (over_more p h.0, all_over_more ps h.1)
