-- Assignments that are allowed twice over.
use Rattle.std.proofs.Common.{ℕ}
use Rattle.nk_policy.specs.Policy.{Policy, Policies, assign, sum_of, seq_of, star_of, link, no_part, part}
use Rattle.nk_policy.specs.Ranges.{AssignsOnly, AllAssignOnly}

module _ (A B : ℕ → ℕ → Type 0) where
  -- allowed by both
  abbrev pub Both : ℕ → ℕ → Type 0
  Both f n = A f n × B f n

  mutual
    -- the assignments of a policy
    pub assigns_both : (p : Policy) → AssignsOnly A p → AssignsOnly B p → AssignsOnly Both p
    assigns_both (assign f n) a b = (a, b)
    assigns_both (sum_of ps) a b = all_assign_both ps a b
    assigns_both (seq_of ps) a b = all_assign_both ps a b
    assigns_both (star_of p) a b = assigns_both p a b
    assigns_both (link s t u v l) a b = ((a.0, b.0), (a.1, b.1))
    assigns_both p a b = tt

    -- of the parts
    all_assign_both : (ps : Policies) → AllAssignOnly A ps → AllAssignOnly B ps → AllAssignOnly Both ps
    all_assign_both no_part a b = tt
    all_assign_both (part p ps) a b = (assigns_both p a.0 b.0, all_assign_both ps a.1 b.1)
