-- The tests and assignments of a policy: those of policies made from it are among them.
use Rattle.std.proofs.Common.{ℕ, ◌+◌, Bool, true, false}
use Rattle.std.specs.Prelude.{◌==◌, ◌↔◌, if◌then◌else◌}
use Rattle.nk_policy.specs.Policy.{Policy, Policies, assign, sum_of, seq_of, not_of, star_of, dup, link, no_part, part, dups_of, marked_from, all_marked_from, without_links, all_without_links}
use Rattle.nk_policy.specs.After.{id_policy, drop_policy, has_dup, after_dup, after, after_some, after_all}
use Rattle.nk_policy.specs.Ranges.{AssignsOnly, AllAssignOnly, UsesOnly, AllUseOnly}

module _ (Allowed More : ℕ → ℕ → Type 0) (more : (f n : ℕ) → Allowed f n → More f n) where
  mutual
    -- the assignments are among the tests and assignments
    pub assigns_from_uses : (p : Policy) → UsesOnly Allowed p → AssignsOnly More p
    assigns_from_uses (assign f n) u = more f n u
    assigns_from_uses (sum_of ps) u = all_assign_from_uses ps u
    assigns_from_uses (seq_of ps) u = all_assign_from_uses ps u
    assigns_from_uses (star_of p) u = assigns_from_uses p u
    assigns_from_uses (link a m b n l) u = (more 0 b u.2, more 1 n u.3)
    assigns_from_uses p u = tt

    -- of the parts
    all_assign_from_uses : (ps : Policies) → AllUseOnly Allowed ps → AllAssignOnly More ps
    all_assign_from_uses no_part u = tt
    all_assign_from_uses (part p ps) u = (assigns_from_uses p u.0, all_assign_from_uses ps u.1)

module _ (Allowed : ℕ → ℕ → Type 0) where
  mutual
    -- a policy that is numbered anew has the same ones
    pub marked_uses : (p : Policy) (n : ℕ) → UsesOnly Allowed (marked_from p n) ↔ UsesOnly Allowed p
    marked_uses (sum_of ps) n = all_marked_use ps n
    marked_uses (seq_of ps) n = all_marked_use ps n
    marked_uses (not_of p) n = marked_uses p n
    marked_uses (star_of p) n = marked_uses p n
    marked_uses p n = (λ u. u, λ u. u)

    -- of the parts
    all_marked_use : (ps : Policies) (n : ℕ)
        → AllUseOnly Allowed (all_marked_from ps n) ↔ AllUseOnly Allowed ps
    all_marked_use no_part n = (λ u. u, λ u. u)
    all_marked_use (part p ps) n =
        let a = marked_uses p n in
        let b = all_marked_use ps (n + dups_of p) in
        (λ u. (a.0 u.0, b.0 u.1), λ u. (a.1 u.0, b.1 u.1))

  mutual
    -- with its link literals written out too
    pub written_uses : (p : Policy) → UsesOnly Allowed (without_links p) ↔ UsesOnly Allowed p
    written_uses (sum_of ps) = all_written_use ps
    written_uses (seq_of ps) = all_written_use ps
    written_uses (not_of p) = written_uses p
    written_uses (star_of p) = written_uses p
    written_uses (link a m b n l) = (
      λ u. (u.0, u.1.0, u.1.1.1.0, u.1.1.1.1.0),
      λ u. (u.0, (u.1, (tt, (u.2, (u.3, (tt, tt)))))),
    )
    written_uses p = (λ u. u, λ u. u)

    -- of the parts
    all_written_use : (ps : Policies)
        → AllUseOnly Allowed (all_without_links ps) ↔ AllUseOnly Allowed ps
    all_written_use no_part = (λ u. u, λ u. u)
    all_written_use (part p ps) =
        let a = written_uses p in
        let b = all_written_use ps in
        (λ u. (a.0 u.0, b.0 u.1), λ u. (a.1 u.0, b.1 u.1))

  -- a choice of two policies has those of either
  choice_uses : (c : Bool) (p q : Policy) → UsesOnly Allowed p → UsesOnly Allowed q
      → UsesOnly Allowed (if c then p else q)
  choice_uses true p q a b = a
  choice_uses false p q a b = b

  mutual
    -- what is left after a dup has some of them
    pub rest_uses : (p : Policy) (k : ℕ) → UsesOnly Allowed p → UsesOnly Allowed (after p k)
    rest_uses (sum_of ps) k u = some_rest_uses ps k u
    rest_uses (seq_of ps) k u = all_rest_uses ps k u
    rest_uses (star_of p) k u = (rest_uses p k u, (u, tt))
    rest_uses (dup l) k u = choice_uses (k == l) id_policy drop_policy tt tt
    rest_uses (link a m b n l) k u =
        choice_uses
        (k == l)
        (seq_of (part (after_dup l k) (part (assign 0 b) (part (assign 1 n) (part (dup (l + 1)) no_part)))))
        (if k == (l + 1) then seq_of (part (after_dup (l + 1) k) no_part) else drop_policy)
        (choice_uses (k == l) id_policy drop_policy tt tt, (u.2, (u.3, (tt, tt))))
        (choice_uses
        (k == (l + 1))
        (seq_of (part (after_dup (l + 1) k) no_part))
        drop_policy
        (choice_uses (k == (l + 1)) id_policy drop_policy tt tt, tt)
        tt)
    rest_uses p k u = tt

    -- of a sum
    some_rest_uses : (ps : Policies) (k : ℕ) → AllUseOnly Allowed ps
        → UsesOnly Allowed (after_some ps k)
    some_rest_uses no_part k u = tt
    some_rest_uses (part p ps) k u =
        choice_uses (has_dup p k) (after p k) (after_some ps k) (rest_uses p k u.0) (some_rest_uses ps k u.1)

    -- of a sequence
    all_rest_uses : (ps : Policies) (k : ℕ) → AllUseOnly Allowed ps → UsesOnly Allowed (after_all ps k)
    all_rest_uses no_part k u = tt
    all_rest_uses (part p ps) k u =
        choice_uses (has_dup p k) (seq_of (part (after p k) ps)) (after_all ps k) (rest_uses p k u.0, u.1) (all_rest_uses ps k u.1)
