-- A question about policies whose dups are numbered from 1 has its dups numbered so: predicates have none.
use Rattle.std.proofs.Common.{◌≡◌, ◌&&◌, ℕ, ◌+◌, true, refl, sym, ap, subst, ◌∙◌, arith}
use Rattle.nk_policy.specs.Policy.{Policy, Policies, test, assign, sum_of, seq_of, not_of, star_of, dup, link, no_part, part, dups_of, dups_of_all, is_predicate, marked_from, all_marked_from}
use Rattle.nk_policy.proofs.Remade.{dupless_marked}
use Rattle.nk_policy.proofs.Tests.{both_true}
use Rattle.nk_names.proofs.Predicates.{no_dups}
use Rattle.nk_query.specs.Questions.{avoiding, all_avoiding, dup_unless, apart_question, waypoint_question}

module _ (middle : Policy) (none : dups_of middle ≡ 0) where
  mutual
    -- a policy that avoids a predicate has as many dups
    avoiding_dups : (p : Policy) → dups_of (avoiding middle p) ≡ dups_of p
    avoiding_dups (sum_of ps) = all_avoiding_dups ps
    avoiding_dups (seq_of ps) = all_avoiding_dups ps
    avoiding_dups (not_of p) = avoiding_dups p
    avoiding_dups (star_of p) = avoiding_dups p
    avoiding_dups (dup l) = omega (arith, none)
    avoiding_dups (link a m b k l) = omega (arith, none)
    avoiding_dups p = refl

    -- its parts
    all_avoiding_dups : (ps : Policies) → dups_of_all (all_avoiding middle ps) ≡ dups_of_all ps
    all_avoiding_dups no_part = refl
    all_avoiding_dups (part p ps) = omega (arith, avoiding_dups p, all_avoiding_dups ps)

  -- a guarded dup
  guarded_marked : (l n x : ℕ) → x ≡ n → marked_from (dup_unless middle l) x ≡ dup_unless middle n
  guarded_marked l n x e =
      ap (λ g. seq_of (part (not_of g) (part (dup (x + dups_of middle)) no_part))) (dupless_marked middle x none)
      ∙ ap (λ k. dup_unless middle k) (omega (arith, none, e))

  -- a link literal, written out and guarded
  guarded_link_marked : (a m b k l n x y : ℕ) → x ≡ n → y ≡ n + 1 →
      seq_of
      (part
      (test 0 a)
      (part
      (test 1 m)
      (part
      (marked_from (dup_unless middle l) x)
      (part (assign 0 b) (part (assign 1 k) (part (marked_from (dup_unless middle (l + 1)) y) no_part))))))
      ≡ avoiding middle (link a m b k n)
  guarded_link_marked a m b k l n x y e f =
      ap (λ g. seq_of (part (test 0 a) (part (test 1 m) (part g (part (assign 0 b) (part (assign 1 k) (part (marked_from (dup_unless middle (l + 1)) y) no_part))))))) (guarded_marked l n x e)
      ∙ ap (λ g. seq_of (part (test 0 a) (part (test 1 m) (part (dup_unless middle n) (part (assign 0 b) (part (assign 1 k) (part g no_part))))))) (guarded_marked (l + 1) (n + 1) y f)

  mutual
    -- to avoid a predicate keeps the numbers of dups
    avoiding_marked : (p : Policy) (n : ℕ) → marked_from (avoiding middle p) n ≡ avoiding middle (marked_from p n)
    avoiding_marked (sum_of ps) n = ap sum_of (all_avoiding_marked ps n)
    avoiding_marked (seq_of ps) n = ap seq_of (all_avoiding_marked ps n)
    avoiding_marked (not_of p) n = ap not_of (avoiding_marked p n)
    avoiding_marked (star_of p) n = ap star_of (avoiding_marked p n)
    avoiding_marked (dup l) n = guarded_marked l n n refl
    avoiding_marked (link a m b k l) n =
        guarded_link_marked a m b k l n (n + 0 + 0) (n + 0 + 0 + (dups_of middle + (1 + 0)) + 0 + 0) (omega arith) (omega (arith, none))
    avoiding_marked p n = refl

    -- its parts
    all_avoiding_marked : (ps : Policies) (n : ℕ) → all_marked_from (all_avoiding middle ps) n ≡ all_avoiding middle (all_marked_from ps n)
    all_avoiding_marked no_part n = refl
    all_avoiding_marked (part p ps) n =
        ap (λ d. part (marked_from (avoiding middle p) n) (all_marked_from (all_avoiding middle ps) (n + d))) (avoiding_dups p)
        ∙ ap (λ q. part q (all_marked_from (all_avoiding middle ps) (n + dups_of p))) (avoiding_marked p n)
        ∙ ap (part (avoiding middle (marked_from p n))) (all_avoiding_marked ps (n + dups_of p))

-- a first part that has its numbers, and the parts after it
kept_before : (p : Policy) (ps : Policies) (n : ℕ) → marked_from p n ≡ p → all_marked_from ps (n + dups_of p) ≡ ps → all_marked_from (part p ps) n ≡ part p ps
kept_before p ps n e f = ap (λ q. part q (all_marked_from ps (n + dups_of p))) e ∙ ap (part p) f

-- a predicate first
guard_before : (g : Policy) (ps : Policies) (n : ℕ) → is_predicate g ≡ true → all_marked_from ps n ≡ ps → all_marked_from (part g ps) n ≡ part g ps
guard_before g ps n is e =
    let none : dups_of g ≡ 0 = no_dups g is in
    let same : n ≡ n + dups_of g = omega (arith, none) in
    kept_before g ps n (dupless_marked g n none) (subst (λ k. all_marked_from ps k ≡ ps) same e)

-- the question of `apart`
pub apart_numbered : (p from target : Policy) → marked_from p 1 ≡ p → is_predicate from && is_predicate target ≡ true
    → apart_question p from target ≡ marked_from (apart_question p from target) 1
apart_numbered p from target e h =
    let is = both_true (is_predicate from) (is_predicate target) h in
    let end = guard_before target no_part (1 + dups_of p) is.1 refl in
    sym (ap seq_of (guard_before from _ 1 is.0 (kept_before p _ 1 e end)))

-- the question of `waypoint`
pub waypoint_numbered : (p from middle target : Policy) → marked_from p 1 ≡ p → is_predicate from && is_predicate middle && is_predicate target ≡ true
    → waypoint_question p from middle target ≡ marked_from (waypoint_question p from middle target) 1
waypoint_numbered p from middle target e h =
    let all = both_true (is_predicate from && is_predicate middle) (is_predicate target) h in
    let is = both_true (is_predicate from) (is_predicate middle) all.0 in
    let body : marked_from (avoiding middle p) 1 ≡ avoiding middle p = avoiding_marked middle (no_dups middle is.1) p 1 ∙ ap (avoiding middle) e in
    let last : ℕ = 1 + dups_of (avoiding middle p) in
    let end = guard_before (not_of middle) _ last is.1 (guard_before target no_part last all.1 refl) in
    sym (ap seq_of (guard_before from _ 1 is.0 (guard_before (not_of middle) _ 1 is.1 (kept_before (avoiding middle p) _ 1 body end))))
