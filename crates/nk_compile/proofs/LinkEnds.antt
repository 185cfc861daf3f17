-- The switch where a literal ends is the one that its mark names in the policy.
use Rattle.std.proofs.Common.{◌≡◌, ℕ, ◌+◌, true, false, ⊎_elim, Option, Some, None, refl, sym, ap, subst, ◌∙◌, arith}
use Rattle.std.specs.Prelude.{◌==◌, if◌then◌else◌}
use Rattle.nk_policy.specs.Policy.{Policy, Policies, sum_of, seq_of, not_of, star_of, link, no_part, part}
use Rattle.nk_policy.specs.After.{has_dup, some_has_dup}
use Rattle.nk_policy.specs.Distinct.{HasDistinct, AllDistinct}
use Rattle.nk_policy.specs.Literals.{Literal, HoldsLiteral, SomeHoldsLiteral}
use Rattle.nk_policy.proofs.LinkStructure.{some_hold_first}
use Rattle.nk_policy.proofs.Tests.{both_false}
use Rattle.nk_compile.specs.WholeTable.{first_number, link_end, link_end_among}

-- a test of two numbers, turned round
other_way : (l k : ℕ) → l == k ≡ false → k == l ≡ false
other_way l k h = grind (arith, h)

-- a number passes the test with itself
same_number : (l : ℕ) → l == l ≡ true
same_number l = grind arith

-- after none the other
none_then : (o : Option ℕ) → o ≡ None → (q : Option ℕ) → first_number o q ≡ q
none_then o e q = ap (λ r. first_number r q) e

-- after some that one
some_then : (o : Option ℕ) (n : ℕ) → o ≡ Some n → (q : Option ℕ) → first_number o q ≡ Some n
some_then o n e q = ap (λ r. first_number r q) e

mutual
  -- a number that is no dup's is no mark's
  no_end : (p : Policy) (l : ℕ) → has_dup p l ≡ false → link_end p l ≡ None
  no_end (sum_of ps) l h = no_ends ps l h
  no_end (seq_of ps) l h = no_ends ps l h
  no_end (not_of p) l h = no_end p l h
  no_end (star_of p) l h = no_end p l h
  no_end (link a m b n k) l h =
      let e = both_false (l == k) (l == (k + 1)) h in
      ap (λ c. if c then Some b else None) (other_way l k e.0)
  no_end p l h = refl

  -- a number that is no dup's of the parts is no mark's of theirs
  no_ends : (ps : Policies) (l : ℕ) → some_has_dup ps l ≡ false → link_end_among ps l ≡ None
  no_ends no_part l h = refl
  no_ends (part p ps) l h =
      let e = both_false (has_dup p l) (some_has_dup ps l) h in
      none_then (link_end p l) (no_end p l e.0) (link_end_among ps l) ∙ no_ends ps l e.1

mutual
  -- of a policy
  pub end_of_literal :
      (p : Policy) → HasDistinct p → (k : Literal) → HoldsLiteral p k → link_end p k.mark ≡ Some k.to_switch
  end_of_literal (sum_of ps) d k h = end_among ps d k h
  end_of_literal (seq_of ps) d k h = end_among ps d k h
  end_of_literal (star_of p) d k h = end_of_literal p d k h
  end_of_literal (link a m b n l) d k h =
      subst
      (λ (i : Literal). (if l == i.mark then Some b else None) ≡ Some i.to_switch)
      (sym h)
      (ap (λ c. if c then Some b else None) (same_number l))
  end_of_literal p d k h = absurd h

  -- of its parts
  end_among :
      (ps : Policies) → AllDistinct ps → (k : Literal) → SomeHoldsLiteral ps k
      → link_end_among ps k.mark ≡ Some k.to_switch
  end_among no_part d k h = absurd h
  end_among (part p ps) d k h =
      ⊎_elim
      (λ a. some_then (link_end p k.mark) k.to_switch (end_of_literal p d.0 k a) (link_end_among ps k.mark))
      (λ b.
      none_then (link_end p k.mark) (no_end p k.mark (d.2 k.mark (some_hold_first ps k b))) (link_end_among ps k.mark)
      ∙ end_among ps d.1 k b)
      h
