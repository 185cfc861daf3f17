-- A policy whose dups are numbered on from those of another one.
use Rattle.std.proofs.Common.{◌≡◌, ℕ, ◌+◌, sym, subst}
use Rattle.nk_policy.specs.Policy.{Policy, marked_from, dups_of}
use Rattle.nk_policy.proofs.Remade.{marked_again}
use Rattle.nk_cert.specs.Together.{AreNumbered}

-- both are numbered one after the other
pub numbered_on : (p q r : Policy) (n : ℕ) → marked_from p 1 ≡ p → n ≡ 1 + dups_of p → r ≡ marked_from q n → AreNumbered p r
numbered_on p q r n h count is = record {
  left = h;
  right = subst (λ k. marked_from r k ≡ r) count (subst (λ s. marked_from s n ≡ s) (sym is) (marked_again q n n));
}
