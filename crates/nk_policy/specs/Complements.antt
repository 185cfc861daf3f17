-- Policies in which each complement negates a predicate.
use Rattle.std.specs.Prelude.{◌≡◌, true}
use Rattle.nk_policy.specs.Policy.{Policy, Policies, test, range, assign, sum_of, seq_of, not_of, star_of, dup, link, no_part, part, is_predicate}

-- each complement negates a predicate
abbrev mutual
  pub NegatesPredicates : Policy → Type 0
  NegatesPredicates (test f n) = Unit {0}
  NegatesPredicates (range f lo hi) = Unit {0}
  NegatesPredicates (assign f n) = Unit {0}
  NegatesPredicates (sum_of ps) = AllNegatePredicates ps
  NegatesPredicates (seq_of ps) = AllNegatePredicates ps
  NegatesPredicates (not_of p) = (is_predicate p ≡ true) × NegatesPredicates p
  NegatesPredicates (star_of p) = NegatesPredicates p
  NegatesPredicates (dup l) = Unit {0}
  NegatesPredicates (link a m b n l) = Unit {0}

  -- each complement in the parts negates a predicate
  pub AllNegatePredicates : Policies → Type 0
  AllNegatePredicates no_part = Unit {0}
  AllNegatePredicates (part p ps) = NegatesPredicates p × AllNegatePredicates ps
