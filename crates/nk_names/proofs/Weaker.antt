-- What a policy assigns, under a weaker condition.
use Rattle.std.proofs.Common.{ℕ}
use Rattle.nk_policy.specs.Policy.{Policy, Policies, assign, sum_of, seq_of, star_of, link, no_part, part}
use Rattle.nk_policy.specs.Ranges.{AssignsOnly, AllAssignOnly}

mutual
  -- what is assigned under one condition is assigned under a weaker one
  pub assigns_weaker : (P Q : ℕ → ℕ → Type 0) → ((f n : ℕ) → P f n → Q f n) → (p : Policy) → AssignsOnly P p → AssignsOnly Q p
  assigns_weaker P Q h (assign f n) a = h f n a
  assigns_weaker P Q h (sum_of ps) a = all_assign_weaker P Q h ps a
  assigns_weaker P Q h (seq_of ps) a = all_assign_weaker P Q h ps a
  assigns_weaker P Q h (star_of p) a = assigns_weaker P Q h p a
  assigns_weaker P Q h (link s m t n l) a = (h 0 t a.0, h 1 n a.1)
  assigns_weaker P Q h p a = tt

  all_assign_weaker : (P Q : ℕ → ℕ → Type 0) → ((f n : ℕ) → P f n → Q f n) → (ps : Policies) → AllAssignOnly P ps → AllAssignOnly Q ps
  all_assign_weaker P Q h no_part a = tt
  all_assign_weaker P Q h (part p ps) a = (assigns_weaker P Q h p a.0, all_assign_weaker P Q h ps a.1)
