-- A code of policies, such as the value of a type needs: the tree as steps of a machine that makes it on a stack.
use Rattle.std.specs.Prelude.{◌≡◌, ◌⊎◌, ℕ, zero, suc, List, [], ◌∷◌}
use Rattle.std.specs.Coded.{Coded, code_by, coded_ℕ, coded_list, coded⊎}
use Rattle.std.proofs.Common.{inl, inr, refl, ◌∙◌}
use Rattle.nk_policy.specs.Policy.{Policy, Policies, test, range, assign, sum_of, seq_of, not_of, star_of, dup, link, no_part, part}

-- the numbers of a leaf, or which step is taken on the policies made so far
abbrev Step : Type 0
Step = List ℕ ⊎ ℕ

-- a sum of no part; one more part in front of a sum; a sum as a sequence; a complement; an iteration
abbrev mutual
  steps_of : Policy → List Step → List Step
  steps_of (test f n) k = inl (f ∷ n ∷ []) ∷ k
  steps_of (range f low high) k = inl (f ∷ low ∷ high ∷ []) ∷ k
  steps_of (assign f n) k = inl (f ∷ n ∷ 0 ∷ 0 ∷ []) ∷ k
  steps_of (sum_of ps) k = all_steps_of ps k
  steps_of (seq_of ps) k = all_steps_of ps (inr 2 ∷ k)
  steps_of (not_of p) k = steps_of p (inr 3 ∷ k)
  steps_of (star_of p) k = steps_of p (inr 4 ∷ k)
  steps_of (dup l) k = inl (l ∷ []) ∷ k
  steps_of (link a m b n l) k = inl (a ∷ m ∷ b ∷ n ∷ l ∷ []) ∷ k

  all_steps_of : Policies → List Step → List Step
  all_steps_of no_part k = inr 0 ∷ k
  all_steps_of (part p ps) k = steps_of p (all_steps_of ps (inr 1 ∷ k))

-- the policies made after a step
abbrev after : Step → Policies → Policies
after (inl (l ∷ [])) made = part (dup l) made
after (inl (f ∷ n ∷ [])) made = part (test f n) made
after (inl (f ∷ low ∷ high ∷ [])) made = part (range f low high) made
after (inl (f ∷ n ∷ x ∷ y ∷ [])) made = part (assign f n) made
after (inl (a ∷ m ∷ b ∷ n ∷ l ∷ ks)) made = part (link a m b n l) made
after (inr zero) made = part (sum_of no_part) made
after (inr (suc zero)) (part (sum_of ps) (part p made)) = part (sum_of (part p ps)) made
after (inr (suc (suc zero))) (part (sum_of ps) made) = part (seq_of ps) made
after (inr (suc (suc (suc zero)))) (part p made) = part (not_of p) made
after (inr (suc (suc (suc (suc zero))))) (part p made) = part (star_of p) made
after _ made = made

abbrev made_by : List Step → Policies → Policies
made_by [] made = made
made_by (s ∷ ss) made = made_by ss (after s made)

-- the policy made last
abbrev last_made : Policies → Policy
last_made no_part = sum_of no_part
last_made (part p made) = p

mutual
  -- the steps of a policy make it
  makes : (p : Policy) (k : List Step) (made : Policies) → made_by (steps_of p k) made ≡ made_by k (part p made)
  makes (test f n) k made = refl
  makes (range f low high) k made = refl
  makes (assign f n) k made = refl
  makes (sum_of ps) k made = all_make ps k made
  makes (seq_of ps) k made = all_make ps (inr 2 ∷ k) made
  makes (not_of p) k made = makes p (inr 3 ∷ k) made
  makes (star_of p) k made = makes p (inr 4 ∷ k) made
  makes (dup l) k made = refl
  makes (link a m b n l) k made = refl

  -- and those of parts their sum
  all_make : (ps : Policies) (k : List Step) (made : Policies) → made_by (all_steps_of ps k) made ≡ made_by k (part (sum_of ps) made)
  all_make no_part k made = refl
  all_make (part p ps) k made = makes p (all_steps_of ps (inr 1 ∷ k)) made ∙ all_make ps (inr 1 ∷ k) (part p made)

pub policy_decodes : (p : Policy) → last_made (made_by (steps_of p []) no_part) ≡ p
policy_decodes p = by (makes p [] no_part)
  where
    by : made_by (steps_of p []) no_part ≡ part p no_part → last_made (made_by (steps_of p []) no_part) ≡ p
    by e = cc e

abbrev pub coded_policy : Coded Policy
coded_policy = code_by (List Step) (coded_list (coded⊎ (coded_list coded_ℕ) coded_ℕ)) (λ p. steps_of p []) (λ ss. last_made (made_by ss no_part)) policy_decodes
