-- The entries of all levels in one list.
use Rattle.std.proofs.Common.{◌≡◌, ℕ, zero, suc, ◌<◌, ◌⊎◌, inl, inr, refl, arith, List, [], ◌∷◌, length, get_or}
use Rattle.std.proofs.lemmas.Bool.Decides.{eqb_tells}
use Rattle.nk_store.specs.StoreState.{StoreState}
use Rattle.nk_sets.specs.PacketSets.{is_in}
use Rattle.nk_determ.specs.Pairs.{Under, EachPair}
use Rattle.nk_goal.proofs.Growing.{has_or_not}
use Rattle.nk_goal.proofs.Adding.{under_left, under_right, each_append}
use Rattle.nk_backward.specs.Transitions.{explored_entries}

-- what stands under a set on a level is one of the entries
pub under_entries : (st : StoreState) (ls : List (List (ℕ × ℕ))) (j i : ℕ) (z : List ℕ) → j < length ls → Under st (get_or ls j []) i z → Under st (explored_entries ls) i z
under_entries st [] j i z l u = absurd (omega (arith, l))
under_entries st (x ∷ xs) zero i z l u = under_left st x (explored_entries xs) i z u
under_entries st (x ∷ xs) (suc j) i z l u = under_right st x (explored_entries xs) i z (under_entries st xs j i z (omega (arith, l)) u)

-- what holds of each entry of each level holds of all entries
pub each_entry : (P : ℕ × ℕ → Type 0) (ls : List (List (ℕ × ℕ))) → ((j : ℕ) → j < length ls → EachPair P (get_or ls j [])) → EachPair P (explored_entries ls)
each_entry P [] f = tt
each_entry P (x ∷ xs) f = each_append P x (explored_entries xs) (f zero (omega arith)) (each_entry P xs (λ j l. f (suc j) (omega (arith, l))))

-- whether a packet stands under a set
pub under_or_not : (st : StoreState) (ps : List (ℕ × ℕ)) (i : ℕ) (z : List ℕ) → Under st ps i z ⊎ (Under st ps i z → ⊥)
under_or_not st [] i z = inr (λ u. u)
under_or_not st (p ∷ ps) i z = elim (under_or_not st ps i z) [
  | inl later ↦ inl (inr later)
  | inr none ↦ elim (eqb_tells p.0 i) [
    | inr other ↦ inr (λ u. elim u [ inl here ↦ other.1 here.0 | inr later ↦ none later ])
    | inl same ↦ elim (has_or_not (is_in st p.1 z)) [
      | inl has ↦ inl (inl (same.1, has))
      | inr not ↦ inr (λ u. elim u [ inl here ↦ not here.1 | inr later ↦ none later ])
    ]
  ]
]

-- a list of no length
pub empty_list : (ps : List (ℕ × ℕ)) → length ps ≡ 0 → ps ≡ []
empty_list [] e = refl
empty_list (p ∷ ps) e = absurd (omega (arith, e))
