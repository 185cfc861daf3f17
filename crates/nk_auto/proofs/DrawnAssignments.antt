-- Assignments that were drawn, each with its diagram, and sequences that end with one.
use Rattle.std.proofs.Common.{◌≡◌, ℕ, ◌<◌, ⊎_elim, List, [], ◌∷◌, ◌++◌, length, get_or, drop, refl, sym, ap, subst, ◌∙◌, arith}
use Rattle.std.proofs.lemmas.List.{drop_all}
use Rattle.std.proofs.lemmas.List.Elements.{Contains-push_cases}
use Rattle.nk_policy.specs.Policy.{Policy, assign, seq_of, no_part, part}
use Rattle.nk_policy.specs.Meaning.{Gives}
use Rattle.nk_policy.specs.Tree.{tree_of, trees_of}
use Rattle.nk_policy.specs.declared.policy.Pol.{Pol}
use Rattle.nk_policy.proofs.Steps.{left_is}
use Rattle.nk_store.specs.StoreState.{StoreState, Grows}
use Rattle.nk_auto.specs.Continued.{IsSilent}
use Rattle.nk_auto.specs.ByValue.{AreAssignments}
use Rattle.nk_auto.proofs.ByValue.{Arm}
use Rattle.nk_auto.proofs.Silences.{silent_grow}
use Rattle.nk_auto.proofs.Ways.{gives_cons, cons_gives}

-- what stands after the first part of two
pub one_after : (ps : List Pol) (q : Pol) → length ps ≡ 2 → q ≡ get_or ps 1 q → trees_of (drop 1 ps) ≡ part (tree_of q) no_part
one_after ps q two is =
    ap trees_of (left_is ps 1 q (omega (arith, two)) is ∙ ap (λ xs. q ∷ xs) (drop_all 2 ps (omega (arith, two))))

-- a sequence of one part is that part
pub alone_silent : (st : StoreState) (d : ℕ) (p : Policy) → IsSilent st d p → IsSilent st d (seq_of (part p no_part))
alone_silent st d p a = record {
  id = a.id;
  ends = a.ends;
  sends = λ fit pk y t r.
      let both = a.sends (fit.0.0, fit.1.0) pk y t r in (
        λ s. let k = both.0 s in (k.0, cons_gives p no_part pk y y k.1 (refl, refl)),
        λ s.
            let k = gives_cons p no_part pk y s.1 in
            both.1 (s.0, subst (λ z. Gives p pk [] z) (sym k.2.1) k.1),
      );
}

-- diagrams of assignments stay so in a store that grew
pub assignments_grow : (old new : StoreState) (xs : List Arm) → Grows old new → AreAssignments old xs → AreAssignments new xs
assignments_grow old new xs g a = λ x c. silent_grow old new x.1 (assign x.0.0 x.0.1) g (a x c)

-- one more
pub assignments_more : (st : StoreState) (set : ℕ × ℕ) (d : ℕ) (xs more : List Arm) → more ≡ xs ++ (set, d) ∷ [] → AreAssignments st xs →
    IsSilent st d (assign set.0 set.1) → AreAssignments st more
assignments_more st set d xs more pushed a one =
    subst (AreAssignments st) (sym pushed)
    (λ x c. ⊎_elim (λ k. a x k) (λ e. subst (λ (u : Arm). IsSilent st u.1 (assign u.0.0 u.0.1)) e one) (Contains-push_cases xs (set, d) x c))

-- the one at a place, where it is for this field and value
pub assignment_there : (st : StoreState) (xs : List Arm) (x : Arm) (i f n : ℕ) → i < length xs → x ≡ get_or xs i x → x.0.0 ≡ f → x.0.1 ≡ n →
    AreAssignments st xs → IsSilent st x.1 (assign f n)
assignment_there st xs x i f n l is e g a =
    subst (λ m. IsSilent st x.1 (assign f m)) g (subst (λ h. IsSilent st x.1 (assign h x.0.1)) e (a x (i, l, sym is)))
