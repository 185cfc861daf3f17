-- Things that differ, all in one list, are no more than it has.
use Rattle.std.proofs.Common.{◌≡◌, ◌≤◌, ◌+◌, inl, inr, refl, sym, ◌∙◌, subst, arith, List, [], ◌∷◌, length}
use Rattle.nk_apply.proofs.Members.{Has as Among}

-- no item stands twice
abbrev pub NoDup : {A : Type 0} → List A → Type 0
NoDup [] = Unit {0}
NoDup (x ∷ xs) = (Among xs x → ⊥) × NoDup xs

-- the list without one of its items
pub without : {A : Type 0} (ys : List A) (x : A) → Among ys x → (zs : List A) × (length ys ≡ length zs + 1) × ((z : A) → Among ys z → (z ≡ x → ⊥) → Among zs z)
without [] x h = absurd h
without {A} (y ∷ ys) x h = elim h [
  | inl same ↦ (ys, omega arith, λ z m ne. elim m [ inl e ↦ absurd (ne (sym e ∙ same)) | inr k ↦ k ])
  | inr later ↦
      let w = without ys x later in
      (y ∷ w.0, omega (arith, w.1), λ z m ne. elim m [ inl e ↦ inl e | inr k ↦ inr (w.2 z k ne) ])
]

-- things that differ, all in a list, are no more than it has
pub at_most : {A : Type 0} (xs ys : List A) → NoDup xs → ((x : A) → Among xs x → Among ys x) → length xs ≤ length ys
at_most [] ys d all = omega arith
at_most {A} (x ∷ xs) ys d all =
    let w = without ys x (all x (inl refl)) in
    let fewer : length xs ≤ length w.0 = at_most xs w.0 d.1 (λ z m. w.2 z (all z (inr m)) (λ e. d.0 (subst (λ q. Among xs q) e m))) in
    omega (arith, fewer, w.1)
