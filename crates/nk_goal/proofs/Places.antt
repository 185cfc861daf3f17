-- Entries of levels by place.
use Rattle.std.proofs.Common.{◌≡◌, ℕ, suc, zero, ◌<◌, inl, inr, sym, ap, subst, arith, List, [], ◌∷◌, length, get_or}
use Rattle.nk_store.specs.StoreState.{StoreState}
use Rattle.nk_determ.specs.Pairs.{Under, EachPair}
use Rattle.nk_sets.proofs.Kept.{Has}

-- an entry by its place
pub each_at : (P : ℕ × ℕ → Type 0) (ps : List (ℕ × ℕ)) (k : ℕ) (p : ℕ × ℕ) → EachPair P ps → k < length ps → p ≡ get_or ps k p → P p
each_at P [] k p e l is = absurd (omega (arith, l))
each_at P (q ∷ qs) zero p e l is = subst P (sym is) e.0
each_at P (q ∷ qs) (suc k) p e l is = each_at P qs k p e.1 (omega (arith, l)) is

-- an entry's packets stand under its set
pub under_at : (st : StoreState) (ps : List (ℕ × ℕ)) (k : ℕ) (p : ℕ × ℕ) (x : List ℕ) → k < length ps → p ≡ get_or ps k p → Has st p.1 x → Under st ps p.0 x
under_at st [] k p x l is h = absurd (omega (arith, l))
under_at st (q ∷ qs) zero p x l is h = inl (ap (λ (r : ℕ × ℕ). r.0) (sym is), subst (λ (r : ℕ × ℕ). Has st r.1 x) is h)
under_at st (q ∷ qs) (suc k) p x l is h = inr (under_at st qs k p x (omega (arith, l)) is h)

-- a packet under a set stands in an entry
pub entry_of : (st : StoreState) (ps : List (ℕ × ℕ)) (i : ℕ) (x : List ℕ) → Under st ps i x → (k : ℕ) × (k < length ps) × ((d : ℕ × ℕ) → (get_or ps k d).0 ≡ i) × ((d : ℕ × ℕ) → Has st (get_or ps k d).1 x)
entry_of st [] i x u = absurd u
entry_of st (q ∷ qs) i x u = elim u [
  | inl here ↦ (zero, omega arith, λ d. here.0, λ d. here.1)
  | inr later ↦ let w = entry_of st qs i x later in (suc w.0, omega (arith, w.1), w.2, w.3)
]
