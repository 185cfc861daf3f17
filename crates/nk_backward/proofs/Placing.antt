-- Places with their ranks.
use Rattle.std.proofs.Common.{ℕ, ◌<◌, ◌+◌, inl, inr, sym, subst, arith, List, [], ◌∷◌, ◌++◌, Contains}
use Rattle.std.specs.List.Sorted.{IsPermutation}
use Rattle.std.proofs.lemmas.Bool.Decides.{eqb_tells}
use Rattle.std.proofs.lemmas.List.Elements.{Contains-append_left, Contains-push, Contains-push_cases}
use Rattle.std.proofs.lemmas.List.Sorted.{Contains-permutation, IsPermutation-sym}
use Rattle.nk_backward.specs.Places.{AreAllPlaces}

-- no place
pub all_none : AreAllPlaces 0 []
all_none = record {
  within = λ p c. let l = c.1 in absurd (omega (arith, l));
  every = λ k l. absurd (omega (arith, l));
}

-- a place more
pub all_push : (n : ℕ) (ps : List ((ℕ × ℕ) × ℕ)) (r : ℕ × ℕ) → AreAllPlaces n ps → AreAllPlaces (n + 1) (ps ++ (r, n) ∷ [])
all_push n ps r was = record {
  within = λ p c. elim (Contains-push_cases ps (r, n) p c) [
    | inl old ↦ let l = was.within p old in omega (arith, l)
    | inr here ↦ subst (λ (q : (ℕ × ℕ) × ℕ). q.1 < n + 1) here (omega arith)
  ];
  every = λ k l. elim (eqb_tells k n) [
    | inl same ↦ (r, subst (λ j. Contains (ps ++ (r, n) ∷ []) (r, j)) (sym same.1) (Contains-push ps (r, n)))
    | inr other ↦ let w = was.every k (omega (arith, l, other.1)) in (w.0, Contains-append_left ps ((r, n) ∷ []) (w.0, k) w.1)
  ];
}

-- in another order
pub all_moved : (n : ℕ) (ps order : List ((ℕ × ℕ) × ℕ)) → IsPermutation ps order → AreAllPlaces n ps → AreAllPlaces n order
all_moved n ps order moved was = record {
  within = λ p c. was.within p (Contains-permutation order ps p (IsPermutation-sym ps order moved) c);
  every = λ k l. let w = was.every k l in (w.0, Contains-permutation ps order (w.0, k) moved w.1);
}
