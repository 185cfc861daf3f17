-- The part that holds a value, by its place.
use Rattle.std.proofs.Common.{◌≡◌, ◌≢◌, ℕ, zero, suc, ◌+◌, ◌-◌, ◌<◌, ◌≤◌, nat_lt, true, List, [], ◌∷◌, length, refl, sym, subst, ◌∙◌, arith, get_or}
use Rattle.std.proofs.lemmas.Bool.Decides.{nat_tests}
use Rattle.std.proofs.lemmas.List.{get_or_default}
use Rattle.std.specs.List.Sorted.{IsNonDecreasingBy}
use Rattle.nk_store.specs.Nodes.{Rises}
use Rattle.nk_apply.specs.Cofactors.{found_in}
use Rattle.nk_apply.proofs.Parts.{found-first, found-rest}

-- each end is at or past the value that the parts begin with
end_above : (high low : ℕ) (ps : List (ℕ × ℕ)) (j : ℕ) (d : ℕ × ℕ) → Rises high low ps → j < length ps →
    low ≤ (get_or ps j d).0
end_above high low [] j d r l = absurd (omega arith)
end_above high low (p ∷ ps) zero d r l = r.0
end_above high low (p ∷ ps) (suc j) d r l = omega (arith, r.0, end_above high (p.0 + 1) ps j d r.2 (omega arith))

-- ends don't fall
pub ends_ordered : (high low : ℕ) (ps : List (ℕ × ℕ)) → Rises high low ps →
    IsNonDecreasingBy (λ (p : ℕ × ℕ). p.0) ps
ends_ordered high low [] r i j d le l = absurd (omega arith)
ends_ordered high low (p ∷ ps) r zero zero d le l = omega arith
ends_ordered high low (p ∷ ps) r (suc i) zero d le l = absurd (omega arith)
ends_ordered high low (p ∷ ps) r zero (suc j) d le l = omega (arith, end_above high (p.0 + 1) ps j d r.2 (omega arith))
ends_ordered high low (p ∷ ps) r (suc i) (suc j) d le l = ends_ordered high (p.0 + 1) ps r.2 i j d (omega arith) (omega arith)

-- some end is not below a value up to the highest
pub place_within : (high low v i : ℕ) (ps : List (ℕ × ℕ)) (d : ℕ × ℕ) → Rises high low ps → low ≤ high → v ≤ high →
    i ≤ length ps → ((k : ℕ) → k < i → (get_or ps k d).0 < v) → i < length ps
place_within high low v zero [] d r a b l h = absurd (omega (arith, r, a))
place_within high low v (suc i) [] d r a b l h = absurd (omega arith)
place_within high low v zero (p ∷ ps) d r a b l h = omega arith
place_within high low v (suc i) (p ∷ ps) d r a b l h =
    omega (arith, place_within high (p.0 + 1) v i ps d r.2 (omega (arith, h 0 (omega arith), b)) b (omega arith) (λ k m. h (suc k) (omega (arith, m))))

-- the part at that place is the one that is found
pub place_found : (v i : ℕ) (ps : List (ℕ × ℕ)) (e d : ℕ × ℕ) → i < length ps →
    ((k : ℕ) → k < i → (get_or ps k d).0 < v) → v ≤ (get_or ps i d).0 → get_or ps i d ≡ found_in e ps v
place_found v i [] e d l h m = absurd (omega arith)
place_found v zero (p ∷ ps) e d l h m = sym (found-first e p ps v m)
place_found v (suc i) (p ∷ ps) e d l h m =
    place_found v i ps p d (omega arith) (λ k n. h (suc k) (omega (arith, n))) m ∙ sym (found-rest e p ps v (h 0 (omega arith)))

-- a part is found where its end is not below the value and the end before it is
pub next_found : (high v i : ℕ) (ps : List (ℕ × ℕ)) (e d : ℕ × ℕ) → Rises high 0 ps → suc i < length ps →
    (get_or ps i d).0 < v → v ≤ (get_or ps (suc i) d).0 → get_or ps (suc i) d ≡ found_in e ps v
next_found high v i ps e d r l b m =
    place_found v (suc i) ps e d l (λ k n. omega (arith, b, ends_ordered high 0 ps r k i d (omega (arith, n)) (omega (arith, l)))) m

-- a part is found where its end is not below the value and a test says that the end before it is
pub found_after : (high v i : ℕ) (ps : List (ℕ × ℕ)) (x y e : ℕ × ℕ) → Rises high 0 ps → i ≢ 0 → i < length ps →
    nat_lt (get_or ps (i - 1) x).0 v ≡ true → v ≤ (get_or ps i y).0 → get_or ps i e ≡ found_in (0, 0) ps v
found_after high v zero ps x y e r n l t u = absurd (n refl)
found_after high v (suc i) ps x y e r n l t u =
    let before : (get_or ps i x).0 < v = grind (arith, nat_tests, t) in
    next_found high v i ps (0, 0) e r l
    (subst (λ (p : ℕ × ℕ). p.0 < v) (get_or_default ps i x e (omega (arith, l))) before)
    (subst (λ (p : ℕ × ℕ). v ≤ p.0) (get_or_default ps (suc i) y e l) u)
