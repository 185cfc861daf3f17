-- Two ascending lists as one.
use Rattle.std.proofs.Common.{◌≡◌, ℕ, ◌≤◌, List, [], ◌∷◌, ◌++◌, drop, length, refl, sym, ◌∙◌, ap, ◌⊎◌, inl, inr}
use Rattle.std.proofs.lemmas.List.{drop_all, append-nil}
use Rattle.nk_store.specs.declared.node.Out.{Out}
use Rattle.nk_apply.specs.Leaves.{merged}

-- nothing merged to a list leaves it
pub merged-nil : (xs : List Out) → merged xs [] ≡ xs
merged-nil [] = refl
merged-nil (x ∷ xs) = refl

-- once one list is used up, what is left of both is merged by putting it at the end
pub rests : (a b : List Out) (i k : ℕ) → (length a ≤ i) ⊎ (length b ≤ k) →
    drop i a ++ drop k b ≡ merged (drop i a) (drop k b)
rests a b i k (inl h) = let e = drop_all i a h in ap (λ xs. xs ++ drop k b) e ∙ ap (λ xs. merged xs (drop k b)) (sym e)
rests a b i k (inr h) =
    let e = drop_all k b h in
    ap (λ ys. drop i a ++ ys) e ∙ append-nil (drop i a) ∙ sym (merged-nil (drop i a)) ∙ ap (λ ys. merged (drop i a) ys) (sym e)
