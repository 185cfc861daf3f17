-- One more part of a list that is rebuilt.
use Rattle.std.proofs.Common.{◌≡◌, ℕ, ◌+◌, ◌<◌, List, [], ◌∷◌, ◌++◌, length, get_or, drop, suc, drop-cons, add-one, ap, sym, subst, ◌∙◌, arith}
use Rattle.nk_policy.specs.Policy.{Policy, Policies, part, dups_of, dups_of_all, marked_from, all_marked_from, without_links, all_without_links, AllMarksBelow}
use Rattle.nk_policy.specs.Tree.{tree_of, trees_of}
use Rattle.nk_policy.specs.declared.policy.Pol.{Pol}
use Rattle.nk_policy.proofs.Trees.{joined, joined_push}

-- the parts from an index on begin with the part at the index
pub left_is : (xs : List Pol) (i : ℕ) (q : Pol) → i < length xs → q ≡ get_or xs i q
    → drop i xs ≡ q ∷ drop (i + 1) xs
left_is xs i q lt is = rw add-one (drop-cons xs i q lt ∙ ap (λ x. x ∷ drop (suc i) xs) (sym is))

-- the parts that were made, one more, and the rest
pub one_more : (out out' : List Pol) (y : Pol) (t : Policy) (rest : Policies) → out' ≡ out ++ y ∷ []
    → tree_of y ≡ t → joined (trees_of out') rest ≡ joined (trees_of out) (part t rest)
one_more out out' y t rest e f =
    ap (λ o. joined (trees_of o) rest) e ∙ joined_push out y rest ∙ ap (λ u. joined (trees_of out) (part u rest)) f

-- the loop's fact, after one more part is numbered
pub marked_more : (xs : List Pol) (i : ℕ) (q y : Pol) (out out' : List Pol) (n n' first : ℕ)
    → i < length xs → q ≡ get_or xs i q → out' ≡ out ++ y ∷ []
    → tree_of y ≡ marked_from (tree_of q) n → n' ≡ n + dups_of (tree_of q)
    → (joined (trees_of out) (all_marked_from (trees_of (drop i xs)) n) ≡ all_marked_from (trees_of xs) first) × (n + dups_of_all (trees_of (drop i xs)) ≡ first + dups_of_all (trees_of xs))
    → (joined (trees_of out') (all_marked_from (trees_of (drop (i + 1) xs)) n') ≡ all_marked_from (trees_of xs) first) × (n' + dups_of_all (trees_of (drop (i + 1) xs)) ≡ first + dups_of_all (trees_of xs))
marked_more xs i q y out out' n n' first lt is e f g inv =
    let left = left_is xs i q lt is in
    let rest = trees_of (drop (i + 1) xs) in (
      one_more out out' y _ (all_marked_from rest n') e f
          ∙ ap (λ m. joined (trees_of out) (part (marked_from (tree_of q) n) (all_marked_from rest m))) g
          ∙ ap (λ l. joined (trees_of out) (all_marked_from (trees_of l) n)) (sym left)
          ∙ inv.0,
      omega (arith, g, ap (λ l. dups_of_all (trees_of l)) left, inv.1),
    )

-- the loop's fact, after one more part is expanded
pub expanded_more : (xs : List Pol) (i : ℕ) (q y : Pol) (out out' : List Pol) (all : Policies) (most : ℕ)
    → i < length xs → q ≡ get_or xs i q → out' ≡ out ++ y ∷ []
    → tree_of y ≡ without_links (tree_of q)
    → (joined (trees_of out) (all_without_links (trees_of (drop i xs))) ≡ all) × AllMarksBelow (trees_of (drop i xs)) most
    → (joined (trees_of out') (all_without_links (trees_of (drop (i + 1) xs))) ≡ all) × AllMarksBelow (trees_of (drop (i + 1) xs)) most
expanded_more xs i q y out out' all most lt is e f inv =
    let left = left_is xs i q lt is in
    let rest = trees_of (drop (i + 1) xs) in
    let below : AllMarksBelow (trees_of (q ∷ drop (i + 1) xs)) most = subst (λ l. AllMarksBelow (trees_of l) most) left inv.1 in (
      one_more out out' y _ (all_without_links rest) e f
          ∙ ap (λ l. joined (trees_of out) (all_without_links (trees_of l))) (sym left)
          ∙ inv.0,
      below.1,
    )

-- the loop's fact, after one more part is copied
pub copied_more : (xs : List Pol) (i : ℕ) (q y : Pol) (out out' : List Pol) (all : Policies)
    → i < length xs → q ≡ get_or xs i q → out' ≡ out ++ y ∷ [] → tree_of y ≡ tree_of q
    → joined (trees_of out) (trees_of (drop i xs)) ≡ all
    → joined (trees_of out') (trees_of (drop (i + 1) xs)) ≡ all
copied_more xs i q y out out' all lt is e f inv =
    one_more out out' y _ (trees_of (drop (i + 1) xs)) e f
    ∙ ap (λ l. joined (trees_of out) (trees_of l)) (sym (left_is xs i q lt is))
    ∙ inv
