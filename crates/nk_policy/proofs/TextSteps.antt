-- Steps of the text of a policy.
use Rattle.std.proofs.Common.{◌≡◌, ℕ, suc, ◌≤◌, Bool, false, List, [], ◌∷◌, ◌++◌, length, drop, sym, ap, ◌∙◌, append-nil, codes, arith}
use Rattle.std.specs.Prelude.{◌==◌, not, if◌then◌else◌}
use Rattle.std.proofs.lemmas.List.{drop_all}
use Rattle.nk_field.specs.Packet.{FieldTable}
use Rattle.nk_policy.specs.Policy.{sum_of, seq_of}
use Rattle.nk_policy.specs.Text.{has_part, is_sum, is_seq, pol_bytes, sum_bytes, seq_bytes}
use Rattle.nk_policy.specs.Tree.{tree_of, trees_of}
use Rattle.nk_policy.specs.declared.policy.Pol.{Pol}
use Rattle.nk_policy.specs.declared.policy.Pols.{Pols}
use Rattle.nk_policy.specs.declared.policy.Pol.TheViews.{Sum, Seq}
use Rattle.nk_policy.proofs.Trees.{tree_of_sum, tree_of_seq}

-- a number past another isn't 0
not_zero : (n : ℕ) → suc n == 0 ≡ false
not_zero n = grind arith

-- a list of policies has a part unless its length is 0
has_part_is : (xs : List Pol) (b : Bool) → b ≡ (length xs == 0) → not b ≡ has_part (trees_of xs)
has_part_is [] b e = ap not e
has_part_is (x ∷ xs) b e = ap not (e ∙ not_zero (length xs))

-- a sum has a part unless the list of its parts is empty
pub sum_has_part : (p : Pol) (ps : Pols) (xs : List Pol) (b : Bool)
    → p ≡ Sum ps → xs ≡ ps.items.items → b ≡ (length xs == 0) → not b ≡ is_sum (tree_of p)
sum_has_part p ps xs b e f g =
    has_part_is xs b g
    ∙ ap (λ l. has_part (trees_of l)) f
    ∙ sym (ap (λ q. is_sum (tree_of q)) e ∙ ap is_sum (tree_of_sum ps))

-- and so has a sequence
pub seq_has_part : (p : Pol) (ps : Pols) (xs : List Pol) (b : Bool)
    → p ≡ Seq ps → xs ≡ ps.items.items → b ≡ (length xs == 0) → not b ≡ is_seq (tree_of p)
seq_has_part p ps xs b e f g =
    has_part_is xs b g
    ∙ ap (λ l. has_part (trees_of l)) f
    ∙ sym (ap (λ q. is_seq (tree_of q)) e ∙ ap is_seq (tree_of_seq ps))

-- when no part of a sum is left, its text is put out
pub sum_done : (fields : FieldTable) (xs : List Pol) (i : ℕ) (b : Bool) (out old before : List ℕ)
    → length xs ≤ i → b ≡ (length xs == 0) → b ≡ false
    → out ++ sum_bytes fields before (trees_of (drop i xs)) ≡ old ++ sum_bytes fields [] (trees_of xs)
    → out ≡ old ++ pol_bytes fields (sum_of (trees_of xs))
sum_done fields xs i b out old before le is some inv =
    sym (append-nil out)
    ∙ ap (λ l. out ++ sum_bytes fields before (trees_of l)) (sym (drop_all i xs le))
    ∙ inv
    ∙ ap (λ c. old ++ (if c then sum_bytes fields [] (trees_of xs) else codes "drop")) (sym (sym (has_part_is xs b is) ∙ ap not some))

-- and the same of a sequence
pub seq_done : (fields : FieldTable) (xs : List Pol) (i : ℕ) (b : Bool) (out old before : List ℕ)
    → length xs ≤ i → b ≡ (length xs == 0) → b ≡ false
    → out ++ seq_bytes fields before (trees_of (drop i xs)) ≡ old ++ seq_bytes fields [] (trees_of xs)
    → out ≡ old ++ pol_bytes fields (seq_of (trees_of xs))
seq_done fields xs i b out old before le is some inv =
    sym (append-nil out)
    ∙ ap (λ l. out ++ seq_bytes fields before (trees_of l)) (sym (drop_all i xs le))
    ∙ inv
    ∙ ap (λ c. old ++ (if c then seq_bytes fields [] (trees_of xs) else codes "id")) (sym (sym (has_part_is xs b is) ∙ ap not some))
