-- One more part of a list that is rebuilt.
use Rattle.std.proofs.Common.{◌≡◌, ℕ, ◌+◌, ◌<◌, List, [], ◌∷◌, ◌++◌, length, get_or, drop, drop-cons, add-one, ap, sym, ◌∙◌}
use Rattle.std.specs.Prelude.{slice_index}
use Rattle.nk_policy.specs.Policy.{Policies, test}
use Rattle.nk_policy.specs.Tree.{tree_of, trees_of}
use Rattle.nk_policy.specs.declared.policy.Pol.{Pol}
use Rattle.nk_policy.proofs.Trees.{joined}
use Rattle.nk_policy.proofs.Steps.{left_is, one_more}
use Rattle.nk_virtual.specs.Endings.{without_records, all_without_records}
use Rattle.nk_names.specs.ProgramValue.{VirtualLink}
use Rattle.nk_virtual.specs.Physical.{physical, all_physical}
use Rattle.nk_virtual.specs.Questions.{tests_from}

-- the loop's fact, after one more part is replaced
pub replaced_more : (links : List VirtualLink) (xs : List Pol) (i : ℕ) (q y : Pol) (out out' : List Pol) (all : Policies)
    → i < length xs → q ≡ get_or xs i q → out' ≡ out ++ y ∷ []
    → tree_of y ≡ physical links (tree_of q)
    → joined (trees_of out) (all_physical links (trees_of (drop i xs))) ≡ all
    → joined (trees_of out') (all_physical links (trees_of (drop (i + 1) xs))) ≡ all
replaced_more links xs i q y out out' all lt is e f inv =
    one_more out out' y _ (all_physical links (trees_of (drop (i + 1) xs))) e f
    ∙ ap (λ l. joined (trees_of out) (all_physical links (trees_of l))) (sym (left_is xs i q lt is))
    ∙ inv

-- the loop's fact, after the dups of one more part are left out
pub bare_more : (xs : List Pol) (i : ℕ) (q y : Pol) (out out' : List Pol) (all : Policies)
    → i < length xs → q ≡ get_or xs i q → out' ≡ out ++ y ∷ []
    → tree_of y ≡ without_records (tree_of q)
    → joined (trees_of out) (all_without_records (trees_of (drop i xs))) ≡ all
    → joined (trees_of out') (all_without_records (trees_of (drop (i + 1) xs))) ≡ all
bare_more xs i q y out out' all lt is e f inv =
    one_more out out' y _ (all_without_records (trees_of (drop (i + 1) xs))) e f
    ∙ ap (λ l. joined (trees_of out) (all_without_records (trees_of l))) (sym (left_is xs i q lt is))
    ∙ inv

-- what is left of numbers begins with the one at the place
left_numbers : (ms : List ℕ) (i : ℕ) → i < length ms → drop i ms ≡ slice_index ms i ∷ drop (i + 1) ms
left_numbers ms i lt = rw add-one (drop-cons ms i 0 lt)

-- and where a test is made for one more field
pub tests_more : (ms : List ℕ) (x : List ℕ) (i : ℕ) (y : Pol) (out out' : List Pol) (all : Policies)
    → i < length ms → out' ≡ out ++ y ∷ [] → tree_of y ≡ test i (slice_index x i)
    → joined (trees_of out) (tests_from i (drop i ms) x) ≡ all
    → joined (trees_of out') (tests_from (i + 1) (drop (i + 1) ms) x) ≡ all
tests_more ms x i y out out' all lt e f inv =
    one_more out out' y _ (tests_from (i + 1) (drop (i + 1) ms) x) e f
    ∙ ap (λ l. joined (trees_of out) (tests_from i l x)) (sym (left_numbers ms i lt))
    ∙ inv
