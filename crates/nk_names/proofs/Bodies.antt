-- The policy of a body, by the bodies of its parts as a list, and that of a name in a body.
use Rattle.std.proofs.Common.{◌≡◌, ℕ, List, [], ◌∷◌, ◌++◌, refl, ap, sym, ◌∙◌}
use Rattle.nk_policy.specs.Policy.{Policies, sum_of, seq_of, part, dups_of, dups_of_all, marked_from}
use Rattle.nk_policy.proofs.Trees.{joined}
use Rattle.nk_names.specs.Body.{policy_in, policies_in_row, policies_in, policy_of}
use Rattle.nk_names.specs.declared.body.Body.{Body, Row_of-Body, end_of-Body, more_of-Body, items-the_row-Body, items_hidden-the_row-Body-0}
use Rattle.nk_names.specs.declared.body.Body.TheViews.{Name, Sum, Seq}
use Rattle.nk_names.specs.declared.body.Body.TheBlock.{hidden-the_row-Body-0}
use Rattle.nk_names.specs.declared.body.Bodies.{Bodies}
use Rattle.nk_names.specs.declared.body.Shared.{Shared}
use Rattle.nk_names.proofs.Good.{dups_marked, marked_again}

-- the policies of a row are those of its list
row_policies : {m : _} → (k : Row_of-Body m) → policies_in_row k ≡ policies_in (items-the_row-Body m k)
row_policies end_of-Body = refl
row_policies (more_of-Body b bs) = ap (part (policy_in b)) (row_policies bs)

-- the policy of a sum is the sum of the policies of its parts
pub policy_in_sum : (bs : Bodies) → policy_in (Sum bs) ≡ sum_of (policies_in bs.items.items)
policy_in_sum bs = ap sum_of (row_policies (hidden-the_row-Body-0 bs.items) ∙ ap policies_in (items_hidden-the_row-Body-0 bs.items))

-- and that of a sequence the sequence
pub policy_in_seq : (bs : Bodies) → policy_in (Seq bs) ≡ seq_of (policies_in bs.items.items)
policy_in_seq bs = ap seq_of (row_policies (hidden-the_row-Body-0 bs.items) ∙ ap policies_in (items_hidden-the_row-Body-0 bs.items))

-- a name stands for its policy
pub policy_in_name : (s : Shared) → policy_in (Name s) ≡ policy_of s
policy_in_name s = refl

-- numbered from anywhere, a name's policy is its body's
pub name_marked : (s : Shared) (n : ℕ) → marked_from (policy_in (Name s)) n ≡ marked_from (policy_in s.body.value) n
name_marked s n = ap (λ p. marked_from p n) (policy_in_name s) ∙ marked_again (policy_in s.body.value) 1 n

-- and has the dups of its body
pub name_dups : (s : Shared) → dups_of (policy_in (Name s)) ≡ dups_of (policy_in s.body.value)
name_dups s = ap dups_of (policy_in_name s) ∙ dups_marked (policy_in s.body.value) 1

-- one more body at the end of the list stands at the head of what follows
pub in_push : (xs : List Body) (y : Body) (qs : Policies)
    → joined (policies_in (xs ++ y ∷ [])) qs ≡ joined (policies_in xs) (part (policy_in y) qs)
in_push [] y qs = refl
in_push (x ∷ xs) y qs = ap (part (policy_in x)) (in_push xs y qs)

-- the dups of a sum are those of its parts
pub dups_in_sum : (b : Body) (bs : Bodies) (xs : List Body) → b ≡ Sum bs → xs ≡ bs.items.items
    → dups_of (policy_in b) ≡ dups_of_all (policies_in xs)
dups_in_sum b bs xs e f = ap (λ c. dups_of (policy_in c)) e ∙ ap dups_of (policy_in_sum bs) ∙ ap (λ l. dups_of_all (policies_in l)) (sym f)

-- and those of a sequence
pub dups_in_seq : (b : Body) (bs : Bodies) (xs : List Body) → b ≡ Seq bs → xs ≡ bs.items.items
    → dups_of (policy_in b) ≡ dups_of_all (policies_in xs)
dups_in_seq b bs xs e f = ap (λ c. dups_of (policy_in c)) e ∙ ap dups_of (policy_in_seq bs) ∙ ap (λ l. dups_of_all (policies_in l)) (sym f)

-- and those of a name are its body's
pub dups_in_name : (b : Body) (s : Shared) (q : Body) → b ≡ Name s → q ≡ s.body.value
    → dups_of (policy_in b) ≡ dups_of (policy_in q)
dups_in_name b s q e f = ap (λ c. dups_of (policy_in c)) e ∙ name_dups s ∙ ap (λ c. dups_of (policy_in c)) (sym f)
