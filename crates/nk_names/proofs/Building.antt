-- One more part of a body that is made, and one more part of a policy that is written out.
use Rattle.std.proofs.Common.{◌≡◌, ℕ, ◌+◌, ◌<◌, List, [], ◌∷◌, ◌++◌, length, get_or, drop, ap, sym, ◌∙◌, arith}
use Rattle.nk_field.specs.Packet.{FieldTable}
use Rattle.nk_policy.specs.Policy.{Policies, part, dups_of, dups_of_all, marked_from, all_marked_from}
use Rattle.nk_policy.specs.Tree.{tree_of, trees_of}
use Rattle.nk_policy.specs.declared.policy.Pol.{Pol}
use Rattle.nk_policy.proofs.Trees.{joined}
use Rattle.nk_policy.proofs.Steps.{one_more}
use Rattle.nk_grammar.specs.Tree.{tree_of as written_of, trees_of as all_written_of}
use Rattle.nk_grammar.specs.declared.ast.Ast.{Ast}
use Rattle.nk_names.specs.Body.{policy_in, policies_in}
use Rattle.nk_names.specs.declared.body.Body.{Body}
use Rattle.nk_names.specs.Meant.{Lets, policy_for, policies_for}
use Rattle.nk_names.proofs.Bodies.{in_push}
use Rattle.nk_declare.proofs.Places.{rest_is}

module _ (fields : FieldTable) (lets : Lets) where
  -- the policies of a list of trees
  abbrev pub meant : List Ast → Policies
  meant xs = policies_for fields lets (all_written_of xs)

  -- the loop's fact, after one more body is made
  pub built_more : (xs : List Ast) (i : ℕ) (q : Ast) (y : Body) (out out' : List Body) (all : Policies)
      → i < length xs → q ≡ get_or xs i q → out' ≡ out ++ y ∷ [] → policy_in y ≡ policy_for fields lets (written_of q)
      → joined (policies_in out) (meant (drop i xs)) ≡ all
      → joined (policies_in out') (meant (drop (i + 1) xs)) ≡ all
  built_more xs i q y out out' all lt is e f inv =
      let rest = meant (drop (i + 1) xs) in
      ap (λ o. joined (policies_in o) rest) e
      ∙ in_push out y rest
      ∙ ap (λ p. joined (policies_in out) (part p rest)) f
      ∙ ap (λ l. joined (policies_in out) (meant l)) (sym (rest_is xs i q q lt is))
      ∙ inv

-- the loop's fact, after one more part is written out
pub written_more : (xs : List Body) (i : ℕ) (q : Body) (y : Pol) (out out' : List Pol) (n n' first : ℕ)
    → i < length xs → q ≡ get_or xs i q → out' ≡ out ++ y ∷ []
    → tree_of y ≡ marked_from (policy_in q) (n + 1)
    → n' ≡ n + dups_of (policy_in q)
    → (joined (trees_of out) (all_marked_from (policies_in (drop i xs)) (n + 1)) ≡ all_marked_from (policies_in xs) (first + 1))
    × (n + dups_of_all (policies_in (drop i xs)) ≡ first + dups_of_all (policies_in xs))
    → (joined (trees_of out') (all_marked_from (policies_in (drop (i + 1) xs)) (n' + 1)) ≡ all_marked_from (policies_in xs) (first + 1))
    × (n' + dups_of_all (policies_in (drop (i + 1) xs)) ≡ first + dups_of_all (policies_in xs))
written_more xs i q y out out' n n' first lt is e f g inv =
    let left = rest_is xs i q q lt is in
    let rest = policies_in (drop (i + 1) xs) in
    let p = policy_in q in
    let next : n' + 1 ≡ (n + 1) + dups_of p = omega (arith, g) in (
      one_more out out' y _ (all_marked_from rest (n' + 1)) e f
          ∙ ap (λ m. joined (trees_of out) (part (marked_from p (n + 1)) (all_marked_from rest m))) next
          ∙ ap (λ l. joined (trees_of out) (all_marked_from (policies_in l) (n + 1))) (sym left)
          ∙ inv.0,
      omega (arith, g, ap (λ l. dups_of_all (policies_in l)) left, inv.1),
    )
