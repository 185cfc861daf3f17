-- The policies of a program by their names.
use Rattle.std.proofs.Common.{◌≡◌, ℕ, ◌<◌, Bool, true, false, Some, None, List, [], ◌∷◌, inl, inr, refl, ap, subst, ◌∙◌, arith}
use Rattle.std.specs.Prelude.{if◌then◌else◌, ◌≤◌, min}
use Rattle.std.specs.Str.{bytes_eq}
use Rattle.nk_field.proofs.Lists.{In}
use Rattle.nk_field.proofs.Ascending.{members_from_all}
use Rattle.nk_policy.specs.Policy.{Policy, dups_of, size_of, is_predicate, marked_from}
use Rattle.nk_names.specs.Meant.{policy_among}
use Rattle.nk_names.specs.Named.{policy_named}
use Rattle.nk_names.specs.ProgramValue.{IsProgram, IsLet}
use Rattle.nk_names.specs.Shape.{shape_of}
use Rattle.nk_names.specs.declared.Program.{Program}
use Rattle.nk_names.proofs.Good.{few_dups, dups_marked, size_marked, depth_marked, predicate_marked}

some_is : {A : Type 0} (a b : A) → Some a ≡ Some b → a ≡ b
some_is a b e = cc

none_is_none : {A : Type 0} (a : A) → None ≡ Some a → ⊥
none_is_none a e = cc

-- a named policy is a let's
named_in : (lets : List (List ℕ × Policy)) (name : List ℕ) (p : Policy) → policy_among lets name ≡ Some p
    → (l : List ℕ × Policy) × In lets l × (l.1 ≡ p)
named_in [] name p e = absurd (none_is_none p e)
named_in (l ∷ ls) name p e = by (bytes_eq l.0 name) (λ h. named_in ls name p h) e
  where
    by :
        (b : Bool) → (policy_among ls name ≡ Some p → (k : List ℕ × Policy) × In ls k × (k.1 ≡ p))
        → (if b then Some l.1 else policy_among ls name) ≡ Some p
        → (k : List ℕ × Policy) × In (l ∷ ls) k × (k.1 ≡ p)
    by true h e = (l, inl refl, some_is l.1 p e)
    by false h e = let r = h e in (r.0, inr r.1, r.2)

-- what holds of a program's policies holds of one that a name has
pub let_named : (program : Program) (name : List ℕ) (p : Policy) → IsProgram program.fields program.topo program.lets
    → policy_named program name ≡ Some p → IsLet program.fields p
let_named program name p ok named =
    let l = named_in program.lets name p named in
    subst (IsLet program.fields) l.2 (members_from_all (λ (k : List ℕ × Policy). IsLet program.fields k.1) program.lets ok.policies l.0 l.1)

-- the dups of a policy of this size have numbers
pub dups_fit : (p : Policy) → size_of p ≤ 1048576 → dups_of (marked_from p 1) < 4294967295
dups_fit p h = omega (arith, h, few_dups p, dups_marked p 1)

-- what is known of a policy is known of it numbered
pub shape_marked : (p : Policy) (n : ℕ) → shape_of (marked_from p n) ≡ shape_of p
shape_marked p n =
    ap (λ d. record { depth = min d 18446744073709551615; size = min (size_of (marked_from p n)) 18446744073709551615; predicate = is_predicate (marked_from p n) }) (depth_marked p n)
    ∙ ap (λ s. record { depth = (shape_of p).depth; size = min s 18446744073709551615; predicate = is_predicate (marked_from p n) }) (size_marked p n)
    ∙ ap (λ b. record { depth = (shape_of p).depth; size = (shape_of p).size; predicate = b }) (predicate_marked p n)
