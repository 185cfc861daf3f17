-- The question of named policies: what holds of it, and what is made of it.
use Rattle.std.proofs.Common.{◌≡◌, ◌&&◌, ℕ, ◌-◌, ◌^◌, ◌≤◌, true, List, Some, Ok, Err, sym, subst, arith}
use Rattle.std.specs.Prelude.{Result, IfOk}
use Rattle.nk_field.specs.Packet.{FieldTable}
use Rattle.nk_policy.specs.Policy.{Policy, is_predicate, size_of, marked_from, MarksBelow}
use Rattle.nk_policy.specs.Ranges.{IsOverFields}
use Rattle.nk_policy.specs.Tree.{tree_of}
use Rattle.nk_policy.specs.declared.policy.Pol.{Pol}
use Rattle.nk_policy.proofs.Tests.{both_true}
use Rattle.nk_deriv.proofs.Loops.{numbered_marks}
use Rattle.nk_names.specs.Complements.{NegatesPredicates}
use Rattle.nk_names.specs.declared.Program.{Program}
use Rattle.nk_names.specs.Named.{policy_named}
use Rattle.nk_names.specs.ProgramValue.{IsProgram, IsLet}
use Rattle.nk_names.proofs.Good.{few_dups, dups_marked, marked_again, over_marked, negates_marked}
use Rattle.nk_cert.proofs.Named.{let_named}
use Rattle.nk_query.specs.Asked.{Asked, apart, waypoint, Question, apart_of, waypoint_of, NamesQuestion, rest_are_predicates, question_policy}
use Rattle.nk_query.specs.Answers.{CanBeAsked, asked_policy, MakesQuestion, IsQuestion, IsFitFor}
use Rattle.nk_query.specs.declared.error.QueryError.{QueryError}
use Rattle.nk_query.specs.declared.error.QueryError.TheVariants.{NoMemory, NoPolicy, NotAPredicate, TooLarge}
use Rattle.nk_query.proofs.Staying.{avoiding_uses, avoiding_negates}

-- a policy that is fit in each respect but its numbers, numbered from 1
fit_once_numbered : (fields : FieldTable) (q : Policy) → size_of q ≤ 1048576 → IsOverFields fields q → NegatesPredicates q → IsFitFor fields (marked_from q 1)
fit_once_numbered fields q small over complements = record {
  numbered = marked_again q 1 1;
  few = let a = few_dups q in let b = dups_marked q 1 in omega (arith, a, b, small);
  over = over_marked fields q 1 over;
  complements = negates_marked q 1 complements;
}

-- the question of `apart` about policies of a program
apart_fit : (fields : FieldTable) (p from target : Policy) → IsLet fields p → IsLet fields from → IsLet fields target
    → CanBeAsked (apart_of p from target) → IsFitFor fields (asked_policy (apart_of p from target))
apart_fit fields p from target k a b can =
    fit_once_numbered fields (question_policy (apart_of p from target)) can.small (a.over, (k.over, (b.over, tt))) (a.complements, (k.complements, (b.complements, tt)))

-- that of `waypoint`
waypoint_fit : (fields : FieldTable) (p from middle target : Policy) → IsLet fields p → IsLet fields from → IsLet fields middle → IsLet fields target
    → is_predicate middle ≡ true
    → CanBeAsked (waypoint_of p from middle target) → IsFitFor fields (asked_policy (waypoint_of p from middle target))
waypoint_fit fields p from middle target k a m b is can =
    fit_once_numbered fields (question_policy (waypoint_of p from middle target)) can.small
    (a.over, (m.over, (avoiding_uses middle _ m.over p k.over, (m.over, (b.over, tt)))))
    (a.complements, ((is, m.complements), (avoiding_negates middle is m.complements p k.complements, ((is, m.complements), (b.complements, tt)))))

-- the middle one of those that have to be predicates is one
middle_is : (p from middle target : Policy) → rest_are_predicates (waypoint_of p from middle target) ≡ true → is_predicate middle ≡ true
middle_is p from middle target h =
    (both_true (is_predicate from) (is_predicate middle) (both_true (is_predicate from && is_predicate middle) (is_predicate target) h).0).1

-- the question of named policies can be compared
pub named_fit : (program : Program) (asked : Asked) (x : Question) → IsProgram program.fields program.topo program.lets
    → NamesQuestion program asked x → CanBeAsked x → IsFitFor program.fields (asked_policy x)
named_fit program (apart name from target) (apart_of p a b) ok n can =
    apart_fit program.fields p a b (let_named program name p ok n.0) (let_named program from a ok n.1) (let_named program target b ok n.2) can
named_fit program (waypoint name from middle target) (waypoint_of p a m b) ok n can =
    waypoint_fit program.fields p a m b (let_named program name p ok n.0) (let_named program from a ok n.1) (let_named program middle m ok n.2) (let_named program target b ok n.3)
    (middle_is p a m b can.predicates) can
named_fit program (apart name from target) (waypoint_of p a m b) ok n can = absurd n
named_fit program (waypoint name from middle target) (apart_of p a b) ok n can = absurd n

-- what is made of the question of named policies is made of the query
pub named_made : (program : Program) (asked : Asked) (x : Question) → NamesQuestion program asked x
    → (r : Result Pol QueryError) → MakesQuestion x r → IsQuestion program asked r
named_made program asked x n (Ok q) m = (x, record { names = n; can = m.0 }, m.1)
named_made program asked x n (Err NoMemory) m = tt
named_made program asked x n (Err NoPolicy) m = absurd m
named_made program asked x n (Err NotAPredicate) m = (x, n, m)
named_made program asked x n (Err TooLarge) m = (x, n, m)

-- and it can be compared
pub made_fit : (program : Program) (asked : Asked) (x : Question) → IsProgram program.fields program.topo program.lets → NamesQuestion program asked x
    → (r : Result Pol QueryError) → MakesQuestion x r → IfOk r (λ q. IsFitFor program.fields (tree_of q))
made_fit program asked x ok n (Ok q) m = subst (λ t. IsFitFor program.fields t) (sym m.1) (named_fit program asked x ok n m.0)
made_fit program asked x ok n (Err e) m = tt

-- a named policy's dups are numbered from 1
pub named_numbered : (program : Program) (name : List ℕ) (p : Policy) → IsProgram program.fields program.topo program.lets
    → policy_named program name ≡ Some p → marked_from p 1 ≡ p
named_numbered program name p ok is = (let_named program name p ok is).numbered

-- a named policy's link marks leave room
pub named_marks : (program : Program) (name : List ℕ) (p : Policy) → IsProgram program.fields program.topo program.lets
    → policy_named program name ≡ Some p → MarksBelow p (2 ^ 32 - 1)
named_marks program name p ok is =
    let k = let_named program name p ok is in
    let a = few_dups p in
    let b = k.small in
    numbered_marks p 1 (omega (arith, a, b)) k.numbered
