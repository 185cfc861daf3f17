-- From the answer for a policy to that for its name.
use Rattle.std.proofs.Common.{◌≡◌, ℕ, zero, suc, ◌+◌, ◌<◌, ◌≤◌, List, [], ◌∷◌, get_or, arith, Some}
use Rattle.std.specs.Prelude.{Result, Ok, Err, IfOk, IfErr, All}
use Rattle.nk_names.proofs.Named.{let_named}
use Rattle.nk_names.proofs.WellFormed.{let_well_formed}
use Rattle.nk_policy.specs.Policy.{Policy}
use Rattle.nk_policy.proofs.Numbering.{numbered_distinct}
use Rattle.nk_names.specs.declared.Program.{Program}
use Rattle.nk_names.specs.Named.{policy_named}
use Rattle.nk_names.specs.ProgramValue.{IsProgram}
use Rattle.nk_names.specs.WellFormed.{IsWellFormed}
use Rattle.nk_names.specs.Accepted.{IsAccepted}
use Rattle.nk_compile.specs.Refusals.{IsRefused, IsReason}
use Rattle.nk_compile.specs.Answers.{IsMade, IsError}
use Rattle.nk_compile.specs.Counted.{HasTagSets, IsCountedPolicyAnswer}
use Rattle.nk_compile.specs.declared.counted.Counted.{Counted}
use Rattle.nk_compile.specs.declared.refusal.Refusal.{Refusal}
use Rattle.nk_compile.specs.declared.refusal.Refusal.TheVariants.{NoPolicy}
use Rattle.nk_compile.specs.declared.refusal.CompileError.{CompileError}
use Rattle.nk_compile.proofs.CompileErrors.{static_refusal_named}
use Rattle.nk_compile.proofs.Printed.{printed_carries}

-- the reason for the policy is that for its name
pub reason_named : (program : Program) (name : List ℕ) (p : Policy) → policy_named program name ≡ Some p →
    (r : Refusal) → IsReason program.fields program.topo p r → IsRefused program name r
reason_named program name p named NoPolicy e = absurd (static_refusal_named program.fields.tag program.topo p e)
reason_named program name p named r e = (p, named, e)

-- what is made of a policy and counted of it is its answer
pub counted_answer : (program : Program) (p : Policy) (r : Result Counted CompileError) →
    IsProgram program.fields program.topo program.lets → IsWellFormed program.fields p →
    IfOk r (λ c. IsMade program.fields program.topo p c.tables) → IfOk r (λ c. HasTagSets program.fields program.topo p c.tag_sets) →
    IfErr r (IsError program.fields program.topo p) → IsCountedPolicyAnswer program p r
counted_answer program p (Ok c) ok held made counted error =
    let accepted : IsAccepted program p = (made.compilable, made.few) in
    let carries = printed_carries program p c.tables ok.table ok.topology.links (numbered_distinct p 1 held.numbered) held.in_range made.compilable made.printed in
    ((accepted, made.printed, carries), counted)
counted_answer program p (Err e) ok held made counted error = error

-- a program's policy is well formed
pub named_well_formed : (program : Program) (name : List ℕ) (p : Policy) →
    IsProgram program.fields program.topo program.lets → policy_named program name ≡ Some p → IsWellFormed program.fields p
named_well_formed program name p ok named = let_well_formed program.fields p (let_named program name p ok named)

-- a value of a list of values that are at most so much, 0 past its end
at_most_all : (xs : List ℕ) (most : ℕ) → All (λ m. m ≤ most) xs → (k : ℕ) → get_or xs k 0 ≤ most
at_most_all [] most h k = omega arith
at_most_all (x ∷ xs) most h zero = h 0 0 (omega arith)
at_most_all (x ∷ xs) most h (suc k) = at_most_all xs most (λ j d lt. h (suc j) d (omega (arith, lt))) k

-- a program's values are such that a number more has room
pub has_room : (program : Program) → IsProgram program.fields program.topo program.lets → (f : ℕ) → get_or program.fields.maxima f 0 + 1 < 18446744073709551616
has_room program ok f = let a = at_most_all program.fields.maxima 281474976710655 ok.maxima f in omega (arith, a)
