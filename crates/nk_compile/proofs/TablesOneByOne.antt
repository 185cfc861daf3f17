-- Tables that are handed over one by one.
use Rattle.std.proofs.Common.{◌≡◌, ℕ, ◌<◌, List, None, Some, length, get_or, refl, sym, subst}
use Rattle.std.specs.Prelude.{Option, Result, Ok, Err, IfOk, OnOk}
use Rattle.nk_field.specs.Packet.{FieldTable}
use Rattle.nk_topo.specs.Topology.{Topology}
use Rattle.nk_policy.specs.Policy.{Policy}
use Rattle.nk_policy.proofs.Numbering.{numbered_distinct}
use Rattle.nk_table.specs.declared.Table.{Table}
use Rattle.nk_table.specs.declared.Tables.{Tables}
use Rattle.nk_names.specs.declared.Program.{Program}
use Rattle.nk_names.specs.Named.{policy_named}
use Rattle.nk_names.specs.ProgramValue.{IsProgram}
use Rattle.nk_names.specs.WellFormed.{IsWellFormed}
use Rattle.nk_names.specs.Accepted.{IsAccepted}
use Rattle.nk_compile.specs.Answers.{IsMade, IsError, IsNoAnswer}
use Rattle.nk_compile.specs.Counted.{HasTagCount, HasTagSets, IsHanded}
use Rattle.nk_compile.specs.Headline.{IsCompiled}
use Rattle.nk_compile.specs.Preparing.{AreLinkEnds, IsNumberedPolicy, IsNumberedByName}
use Rattle.nk_compile.specs.WholeTable.{link_end}
use Rattle.nk_compile.specs.declared.numbered.Numbered.{Numbered}
use Rattle.nk_compile.specs.declared.refusal.CompileError.{CompileError}
use Rattle.nk_compile.specs.declared.refusal.CompileError.TheVariants.{NoMemory, Refused}
use Rattle.nk_compile.proofs.Levelled.{prepared_compilable, prepared_counted, prepared_few}
use Rattle.nk_compile.proofs.Naming.{reason_named}
use Rattle.nk_compile.proofs.Printed.{printed_carries}

-- tables with equal parts are the same
tables_same : (P : Tables → Type 0) (f g : FieldTable) (t u : Topology) (ts us : List Table) → g ≡ f → u ≡ t → us ≡ ts
    → P (record { fields = f; topo = t; tables = ts }) → P (record { fields = g; topo = u; tables = us })
tables_same P f g t u ts us e h i k =
    subst (λ l. P (record { fields = g; topo = u; tables = l })) (sym i)
    (subst (λ o. P (record { fields = g; topo = o; tables = ts })) (sym h)
    (subst (λ x. P (record { fields = x; topo = t; tables = ts })) (sym e) k))

-- what holds of tables with these parts holds of tables over equal ones
pub tables_at : (P : Tables → Type 0) (all : Tables) (f g : FieldTable) (t u : Topology) (ts us : List Table)
    → all ≡ record { fields = g; topo = u; tables = us } → g ≡ f → u ≡ t → us ≡ ts
    → P (record { fields = f; topo = t; tables = ts }) → P all
tables_at P all f g t u ts us is e h i k = subst P (sym is) (tables_same P f g t u ts us e h i k)

-- the tables that are made of a named policy are those that compiling the name gives
pub made_named : (program : Program) (name : List ℕ) (p : Policy) (t : Tables) → IsProgram program.fields program.topo program.lets
    → policy_named program name ≡ Some p → IsWellFormed program.fields p → IsMade program.fields program.topo p t → IsCompiled program name t
made_named program name p t ok named held made =
    let accepted : IsAccepted program p = (made.compilable, made.few) in
    (p, named, accepted, made.printed, printed_carries program p t ok.table ok.topology.links (numbered_distinct p 1 held.numbered) held.in_range made.compilable made.printed)

-- the error for a policy is that for its name
pub error_named : (program : Program) (name : List ℕ) (p : Policy) → policy_named program name ≡ Some p →
    (e : CompileError) → IsError program.fields program.topo p e → IsNoAnswer program name e
error_named program name p named NoMemory h = tt
error_named program name p named (Refused r) h = reason_named program name p named r h

-- a named policy's numbers stand over this topology
pub numbered_at : (program : Program) (name : List ℕ) (n : Numbered) (topo : Topology) → program.topo ≡ topo → (is : IsNumberedByName program name n)
    → IsNumberedPolicy program.fields topo is.policy n
numbered_at program name n topo same is = subst (λ t. IsNumberedPolicy program.fields t is.policy n) same is.numbered

-- what is made of them over it was handed over for the name
pub handed : {E : Type 0} (program : Program) (name : List ℕ) (n : Numbered) (r : Result ℕ E) (topo : Topology) → program.topo ≡ topo →
    (is : IsNumberedByName program name n) → (Taken : List Table → Type 0) →
    OnOk r ((ts : List Table) × Taken ts × IsMade program.fields topo is.policy (record { fields = program.fields; topo = topo; tables = ts })) →
    IfOk r (HasTagSets program.fields topo is.policy) → IfOk r (IsHanded program name Taken)
handed program name n (Ok count) topo same is Taken made counted =
    let there = subst (λ t. IsMade program.fields t is.policy (record { fields = program.fields; topo = t; tables = made.0 })) (sym same) made.2 in
    let compiled = made_named program name is.policy _ is.is is.named is.held there in
    let accepted : IsAccepted program is.policy = (there.compilable, there.few) in
    (made.0, made.1, compiled, (is.policy, is.named, accepted, subst (λ t. HasTagSets program.fields t is.policy count) (sym same) counted))
handed program name n (Err e) topo same is Taken made counted = tt

-- where a policy's links end, for as many marks as are counted
pub ends_for : (p : Policy) (n count : ℕ) (ends : List (Option ℕ)) → n ≡ count → length ends ≡ n →
    ((l : ℕ) → l < n → get_or ends l None ≡ link_end p l) → AreLinkEnds p count ends
ends_for p n count ends same len each = subst (λ m. AreLinkEnds p m ends) same (record { len = len; each = each })

-- a named policy's numbers are as many as its tag sets
pub counted_by_name : (program : Program) (name : List ℕ) (n : Numbered) (k : ℕ) → k ≡ length n.tags → IsNumberedByName program name n
    → HasTagCount program name k
counted_by_name program name n k same is =
    let i = is.numbered in
    let accepted : IsAccepted program is.policy = (
      prepared_compilable program.fields program.topo i.tag is.policy n.prepared i.prepared,
      prepared_few program.fields program.topo i.tag is.policy n.prepared i.prepared n.tags i.numbers _ refl i.few,
    ) in (
      is.policy,
      is.named,
      accepted,
      subst (HasTagSets program.fields program.topo is.policy) (sym same)
          (prepared_counted program.fields program.topo i.tag is.policy n.prepared i.prepared n.tags i.numbers),
    )
