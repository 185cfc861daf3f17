-- What is answered of a policy's merged tables is what is answered of its name.
use Rattle.std.proofs.Common.{◌≡◌, Some, List, ℕ}
use Rattle.std.specs.Prelude.{Result, Ok, Err, IfOk, IfErr}
use Rattle.nk_field.specs.Packet.{FieldTable}
use Rattle.nk_topo.specs.Topology.{Topology}
use Rattle.nk_policy.specs.Policy.{Policy}
use Rattle.nk_names.specs.declared.Program.{Program}
use Rattle.nk_names.specs.Named.{policy_named}
use Rattle.nk_names.specs.ProgramValue.{IsProgram}
use Rattle.nk_compile.specs.declared.refusal.Refusal.{Refusal}
use Rattle.nk_compile.specs.declared.refusal.Refusal.TheVariants.{NoPolicy, NoTag, TooManyTags}
use Rattle.nk_compile.specs.declared.refusal.CompileError.{CompileError}
use Rattle.nk_compile.specs.declared.refusal.CompileError.TheVariants.{NoMemory, Refused}
use Rattle.nk_compile.specs.Preparing.{IsEarlyError}
use Rattle.nk_compile.proofs.CompileErrors.{static_refusal_named}
use Rattle.nk_compact.specs.declared.compact.Compact.{Compact}
use Rattle.nk_compact.specs.Compacted.{IsCompactOf, IsCompactReason, IsCompactError, IsCompactRefused, AnswersCompact}
use Rattle.nk_compact.proofs.Merging.{named_merged_carries}

-- a reason before tags are numbered is one
pub early_compact_error : (fields : FieldTable) (topo : Topology) (p : Policy) (e : CompileError) → IsEarlyError fields topo p e → IsCompactError fields topo p e
early_compact_error fields topo p NoMemory h = tt
early_compact_error fields topo p (Refused NoPolicy) h = absurd h
early_compact_error fields topo p (Refused NoTag) h = absurd h
early_compact_error fields topo p (Refused (TooManyTags found)) h = absurd h
early_compact_error fields topo p e h = h

-- the reason for the policy is that for its name
compact_reason_named : (program : Program) (name : List ℕ) (p : Policy) → policy_named program name ≡ Some p →
    (r : Refusal) → IsCompactReason program.fields program.topo p r → IsCompactRefused program name r
compact_reason_named program name p named NoPolicy e = absurd (static_refusal_named program.fields.tag program.topo p e)
compact_reason_named program name p named r e = (p, named, e)

-- the answer for the policy is that for its name
pub compact_answer_named : (program : Program) (name : List ℕ) (p : Policy) (r : Result Compact CompileError) →
    IsProgram program.fields program.topo program.lets → policy_named program name ≡ Some p →
    IfOk r (IsCompactOf program.fields program.topo p) → IfErr r (IsCompactError program.fields program.topo p) → AnswersCompact program name r
compact_answer_named program name p (Ok c) ok named made error =
    (p, named, made, named_merged_carries program name p made.tags made.classes c.tables ok named made.compilable made.merged)
compact_answer_named program name p (Err NoMemory) ok named made error = tt
compact_answer_named program name p (Err (Refused r)) ok named made error = compact_reason_named program name p named r error
