-- What compiling a policy answers, with a name or without.
use Rattle.std.specs.Prelude.{ℕ, ⊤, Result, Ok, Err, List}
use Rattle.nk_topo.specs.Topology.{Topology}
use Rattle.nk_field.specs.Packet.{FieldTable}
use Rattle.nk_policy.specs.Policy.{Policy}
use Rattle.nk_policy.specs.Labels.{IsTagSet, AtMost}
use Rattle.nk_names.specs.declared.Program.{Program}
use Rattle.nk_names.specs.Accepted.{IsStartPacket, IsCompilable, most_tags}
use Rattle.nk_table.specs.declared.Tables.{Tables}
use Rattle.nk_compile.specs.Refusals.{IsReason, IsRefused}
use Rattle.nk_compile.specs.WholeTable.{IsTableOf}
use Rattle.nk_compile.specs.Headline.{IsCompiled, IsCompiledPolicy}
use Rattle.nk_compile.specs.declared.refusal.CompileError.{CompileError}
use Rattle.nk_compile.specs.declared.refusal.CompileError.TheVariants.{NoMemory, Refused}

-- the printed tables of a policy that is compiled
pub record IsMade (fields : FieldTable) (topo : Topology) (p : Policy) (t : Tables) : Type 0 where
  pub compilable : IsCompilable fields topo p
  pub few : AtMost (most_tags fields fields.tag) (IsTagSet p (IsStartPacket fields topo))
  pub printed : IsTableOf fields topo (IsStartPacket fields topo) p t

-- the reason for which a policy is refused; running out of memory says nothing
abbrev pub IsError : FieldTable → Topology → Policy → CompileError → Type 0
IsError fields topo p NoMemory = ⊤
IsError fields topo p (Refused r) = IsReason fields topo p r

-- the tables of a policy, or why there are none
abbrev pub IsPolicyAnswer : Program → Policy → Result Tables CompileError → Type 0
IsPolicyAnswer program p (Ok t) = IsCompiledPolicy program p t
IsPolicyAnswer program p (Err e) = IsError program.fields program.topo p e

-- why a name has no answer: the first reason to refuse it; memory may run out at any point
abbrev pub IsNoAnswer : Program → List ℕ → CompileError → Type 0
IsNoAnswer program name NoMemory = ⊤
IsNoAnswer program name (Refused r) = IsRefused program name r

-- the tables, or why there are none
abbrev pub IsCompileResult : Program → List ℕ → Result Tables CompileError → Type 0
IsCompileResult program name (Ok t) = IsCompiled program name t
IsCompileResult program name (Err e) = IsNoAnswer program name e
