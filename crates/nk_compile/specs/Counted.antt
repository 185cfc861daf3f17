-- How many tag sets a policy has, and what is answered beside the printed tables.
use Rattle.std.specs.Prelude.{◌≡◌, ℕ, Some, List, length, Result, Ok, Err}
use Rattle.nk_topo.specs.Topology.{Topology}
use Rattle.nk_field.specs.Packet.{FieldTable}
use Rattle.nk_policy.specs.Policy.{Policy}
use Rattle.nk_policy.specs.Tags.{AreTags}
use Rattle.nk_names.specs.declared.Program.{Program}
use Rattle.nk_names.specs.Accepted.{IsStartPacket, IsAccepted}
use Rattle.nk_names.specs.Named.{policy_named}
use Rattle.nk_table.specs.declared.Table.{Table}
use Rattle.nk_compile.specs.declared.refusal.CompileError.{CompileError}
use Rattle.nk_compile.specs.declared.counted.Counted.{Counted}
use Rattle.nk_compile.specs.Answers.{IsError, IsNoAnswer}
use Rattle.nk_compile.specs.Headline.{IsCompiled, IsCompiledPolicy}

-- there are so many tag sets: the list of all of them in order, each once, is so long
abbrev pub HasTagSets : FieldTable → Topology → Policy → ℕ → Type 0
HasTagSets fields topo p n = (tags : List (List ℕ)) × AreTags p (IsStartPacket fields topo) tags × (n ≡ length tags)

-- the name is an accepted policy's, and that has so many tag sets
abbrev pub HasTagCount : Program → List ℕ → ℕ → Type 0
HasTagCount program name n =
    (p : Policy)
    × (policy_named program name ≡ Some p)
    × IsAccepted program p
    × HasTagSets program.fields program.topo p n

-- the tables of a policy with the number of its tag sets, or why there are none
abbrev pub IsCountedPolicyAnswer : Program → Policy → Result Counted CompileError → Type 0
IsCountedPolicyAnswer program p (Ok c) =
    IsCompiledPolicy program p c.tables × HasTagSets program.fields program.topo p c.tag_sets
IsCountedPolicyAnswer program p (Err e) = IsError program.fields program.topo p e

-- the tables of a name with the number of its tag sets, or why there are none
abbrev pub IsCountedAnswer : Program → List ℕ → Result Counted CompileError → Type 0
IsCountedAnswer program name (Ok c) = IsCompiled program name c.tables × HasTagCount program name c.tag_sets
IsCountedAnswer program name (Err e) = IsNoAnswer program name e

-- the number of the tag sets, or why there is none
abbrev pub IsCountAnswer : Program → List ℕ → Result ℕ CompileError → Type 0
IsCountAnswer program name (Ok n) = HasTagCount program name n
IsCountAnswer program name (Err e) = IsNoAnswer program name e

-- the tables that compiling the name gives were taken, and so many tag sets are theirs
abbrev pub IsHanded : Program → List ℕ → (List Table → Type 0) → ℕ → Type 0
IsHanded program name Taken n =
    (ts : List Table)
    × Taken ts
    × IsCompiled program name (record { fields = program.fields; topo = program.topo; tables = ts })
    × HasTagCount program name n
