-- Printed tables that are read back as themselves.
use Rattle.std.specs.Prelude.{ℕ, ◌≤◌, List, length, All}
use Rattle.nk_lex.specs.Lex.{largest}
use Rattle.nk_policy.specs.Policy.{Policy}
use Rattle.nk_policy.specs.Ranges.{IsInRange}
use Rattle.nk_names.specs.declared.Program.{Program}
use Rattle.nk_names.specs.ProgramValue.{IsProgram}
use Rattle.nk_names.specs.ReadBack.{IsWritable}
use Rattle.nk_names.specs.Topologies.{IsDeclarable}
use Rattle.nk_table.specs.declared.Tables.{Tables}
use Rattle.nk_tabtext.specs.InOrder.{AreInOrder}
use Rattle.nk_tabtext.specs.ReadBack.{ArePrintableTables}
use Rattle.nk_compile.specs.Headline.{IsCompiled, IsCompiledPolicy}

-- no switch has more groups than a text has numbers
abbrev pub HasFewGroups : Tables → Type 0
HasFewGroups t = All (λ u. length u.groups ≤ largest) t.tables

-- The tables that compiling a name gives can be read back from their text, where the program has fields and a topology that a
-- text can declare, and where no switch has more groups than a text has numbers.
abbrev pub CompilesPrintable : Type 0
CompilesPrintable = (program : Program) (name : List ℕ) (t : Tables)
    → IsProgram program.fields program.topo program.lets → IsWritable program.fields → IsDeclarable program.topo
    → IsCompiled program name t → HasFewGroups t → ArePrintableTables t

-- The tables that compiling a name gives, of any number of groups, are in order.
abbrev pub CompilesInOrder : Type 0
CompilesInOrder = (program : Program) (name : List ℕ) (t : Tables)
    → IsProgram program.fields program.topo program.lets → IsWritable program.fields → IsDeclarable program.topo
    → IsCompiled program name t → AreInOrder t

-- So it is with the tables of a policy without a name, which sets fields to values in range.
abbrev pub PoliciesPrintable : Type 0
PoliciesPrintable = (program : Program) (p : Policy) (t : Tables)
    → IsProgram program.fields program.topo program.lets → IsWritable program.fields → IsDeclarable program.topo
    → IsInRange p program.fields → IsCompiledPolicy program p t → HasFewGroups t → ArePrintableTables t

abbrev pub PoliciesInOrder : Type 0
PoliciesInOrder = (program : Program) (p : Policy) (t : Tables)
    → IsProgram program.fields program.topo program.lets → IsWritable program.fields → IsDeclarable program.topo
    → IsInRange p program.fields → IsCompiledPolicy program p t → AreInOrder t
