-- Printed merged tables that are read back as themselves.
use Rattle.std.specs.Prelude.{ℕ, List}
use Rattle.nk_names.specs.declared.Program.{Program}
use Rattle.nk_names.specs.ProgramValue.{IsProgram}
use Rattle.nk_names.specs.ReadBack.{IsWritable}
use Rattle.nk_names.specs.Topologies.{IsDeclarable}
use Rattle.nk_tabtext.specs.InOrder.{AreInOrder}
use Rattle.nk_tabtext.specs.ReadBack.{ArePrintableTables}
use Rattle.nk_compact.specs.declared.compact.Compact.{Compact}
use Rattle.nk_compact.specs.Compacted.{IsCompacted}
use Rattle.nk_compile_commands.specs.TextTables.{HasFewGroups}

-- The merged tables that compacting a name gives can be read back from their text, where the program has fields and a topology
-- that a text can declare, and where no switch has more groups than a text has numbers.
abbrev pub CompactsPrintable : Type 0
CompactsPrintable = (program : Program) (name : List ℕ) (c : Compact)
    → IsProgram program.fields program.topo program.lets → IsWritable program.fields → IsDeclarable program.topo
    → IsCompacted program name c → HasFewGroups c.tables → ArePrintableTables c.tables

-- The merged tables, of any number of groups, are in order.
abbrev pub CompactsInOrder : Type 0
CompactsInOrder = (program : Program) (name : List ℕ) (c : Compact)
    → IsProgram program.fields program.topo program.lets → IsWritable program.fields → IsDeclarable program.topo
    → IsCompacted program name c → AreInOrder c.tables
