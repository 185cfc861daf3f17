-- The law on tables by name, for programs that say the same.
use Rattle.std.proofs.Common.{◌≡◌, ℕ, List, sym}
use Rattle.nk_names.specs.declared.Program.{Program}
use Rattle.nk_names.specs.Accepted.{IsStartPacket}
use Rattle.nk_names.specs.ProgramOf.{program_by}
use Rattle.nk_names.proofs.Alike.{fields_alike, topo_alike, one_policy}
use Rattle.nk_table.specs.declared.Tables.{Tables}
use Rattle.nk_compile.specs.WholeTable.{IsTableOf}
use Rattle.nk_compile.specs.Headline.{IsCompiled}
use Rattle.nk_compile.proofs.ReasonByName.{alike}
use Rattle.nk_uniqueness.specs.Packets.{HavePackets}
use Rattle.nk_uniqueness.proofs.OneTable.{one_table}

module _ (program other : Program) (same : program_by program ≡ program_by other) (name : List ℕ) where
  -- the tables that compiling a name gives are one
  pub one_compiled : (t u : Tables) → HavePackets program.fields program.topo → IsCompiled program name t → IsCompiled other name u → t ≡ u
  one_compiled t u there h k =
      one_table program.fields program.topo (IsStartPacket program.fields program.topo) h.0 t u there h.3
      (alike (λ f o p. IsTableOf f o (IsStartPacket f o) p u) other.fields program.fields other.topo program.topo k.0 h.0 (sym (fields_alike program other same)) (sym (topo_alike program other same)) (sym (one_policy program other same name h.0 k.0 h.1 k.1)) k.3)
