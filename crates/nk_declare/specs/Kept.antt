-- What is known of fields and topologies that the declarations of a text make.
use Rattle.std.specs.Prelude.{◌≤◌, ⊤, All, length}
use Rattle.nk_lex.specs.Lex.{largest}
use Rattle.nk_lex.specs.Spelling.{IsName}
use Rattle.nk_field.specs.Packet.{FieldTable, IsFieldTable}
use Rattle.nk_topo.specs.Topology.{Topology}
use Rattle.nk_declare.specs.Declarations.{NetworkDeclaration, field, switch}

-- a field table, with maxima that a text can write, each name one by the lexical rules and no keyword
pub record IsWritable (fields : FieldTable) : Type 0 where
  pub table : IsFieldTable fields
  pub maxima : All (λ m. m ≤ largest) fields.maxima
  pub names : All IsName fields.names

-- switches and ports have numbers that a text can declare, and each switch has a port
pub record IsDeclarable (topo : Topology) : Type 0 where
  pub switches : All (λ s. s.switch ≤ 65535) topo.switches
  pub ports : All (λ s. All (λ p. p ≤ 65535) s.ports) topo.switches
  pub some : All (λ s. 1 ≤ length s.ports) topo.switches

-- a field, if it is one, with a name by the lexical rules and a largest value that a text can write
abbrev pub HasFieldOfText : NetworkDeclaration → Type 0
HasFieldOfText (field w n) = IsName w.text × (n.value ≤ largest)
HasFieldOfText d = ⊤

-- a switch, if it is one, with a port
abbrev pub HasPort : NetworkDeclaration → Type 0
HasPort (switch n ps) = 1 ≤ length ps
HasPort d = ⊤
