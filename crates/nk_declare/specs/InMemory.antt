-- What the fields and the topology in memory declare.
use Rattle.nk_declare.specs.declared.declare.Declared.{Declared}
use Rattle.nk_declare.specs.Declarations.{DeclaredValue}

abbrev pub declared_in : Declared → DeclaredValue
declared_in d = record { fields = d.fields; topo = d.topo }
