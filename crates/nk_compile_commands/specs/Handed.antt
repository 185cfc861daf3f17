-- A text of tables that takes no more, or some and then others.
use Rattle.std.proofs.Common.{List, [], ◌++◌, sym, subst}
use Rattle.std.proofs.lemmas.List.{append-nil, append_assoc}
use Rattle.nk_field.specs.Packet.{FieldTable}
use Rattle.nk_topo.specs.Topology.{Topology}
use Rattle.nk_table.specs.declared.Table.{Table}
use Rattle.nk_tabtext.specs.declared.writer.TableWriter.{TableWriter}
use Rattle.nk_tabtext.specs.Written.{HasWritten}

-- from the one text to the other these tables were written
abbrev pub IsWrittenOn : TableWriter → List Table → TableWriter → Type 0
IsWrittenOn s more t = (fields : FieldTable) (topo : Topology) (before : List Table) → HasWritten fields topo before s → HasWritten fields topo (before ++ more) t

-- between a text and itself none
pub none_written : (s : TableWriter) → IsWrittenOn s [] s
none_written s fields topo before w = subst (λ l. HasWritten fields topo l s) (sym (append-nil before)) w

-- some, and then others
pub joined_written : (s t u : TableWriter) (before more : List Table) → IsWrittenOn s before t → IsWrittenOn t more u → IsWrittenOn s (before ++ more) u
joined_written s t u before more f g fields topo first w =
    subst (λ l. HasWritten fields topo l u) (append_assoc first before more) (g fields topo (first ++ before) (f fields topo first w))
