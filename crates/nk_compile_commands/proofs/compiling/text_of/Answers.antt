use Rattle.std.proofs.Common.{[], sym, subst}
use Rattle.nk_field.specs.Packet.{FieldTable}
use Rattle.nk_topo.specs.Topology.{Topology}
use Rattle.nk_tabtext.specs.Written.{HasWritten}
use Rattle.nk_compile_commands.proofs.compiling.text_of.Goals as goal

pub hand_tables-requires : goal.hand_tables-requires
hand_tables-requires c = let r = c.requires in (r.0, r.1, r.3, r.4)

pub returns : goal.returns
returns c = λ program name fields topo numbered.
    let handed = c.in_ok-hand_tables.ensures program name topo numbered in
    let begun =
    subst (λ (f : FieldTable). HasWritten f program.topo [] c.in_ok-sink.sink.writer) (sym fields)
    (subst (λ (t : Topology). HasWritten c.args.fields.now t [] c.in_ok-sink.sink.writer) (sym topo) c.in_ok-sink.ensures.written) in (
      record { fields = program.fields; topo = program.topo; tables = handed.0 },
      handed.2,
      c.end.ensures program.fields program.topo handed.0 (handed.1 program.fields program.topo [] begun) numbered.is.topology handed.2.3.switches,
    )
