use Rattle.std.proofs.Common.{◌≡◌, subst}
use Rattle.nk_compact_command.specs.Compacting.{compact_bytes}
use Rattle.nk_compact_command.proofs.CompactLines.{is_compact_printed}
use Rattle.nk_compact_command.proofs.compacting.answer_to_program.Goals as goal

pub returns-in_ok-compact_text-in-Ok : goal.returns-in_ok-compact_text-in-Ok
returns-in_ok-compact_text-in-Ok c =
    is_compact_printed c.compacted_tables_are_printable.ensures c.printed_tables_are_read.ensures c.args.program.now c.args.name.now
    c.in_ok-compact_text-in-Ok.field-0.items c.in-Ok.compact c.requires.is c.requires.declared c.in-Ok.ensures
    (subst (λ p. c.in_ok-compact_text-in-Ok.field-0.items ≡ compact_bytes p.fields c.in-Ok.compact) c.program.view_is c.in_ok-compact_text-in-Ok.ensures)

pub compact_text-requires : goal.compact_text-requires
compact_text-requires c =
    c.compacted_tables_are_in_order.ensures c.args.program.now c.args.name.now c.in-Ok.compact c.requires.is c.requires.declared.fields c.requires.declared.topology c.in-Ok.ensures
