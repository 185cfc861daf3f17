use Rattle.nk_policy.specs.Tree.{tree_of}
use Rattle.nk_virtual_command.proofs.VirtualText.{is_virtual_printed}
use Rattle.nk_virtual_command.proofs.virtualizing.answer_to_physical.Goals as goal

pub returns-in_ok-table_text-in-Ok : goal.returns-in_ok-table_text-in-Ok
returns-in_ok-table_text-in-Ok c =
    is_virtual_printed c.policies_tables_are_printable.ensures c.printed_tables_are_read.ensures c.args.program.now c.args.name.now
    c.in_ok-table_text-in-Ok.field-0.items (tree_of c.args.policy.now) c.in-Ok.tables c.requires.is c.requires.declared c.requires.physical
    c.in-Ok.ensures c.in_ok-table_text-in-Ok.ensures

pub table_text-requires : goal.table_text-requires
table_text-requires c =
    c.policies_tables_are_in_order.ensures c.args.program.now (tree_of c.args.policy.now) c.in-Ok.tables c.requires.is c.requires.declared.fields
    c.requires.declared.topology c.requires.physical.is.well_formed.in_range c.in-Ok.ensures
