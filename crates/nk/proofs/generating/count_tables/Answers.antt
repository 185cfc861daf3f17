use Rattle.nk.proofs.Jobs.{tables_counted}
use Rattle.nk.proofs.generating.count_tables.Goals as goal

pub returns-in_ok-tables_message-in-Ok : goal.returns-in_ok-tables_message-in-Ok
returns-in_ok-tables_message-in-Ok c =
    tables_counted c.compiled_tables_are_printable.ensures c.printed_tables_are_read.ensures c.args.program.now c.args.name.now
    c.in_ok-tables_message-in-Ok.field-0.items c.in-Ok.counted.tables c.in-Ok.counted.tag_sets c.requires.is c.requires.declared
    c.in-Ok.ensures.0 c.in-Ok.ensures.1 c.in_ok-tables_message-in-Ok.ensures
