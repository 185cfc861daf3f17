use Rattle.nk_compile_commands.proofs.Printing.{is_printed}
use Rattle.nk_compile_commands.proofs.compiling.answer_to_program.Goals as goal

pub printed-requires : goal.printed-requires
printed-requires c = (c.args.name.now, c.in-Ok.ensures.ok)

pub returns-in-Ok : goal.returns-in-Ok
returns-in-Ok c =
    let made = c.in_ok-printed-in-Ok.ensures c.args.name.now c.in-Ok.ensures.ok in
    is_printed c.compiled_tables_are_printable.ensures c.printed_tables_are_read.ensures c.args.program c.args.name.now
    c.in_ok-printed-in-Ok.field-0.items made.0 c.requires.is c.requires.declared made.1 made.2
