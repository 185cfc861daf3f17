use Rattle.std.proofs.Common.{sym}
use Rattle.nk_compile_commands.proofs.compiling.printed.Goals as goal

pub text_of-requires : goal.text_of-requires
text_of-requires c =
    let told = c.declarations-fields.ensures in
    (c.args.program, c.requires.0, sym told.fields, sym told.topo, c.requires.1)

pub returns : goal.returns
returns c = λ name numbered.
    let told = c.declarations-fields.ensures in
    c.text_of.ensures c.args.program name (sym told.fields) (sym told.topo) numbered
