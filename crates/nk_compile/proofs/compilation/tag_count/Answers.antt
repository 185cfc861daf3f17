use Rattle.nk_compile.proofs.TablesOneByOne.{counted_by_name}
use Rattle.nk_compile.proofs.compilation.tag_count.Goals as goal

pub returns-in-Ok : goal.returns-in-Ok
returns-in-Ok c =
    counted_by_name c.args.program.now c.args.name.now c.in-Ok.numbered _ c.len.ensures c.in-Ok.ensures.ok
