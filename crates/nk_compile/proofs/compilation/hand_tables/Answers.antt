use Rattle.nk_compile.proofs.TablesOneByOne.{handed, numbered_at}
use Rattle.nk_compile.proofs.compilation.hand_tables.Goals as goal

pub tables_to-requires : goal.tables_to-requires
tables_to-requires g c =
    let r = c.requires in
    record { numbered = (r.0.fields, r.3.policy, numbered_at r.0 r.1 c.args.numbered c.args.topo.now r.2 r.3) }

pub returns : goal.returns
returns g c = λ program name same is.
    handed program name c.args.numbered c.tables_to.result _ same is _
    (c.tables_to.ensures.made program.fields is.policy (numbered_at program name c.args.numbered c.args.topo.now same is))
    (c.tables_to.ensures.counted program.fields is.policy (numbered_at program name c.args.numbered c.args.topo.now same is))
