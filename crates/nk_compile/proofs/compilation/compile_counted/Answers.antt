use Rattle.std.proofs.Common.{◌++◌, ap, sym, ◌∙◌}
use Rattle.nk_names.specs.ProgramValue.{ProgramValue}
use Rattle.nk_compile.specs.Headline.{IsCompiled}
use Rattle.nk_compile.proofs.TablesOneByOne.{tables_at}
use Rattle.nk_compile.proofs.compilation.compile_counted.Goals as goal

pub hand_tables-requires : goal.hand_tables-requires
hand_tables-requires c =
    (c.args.program.now, c.args.name.now, ap (λ (v : ProgramValue). v.topo) (sym c.program.view_is), c.in_ok-numbered.ensures.ok)

pub returns : goal.returns
returns c =
    let is = c.program.view_is in
    let made = c.in_ok-tag_sets.ensures c.args.program.now c.args.name.now (ap (λ (v : ProgramValue). v.topo) (sym is)) c.in_ok-numbered.ensures.ok in (
      tables_at (IsCompiled c.args.program.now c.args.name.now) c.in_ok-tables.tables c.args.program.now.fields _ c.args.program.now.topo _ made.0 _
          c.in_ok-tables.ensures (ap (λ (v : ProgramValue). v.fields) is) (ap (λ (v : ProgramValue). v.topo) is)
          (c.into_tables.ensures ∙ made.1 ∙ ap (λ l. l ++ made.0) c.new-tables.ensures.tables) made.2,
      made.3,
    )
