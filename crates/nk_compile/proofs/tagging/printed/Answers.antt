use Rattle.std.proofs.Common.{◌++◌, ap, sym, subst, length, ◌∙◌}
use Rattle.std.proofs.lemmas.Result.{IfOk-weaker}
use Rattle.nk_policy.specs.Tree.{tree_of}
use Rattle.nk_table.specs.declared.Tables.{Tables}
use Rattle.nk_compile.specs.Preparing.{AreLinkEnds}
use Rattle.nk_compile.proofs.TablesOneByOne.{ends_for}
use Rattle.nk_compile.proofs.tagging.printed.Goals as goal

pub print_to-requires-clause-prepared : goal.print_to-requires-clause-prepared
print_to-requires-clause-prepared c =
    let k = c.requires.prepared in (
      c.args.fields.now,
      tree_of c.args.p.now,
      k.0,
      k.1,
      subst (AreLinkEnds (tree_of c.args.p.now) (length c.args.prepared.states)) (sym c.as_slice.ensures)
          (ends_for (tree_of c.args.p.now) c.len.result (length c.args.prepared.states) c.in_ok-ends.ends c.len.ensures c.in_ok-ends.ensures.len c.in_ok-ends.ensures.each),
    )

pub returns : goal.returns
returns c =
    let k = c.requires.prepared in
    let made = c.in_ok-print_to.ensures in
    let there =
    subst (AreLinkEnds (tree_of c.args.p.now) (length c.args.prepared.states)) (sym c.as_slice.ensures)
    (ends_for (tree_of c.args.p.now) c.len.result (length c.args.prepared.states) c.in_ok-ends.ends c.len.ensures c.in_ok-ends.ensures.len c.in_ok-ends.ensures.each) in
    IfOk-weaker c.tables_over.result _ _ (λ t is.
    made.2 c.args.fields.now (tree_of c.args.p.now) k.0 k.1 there
    t (ap (λ (x : Tables). x.fields) is) (ap (λ (x : Tables). x.topo) is)
    (ap (λ (x : Tables). x.tables) is ∙ (c.into_tables.ensures ∙ made.1 ∙ ap (λ l. l ++ made.0) c.new-tables.ensures.tables))) c.tables_over.ensures
