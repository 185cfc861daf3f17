use Rattle.std.proofs.Common.{◌++◌, ap, refl, ◌∙◌}
use Rattle.nk_policy.specs.Tree.{tree_of}
use Rattle.nk_compile.specs.Answers.{IsError, IsMade}
use Rattle.nk_compile.proofs.TablesOneByOne.{tables_at}
use Rattle.nk_compile.proofs.CompileErrors.{refused_with}
use Rattle.nk_compile.proofs.numbered.policy_tables.Goals as goal

pub tables_to-requires : goal.tables_to-requires
tables_to-requires c = record { numbered = (c.args.fields.now, tree_of c.args.p.now, c.in_ok-numbered.ensures.ok) }

pub returns-clause-made : goal.returns-clause-made
returns-clause-made c =
    let made = c.in_ok-tag_sets.ensures.made c.args.fields.now (tree_of c.args.p.now) c.in_ok-numbered.ensures.ok in
    tables_at (IsMade c.args.fields.now c.args.topo.now (tree_of c.args.p.now)) c.in_ok-tables.tables c.args.fields.now _ c.args.topo.now _ made.0 _
    c.in_ok-tables.ensures refl refl (c.into_tables.ensures ∙ made.1 ∙ ap (λ l. l ++ made.0) c.new-tables.ensures.tables) made.2

pub returns-clause-counted : goal.returns-clause-counted
returns-clause-counted c = c.in_ok-tag_sets.ensures.counted c.args.fields.now (tree_of c.args.p.now) c.in_ok-numbered.ensures.ok

pub returns-in_err-numbered-clause-error : goal.returns-in_err-numbered-clause-error
returns-in_err-numbered-clause-error c =
    refused_with c.from_residual.result c.in_err-numbered.field-0.0 (IsError c.args.fields.now c.args.topo.now (tree_of c.args.p.now)) c.from_residual.ensures.1
    c.in_err-numbered.ensures.error
