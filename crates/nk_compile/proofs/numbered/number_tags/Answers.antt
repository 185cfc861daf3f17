use Rattle.std.proofs.Common.{◌∙◌, sym, arith}
use Rattle.nk_policy.specs.Tree.{tree_of}
use Rattle.nk_compile.specs.Answers.{IsError}
use Rattle.nk_compile.specs.declared.refusal.CompileError.TheVariants.{NoMemory}
use Rattle.nk_compile.proofs.TablesOneByOne.{ends_for}
use Rattle.nk_compile.proofs.Levelled.{prepared_unopposed, prepared_many}
use Rattle.nk_compile.proofs.CompileErrors.{refused_with, early_error, many_error}
use Rattle.nk_compile.proofs.numbered.number_tags.Goals as goal

pub max-requires : goal.max-requires
max-requires c = (c.declared-few.ensures.is.tag_past_port c.in-Some.tag (sym c.tag.ensures ∙ c.in-Some.is)).1

pub numbers-requires-clause-prepared : goal.numbers-requires-clause-prepared
numbers-requires-clause-prepared c = (c.args.fields.now, c.args.topo.now, c.in-Some.tag, tree_of c.args.p.now, c.in_ok-prepared.ensures.ok)

pub returns-in_err-prepared-clause-error : goal.returns-in_err-prepared-clause-error
returns-in_err-prepared-clause-error c =
    refused_with c.from_residual.result c.in_err-prepared.field-0.0 (IsError c.args.fields.now c.args.topo.now (tree_of c.args.p.now)) c.from_residual.ensures.1
    (early_error c.args.fields.now c.args.topo.now (tree_of c.args.p.now) c.in_err-prepared.field-0.0 c.in_err-prepared.ensures.err)

pub returns-in_err-tags-clause-error : goal.returns-in_err-tags-clause-error
returns-in_err-tags-clause-error c =
    let k = c.in_ok-prepared.ensures.ok in
    refused_with c.from_residual-in_err-tags.result c.in_err-tags.field-0.0 (IsError c.args.fields.now c.args.topo.now (tree_of c.args.p.now)) c.from_residual-in_err-tags.ensures.1
    (many_error c.args.fields.now c.args.topo.now c.in-Some.tag (tree_of c.args.p.now) k.begun.clear.tag_is
    (prepared_unopposed c.args.fields.now c.args.topo.now c.in-Some.tag (tree_of c.args.p.now) c.in_ok-prepared.prepared k)
    c.in_ok-prepared.prepared.levels.levels c.max.result c.in_err-tags.field-0.0 c.max.ensures
    (prepared_many c.args.fields.now c.args.topo.now c.in-Some.tag (tree_of c.args.p.now) c.in_ok-prepared.prepared k) c.in_err-tags.ensures.err)

pub returns-in_err-ends-clause-error : goal.returns-in_err-ends-clause-error
returns-in_err-ends-clause-error c =
    refused_with c.from_residual-in_err-ends.result NoMemory (IsError c.args.fields.now c.args.topo.now (tree_of c.args.p.now)) c.from_residual-in_err-ends.ensures.1 tt

pub returns-clause-ok : goal.returns-clause-ok
returns-clause-ok c =
    let few = c.in_ok-tags.ensures.few in
    record {
      tag = c.in-Some.tag;
      prepared = c.in_ok-prepared.ensures.ok;
      ends = ends_for (tree_of c.args.p.now) c.len.result _ c.in_ok-ends.ends c.len.ensures c.in_ok-ends.ensures.len c.in_ok-ends.ensures.each;
      numbers = c.in_ok-tags.ensures.ok;
      few = omega (arith, few, c.max.ensures);
    }
