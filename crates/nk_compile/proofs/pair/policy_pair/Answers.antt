use Rattle.std.proofs.Common.{◌∙◌, sym}
use Rattle.nk_policy.specs.Tree.{tree_of}
use Rattle.nk_compile.specs.MadePair.{IsPairError}
use Rattle.nk_compile.proofs.Levelled.{prepared_unopposed}
use Rattle.nk_compile.proofs.CompileErrors.{refused_with}
use Rattle.nk_compile.proofs.Pairing.{early_old, early_new}
use Rattle.nk_compile.proofs.pair.policy_pair.Goals as goal

pub returns-in_err-old-clause-error : goal.returns-in_err-old-clause-error
returns-in_err-old-clause-error c =
    refused_with c.from_residual.result c.in_err-old.field-0.0 (IsPairError c.args.fields.now c.args.topo.now (tree_of c.args.p.now) (tree_of c.args.q.now)) c.from_residual.ensures.1
    (early_old c.args.fields.now c.args.topo.now (tree_of c.args.p.now) (tree_of c.args.q.now) c.in_err-old.field-0.0 c.in_err-old.ensures.err)

pub returns-in_err-new-clause-error : goal.returns-in_err-new-clause-error
returns-in_err-new-clause-error c =
    refused_with c.from_residual-in_err-new.result c.in_err-new.field-0.0 (IsPairError c.args.fields.now c.args.topo.now (tree_of c.args.p.now) (tree_of c.args.q.now)) c.from_residual-in_err-new.ensures.1
    (early_new c.args.fields.now c.args.topo.now (tree_of c.args.p.now) (tree_of c.args.q.now)
    (prepared_unopposed c.args.fields.now c.args.topo.now c.in-Some.tag (tree_of c.args.p.now) c.in_ok-old.old c.in_ok-old.ensures.ok)
    c.in_err-new.field-0.0 c.in_err-new.ensures.err)

pub max-requires : goal.max-requires
max-requires c = (c.declared-few.ensures.is.tag_past_port c.in-Some.tag (sym c.tag.ensures ∙ c.in-Some.is)).1

pub pair_tables-requires-clause-prepared : goal.pair_tables-requires-clause-prepared
pair_tables-requires-clause-prepared c = (c.in-Some.tag, c.max.ensures, c.in_ok-old.ensures.ok, c.in_ok-new.ensures.ok)
