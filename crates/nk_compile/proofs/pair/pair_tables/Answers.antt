use Rattle.std.proofs.Common.{refl, arith}
use Rattle.nk_policy.specs.Tree.{tree_of}
use Rattle.nk_compile.specs.MadePair.{IsPairError}
use Rattle.nk_compile.proofs.CompileErrors.{refused_with}
use Rattle.nk_compile.proofs.Pairing.{many_old, many_new, pair_made}
use Rattle.nk_compile.proofs.pair.pair_tables.Goals as goal

pub numbers-requires-clause-prepared : goal.numbers-requires-clause-prepared
numbers-requires-clause-prepared c =
    let r = c.requires.prepared in
    (c.args.fields.now, c.args.topo.now, r.0, tree_of c.args.p.now, r.2)

pub numbers-requires-clause-first : goal.numbers-requires-clause-first
numbers-requires-clause-first c = omega arith

pub numbers-requires-2-clause-prepared : goal.numbers-requires-2-clause-prepared
numbers-requires-2-clause-prepared c =
    let r = c.requires.prepared in
    (c.args.fields.now, c.args.topo.now, r.0, tree_of c.args.q.now, r.3)

pub returns-in_err-old_sets-clause-error : goal.returns-in_err-old_sets-clause-error
returns-in_err-old_sets-clause-error c =
    let r = c.requires.prepared in
    refused_with c.from_residual.result c.in_err-old_sets.field-0.0 (IsPairError c.args.fields.now c.args.topo.now (tree_of c.args.p.now) (tree_of c.args.q.now)) c.from_residual.ensures.1
    (many_old c.args.fields.now c.args.topo.now r.0 r.0 (tree_of c.args.p.now) (tree_of c.args.q.now) c.args.old c.args.new r.2 r.3 c.args.max r.1 c.in_err-old_sets.field-0.0 c.in_err-old_sets.ensures.err)

pub returns-in_err-new_sets-clause-error : goal.returns-in_err-new_sets-clause-error
returns-in_err-new_sets-clause-error c =
    let r = c.requires.prepared in
    refused_with c.from_residual-in_err-new_sets.result c.in_err-new_sets.field-0.0 (IsPairError c.args.fields.now c.args.topo.now (tree_of c.args.p.now) (tree_of c.args.q.now)) c.from_residual-in_err-new_sets.ensures.1
    (many_new c.args.fields.now c.args.topo.now r.0 r.0 (tree_of c.args.p.now) (tree_of c.args.q.now) c.args.old c.args.new r.2 r.3 c.args.max r.1
    c.in_ok-old_sets.old_sets c.in_ok-old_sets.ensures.ok c.len-old_tags.result c.len-old_tags.ensures c.in_err-new_sets.field-0.0 c.in_err-new_sets.ensures.err)

pub returns-clause-made : goal.returns-clause-made
returns-clause-made c =
    let r = c.requires.prepared in
    pair_made c.args.fields.now c.args.topo.now r.0 r.0 (tree_of c.args.p.now) (tree_of c.args.q.now) c.args.old c.args.new r.2 r.3 c.args.max r.1
    c.in_ok-old_sets.old_sets c.in_ok-old_sets.ensures.ok c.len-old_tags.result c.len-old_tags.ensures c.in_ok-new_sets.new_sets c.in_ok-new_sets.ensures.ok r.1 c.in_ok-new_sets.ensures.few _ refl
    c.in_ok-old_tables.ensures c.in_ok-new_tables.ensures
