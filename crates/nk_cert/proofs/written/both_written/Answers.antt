use Rattle.std.proofs.Common.{Some, sym, ap, ◌∙◌, arith}
use Rattle.nk_policy.specs.Tree.{tree_of}
use Rattle.nk_cert.proofs.Named.{let_named, few_of_both, are_written}
use Rattle.nk_cert.proofs.written.both_written.Goals as goal

pub number_after-requires : goal.number_after-requires
number_after-requires c =
    let k = let_named c.args.program.now c.args.left.now (tree_of c.in_ok-p.p) c.find.ensures.is (sym c.in-Some.ensures.found ∙ ap Some (sym c.in_ok-p.ensures)) in
    omega (arith, few_of_both c.args.program.now.fields (tree_of c.in_ok-p.p) (tree_of c.in_ok-p.p) k k)

pub written_from-requires-clause-fit : goal.written_from-requires-clause-fit
written_from-requires-clause-fit c =
    let k = let_named c.args.program.now c.args.left.now (tree_of c.in_ok-p.p) c.find.ensures.is (sym c.in-Some.ensures.found ∙ ap Some (sym c.in_ok-p.ensures)) in
    let l = let_named c.args.program.now c.args.right.now c.in-Some-find.on_right.now c.find.ensures.is (sym c.in-Some-find.ensures.found) in
    omega (arith, c.number_after.ensures, few_of_both c.args.program.now.fields (tree_of c.in_ok-p.p) c.in-Some-find.on_right.now k l)

pub returns : goal.returns
returns c =
    are_written c.args.program.now c.args.left.now c.args.right.now (tree_of c.in_ok-p.p) (tree_of c.in_ok-q.q) c.in-Some-find.on_right.now
    c.number_after.result c.find.ensures.is (sym c.in-Some.ensures.found ∙ ap Some (sym c.in_ok-p.ensures)) (sym c.in-Some-find.ensures.found)
    c.number_after.ensures c.in_ok-q.ensures
