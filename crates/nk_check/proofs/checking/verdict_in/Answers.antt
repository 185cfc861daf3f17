use Rattle.std.proofs.lemmas.Result.{IfOk-weaker}
use Rattle.nk_policy.specs.Tree.{tree_of}
use Rattle.nk_check.proofs.checking.verdict_in.Goals as goal

pub verdict_by-requires-clause-automaton : goal.verdict_by-requires-clause-automaton
verdict_by-requires-clause-automaton c =
    (c.args.fields.now, tree_of c.args.left.now, tree_of c.args.right.now, c.in_ok-both.ensures.ok c.args.fields.now c.requires.over, c.number_after-bound.ensures)

pub returns : goal.returns
returns c =
    IfOk-weaker c.verdict_by.result _ _
    (λ v found. found c.args.fields.now (tree_of c.args.left.now) (tree_of c.args.right.now) (c.in_ok-both.ensures.ok c.args.fields.now c.requires.over) c.number_after-bound.ensures)
    c.verdict_by.ensures
