use Rattle.std.proofs.Common.{◌∙◌, rules}
use Rattle.nk_policy.specs.Tree.{tree_of}
use Rattle.nk_query.specs.Asked.{apart_of}
use Rattle.nk_query.specs.Answers.{CanBeAsked}
use Rattle.nk_query.proofs.Numbers.{apart_numbered}
use Rattle.nk_query.proofs.building.apart.Goals as goal

pub returns : goal.returns
returns c =
    let can : CanBeAsked (apart_of (tree_of c.args.p) (tree_of c.args.from) (tree_of c.args.target)) = search rules in
    (can, c.in_ok-q.ensures ∙ apart_numbered (tree_of c.args.p) (tree_of c.args.from) (tree_of c.args.target) c.requires can.predicates)
