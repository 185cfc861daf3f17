use Rattle.std.proofs.Common.{◌∙◌, rules}
use Rattle.nk_policy.specs.Tree.{tree_of}
use Rattle.nk_query.specs.Asked.{waypoint_of}
use Rattle.nk_query.specs.Answers.{CanBeAsked}
use Rattle.nk_query.proofs.Numbers.{waypoint_numbered}
use Rattle.nk_query.proofs.building.waypoint.Goals as goal

pub returns : goal.returns
returns c =
    let can : CanBeAsked (waypoint_of (tree_of c.args.p) (tree_of c.args.from) (tree_of c.args.middle.now) (tree_of c.args.target)) = search rules in
    (can, c.in_ok-q.ensures ∙ waypoint_numbered (tree_of c.args.p) (tree_of c.args.from) (tree_of c.args.middle.now) (tree_of c.args.target) c.requires.numbered can.predicates)
