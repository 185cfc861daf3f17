use Rattle.std.proofs.Common.{Some, sym, ap, ◌∙◌}
use Rattle.nk_policy.specs.Tree.{tree_of}
use Rattle.nk_query.specs.Asked.{waypoint_of}
use Rattle.nk_query.specs.Asked.{waypoint as asks_waypoint}
use Rattle.nk_query.proofs.Named.{named_made, made_fit, named_marks, named_numbered}
use Rattle.nk_query.proofs.naming.named_waypoint.Goals as goal

pub waypoint-requires : goal.waypoint-requires
waypoint-requires c = record {
  numbered = named_numbered c.args.program.now c.args.name.now (tree_of c.in_ok-p.p) c.find.ensures.is (sym c.in-Some.ensures.found ∙ ap Some (sym c.in_ok-p.ensures));
  marks = named_marks c.args.program.now c.args.name.now (tree_of c.in_ok-p.p) c.find.ensures.is (sym c.in-Some.ensures.found ∙ ap Some (sym c.in_ok-p.ensures));
}

pub returns-clause-is : goal.returns-clause-is
returns-clause-is c =
    named_made c.args.program.now (asks_waypoint c.args.name.now c.args.from.now c.args.middle.now c.args.target.now)
    (waypoint_of (tree_of c.in_ok-p.p) (tree_of c.in_ok-a.a) (tree_of c.in_ok-m.m) (tree_of c.in_ok-b.b))
    (sym c.in-Some.ensures.found ∙ ap Some (sym c.in_ok-p.ensures), sym c.in-Some-find.ensures.found ∙ ap Some (sym c.in_ok-a.ensures), sym c.in-Some-find-2.ensures.found ∙ ap Some (sym c.in_ok-m.ensures), sym c.in-Some-find-3.ensures.found ∙ ap Some (sym c.in_ok-b.ensures))
    c.waypoint.result c.waypoint.ensures

pub returns-clause-fit : goal.returns-clause-fit
returns-clause-fit c =
    made_fit c.args.program.now (asks_waypoint c.args.name.now c.args.from.now c.args.middle.now c.args.target.now)
    (waypoint_of (tree_of c.in_ok-p.p) (tree_of c.in_ok-a.a) (tree_of c.in_ok-m.m) (tree_of c.in_ok-b.b))
    c.find.ensures.is
    (sym c.in-Some.ensures.found ∙ ap Some (sym c.in_ok-p.ensures), sym c.in-Some-find.ensures.found ∙ ap Some (sym c.in_ok-a.ensures), sym c.in-Some-find-2.ensures.found ∙ ap Some (sym c.in_ok-m.ensures), sym c.in-Some-find-3.ensures.found ∙ ap Some (sym c.in_ok-b.ensures))
    c.waypoint.result c.waypoint.ensures
