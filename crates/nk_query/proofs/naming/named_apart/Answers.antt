use Rattle.std.proofs.Common.{Some, sym, ap, ◌∙◌}
use Rattle.nk_policy.specs.Tree.{tree_of}
use Rattle.nk_query.specs.Asked.{apart_of}
use Rattle.nk_query.specs.Asked.{apart as asks_apart}
use Rattle.nk_query.proofs.Named.{named_made, made_fit, named_numbered}
use Rattle.nk_query.proofs.naming.named_apart.Goals as goal

pub apart-requires : goal.apart-requires
apart-requires c =
    named_numbered c.args.program.now c.args.name.now (tree_of c.in_ok-p.p) c.find.ensures.is (sym c.in-Some.ensures.found ∙ ap Some (sym c.in_ok-p.ensures))

pub returns-clause-is : goal.returns-clause-is
returns-clause-is c =
    named_made c.args.program.now (asks_apart c.args.name.now c.args.from.now c.args.target.now)
    (apart_of (tree_of c.in_ok-p.p) (tree_of c.in_ok-a.a) (tree_of c.in_ok-b.b))
    (sym c.in-Some.ensures.found ∙ ap Some (sym c.in_ok-p.ensures), sym c.in-Some-find.ensures.found ∙ ap Some (sym c.in_ok-a.ensures), sym c.in-Some-find-2.ensures.found ∙ ap Some (sym c.in_ok-b.ensures))
    c.apart.result c.apart.ensures

pub returns-clause-fit : goal.returns-clause-fit
returns-clause-fit c =
    made_fit c.args.program.now (asks_apart c.args.name.now c.args.from.now c.args.target.now)
    (apart_of (tree_of c.in_ok-p.p) (tree_of c.in_ok-a.a) (tree_of c.in_ok-b.b))
    c.find.ensures.is
    (sym c.in-Some.ensures.found ∙ ap Some (sym c.in_ok-p.ensures), sym c.in-Some-find.ensures.found ∙ ap Some (sym c.in_ok-a.ensures), sym c.in-Some-find-2.ensures.found ∙ ap Some (sym c.in_ok-b.ensures))
    c.apart.result c.apart.ensures
