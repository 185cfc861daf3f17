use Rattle.std.proofs.Common.{sym, ap, subst, ◌∙◌}
use Rattle.std.specs.Prelude.{◌≡◌, IfOk}
use Rattle.nk_policy.specs.Tree.{tree_of}
use Rattle.nk_virtual.specs.Physical.{through_fabric}
use Rattle.nk_virtual.proofs.Places.{through_found, through_nothing}
use Rattle.nk_virtual.proofs.building.through.Goals as goal

pub returns-in-Some : goal.returns-in-Some
returns-in-Some c =
    subst (λ p. IfOk c.through_fabric.result (λ q. tree_of q ≡ p))
    (ap through_fabric c.index-links-place.is
    ∙ sym (through_found c.args.links.now c.in-Some.place c.index-links-place.result c.args.literal.0 c.args.literal.1 c.args.literal.2 c.args.literal.3 c.args.mark (sym c.in-Some.ensures.place)))
    c.through_fabric.ensures

pub returns-in-None : goal.returns-in-None
returns-in-None c =
    sym (through_nothing c.args.links.now c.args.literal.0 c.args.literal.1 c.args.literal.2 c.args.literal.3 c.args.mark (sym c.in-None.ensures.place))
