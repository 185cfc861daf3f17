use Rattle.std.proofs.Common.{◌∙◌, ap, sym}
use Rattle.nk_static.specs.Links.{is_place}
use Rattle.nk_static.proofs.Declared.{declared_is}
use Rattle.nk_static.proofs.links.is_declared.Goals as goal

pub returns : goal.returns
returns c =
    c.is_at.ensures
    ∙ ap (λ o. is_place o c.args.to.0 c.args.to.1) c.link_from.ensures
    ∙ sym (declared_is c.args.topo.now c.switches-switches.ensures.is.links c.args.from.0 c.args.from.1 c.args.to.0 c.args.to.1)
