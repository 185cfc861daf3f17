use Rattle.std.proofs.Common.{◌∙◌}
use Rattle.nk_topo.proofs.Insides.{target_found}
use Rattle.nk_topo.proofs.topo.Topo.is_target.Goals as goal

pub returns : goal.returns
returns c =
    c.contains.ensures
    ∙ c.self.invariant.targets c.args.sw c.args.pt
    ∙ target_found _ _ _ _ c.args.sw c.args.pt c.self.view_is
