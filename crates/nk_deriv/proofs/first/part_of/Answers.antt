use Rattle.std.proofs.Common.{subst}
use Rattle.nk_policy.specs.Tree.{tree_of}
use Rattle.nk_deriv.specs.Turns.{IsCollected}
use Rattle.nk_deriv.proofs.Collected.{part_is}
use Rattle.nk_deriv.proofs.first.part_of.Goals as goal

pub returns : goal.returns
returns c =
    part_is _ _ (subst (λ o. IsCollected o c.collected.new.legs (tree_of c.in_ok-free.free) (tree_of c.args.p.now)) c.new-legs.ensures c.in_ok-free.ensures)
