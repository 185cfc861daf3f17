use Rattle.std.proofs.Common.{subst}
use Rattle.nk_policy.specs.Tree.{tree_of}
use Rattle.nk_deriv.specs.Turns.{AreInTurn, ArePutAfter}
use Rattle.nk_deriv.proofs.InTurn.{continued_is}
use Rattle.nk_deriv.proofs.turns.continued.Goals as goal

pub returns : goal.returns
returns c =
    continued_is _ c.args.next.now c.args.states.now c.in_turn.new.legs (tree_of c.in_ok-free.free)
    (subst (λ o. AreInTurn o c.in_turn.new.legs (tree_of c.in_ok-free.free) c.args.states.now) c.new-legs.ensures c.in_ok-free.ensures)
    (subst (ArePutAfter c.in_turn.new.legs c.put_following.new.out (tree_of c.in_ok-free.free)) c.as_slice.ensures c.in_ok-put_following.ensures)
    c.in_ok-whole.ensures
