use Rattle.std.proofs.Common.{take}
use Rattle.nk_policy.specs.Tree.{tree_of}
use Rattle.nk_deriv.specs.Turns.{ArePutAfter}
use Rattle.nk_deriv.proofs.turns.put_following.Given as goal

-- the legs so far are put after
abbrev pub invariant-loop-leg : goal.invariant-loop-leg
invariant-loop-leg l = ArePutAfter l.fn.out l.out (tree_of l.free) (take l.leg-index l.legs)
