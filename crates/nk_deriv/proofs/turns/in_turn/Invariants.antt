use Rattle.std.proofs.Common.{drop}
use Rattle.nk_policy.specs.Tree.{tree_of}
use Rattle.nk_deriv.proofs.InTurn.{IsTurning}
use Rattle.nk_deriv.proofs.turns.in_turn.Given as goal

-- the free policy so far, and then the states that are left, come to all
abbrev pub invariant-loop-state : goal.invariant-loop-state
invariant-loop-state l = IsTurning l.fn.legs l.legs (tree_of l.free) (drop l.state-index l.states) l.states
