use Rattle.std.proofs.Common.{drop}
use Rattle.nk_policy.specs.Tree.{trees_of}
use Rattle.nk_policy.specs.After.{after_some, after_all}
use Rattle.nk_deriv.proofs.Loops.{IsResting}
use Rattle.nk_deriv.proofs.rest.+rests.Given as goal

-- the entries so far are those of the parts before the ones that are left
abbrev pub invariant-rests_of_any-loop-q : goal.invariant-rests_of_any-loop-q
invariant-rests_of_any-loop-q l =
    IsResting l.fn.out l.out l.next after_some (trees_of (drop l.q-index l.ps)) (trees_of l.ps)

-- the entries so far are those of the parts of a sequence before the ones that are left
abbrev pub invariant-rests_in_turn-loop-i : goal.invariant-rests_in_turn-loop-i
invariant-rests_in_turn-loop-i l =
    IsResting l.fn.out l.out l.next after_all (trees_of (drop l.i l.ps)) (trees_of l.ps)
