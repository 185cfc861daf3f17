use Rattle.std.proofs.Common.{◌≡◌, List, ◌++◌, take}
use Rattle.nk_policy.specs.declared.policy.Pol.{Pol}
use Rattle.nk_policy.specs.Tree.{trees_of}
use Rattle.nk_deriv.proofs.turns.push_copies.Given as goal

-- copies of the policies so far stand at the end
abbrev pub invariant-loop-p : goal.invariant-loop-p
invariant-loop-p l =
    (added : List Pol) × (l.out.items ≡ l.fn.out.items ++ added) × (trees_of added ≡ trees_of (take l.p-index l.ps))
