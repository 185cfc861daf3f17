use Rattle.std.proofs.Common.{◌≡◌, drop}
use Rattle.nk_policy.specs.Tree.{trees_of}
use Rattle.nk_policy.proofs.Trees.{joined}
use Rattle.nk_policy.proofs.rebuild.+copy.Given as goal

-- the parts made so far, then those that are left, are all
abbrev pub invariant-all_copied-loop-q : goal.invariant-all_copied-loop-q
invariant-all_copied-loop-q l =
    joined (trees_of l.out.items) (trees_of (drop l.q-index l.ps)) ≡ trees_of l.ps
