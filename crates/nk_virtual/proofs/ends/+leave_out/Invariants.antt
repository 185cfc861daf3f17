use Rattle.std.proofs.Common.{◌≡◌, drop}
use Rattle.nk_policy.specs.Tree.{trees_of}
use Rattle.nk_policy.proofs.Trees.{joined}
use Rattle.nk_virtual.specs.Endings.{all_without_records}
use Rattle.nk_virtual.proofs.ends.+leave_out.Given as goal

-- the parts made so far, then those that are left, are all
abbrev pub invariant-all_bare-loop-q : goal.invariant-all_bare-loop-q
invariant-all_bare-loop-q l =
    joined (trees_of l.out.items) (all_without_records (trees_of (drop l.q-index l.ps))) ≡ all_without_records (trees_of l.ps)
