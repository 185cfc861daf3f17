use Rattle.std.proofs.Common.{◌≡◌, min, ◌+◌, ◌≤◌, drop}
use Rattle.nk_policy.specs.Policy.{sizes_of}
use Rattle.nk_policy.specs.Tree.{trees_of}
use Rattle.nk_virtual.specs.Physical.{all_physical}
use Rattle.nk_virtual.proofs.measure.+replaced_size.Given as goal

-- the parts so far and those that are left count as all
abbrev pub invariant-all_sizes-loop-q : goal.invariant-all_sizes-loop-q
invariant-all_sizes-loop-q l =
    (l.total ≤ 18446744073709551615)
    × (min (l.total + sizes_of (all_physical l.links (trees_of (drop l.q-index l.ps)))) 18446744073709551615 ≡ min (sizes_of (all_physical l.links (trees_of l.ps))) 18446744073709551615)
