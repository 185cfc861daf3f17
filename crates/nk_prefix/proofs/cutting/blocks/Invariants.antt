use Rattle.std.proofs.Common.{◌≡◌, ◌≤◌, ◌+◌, ◌-◌, ◌^◌, ◌++◌}
use Rattle.nk_prefix.specs.Blocks.{blocks_of, blocks_from}
use Rattle.nk_prefix.proofs.cutting.blocks.Given as goal

abbrev pub invariant-loop-from : goal.invariant-loop-from
invariant-loop-from l = record {
  small : l.from ≤ 2 ^ 65;
  made : l.all.items ++ blocks_from l.digits l.end l.max (l.end + 1) l.from ≡ blocks_of l.lo l.hi l.max;
}

abbrev pub decreases-loop-from : goal.decreases-loop-from
decreases-loop-from l = l.end + 1 - l.from
