use Rattle.std.proofs.Common.{◌+◌, ◌*◌, ◌-◌, ◌≤◌}
use Rattle.nk_store.specs.StoreState.{Grows}
use Rattle.nk_apply.specs.Leaves.{guarded}
use Rattle.nk_apply.proofs.Built.{Built}
use Rattle.nk_apply.proofs.Merges.{pair_at}
use Rattle.nk_sets.proofs.at_sets.+at_packets.Given as goal

abbrev pub decreases-at_packets : goal.decreases-at_packets
decreases-at_packets l = 3 * (l.s + l.d) + 2

abbrev pub decreases-cut_case : goal.decreases-cut_case
decreases-cut_case l = 3 * (l.s + l.d) + 1

abbrev pub decreases-cut_parts : goal.decreases-cut_parts
decreases-cut_parts l = 3 * (l.s + l.d)

abbrev pub invariant-cut_parts-loop-parts : goal.invariant-cut_parts-loop-parts
invariant-cut_parts-loop-parts l = record {
  grows : Grows l.fn.st l.st;
  within : l.from ≤ l.max;
  built : Built (pair_at guarded l.fn.st l.f l.s l.d) l.st l.f l.from l.parts;
}

abbrev pub decreases-cut_parts-loop-parts : goal.decreases-cut_parts-loop-parts
decreases-cut_parts-loop-parts l = l.max - l.from
