use Rattle.std.proofs.Common.{◌+◌, ◌*◌, ◌-◌, ◌≤◌}
use Rattle.nk_store.specs.StoreState.{Grows}
use Rattle.nk_apply.proofs.Built.{Built}
use Rattle.nk_apply.proofs.Merges.{pair_at}
use Rattle.nk_apply.proofs.pairs.+merge.Given as goal

abbrev pub decreases-merge : goal.decreases-merge
decreases-merge g l = 4 * (l.a + l.b) + 3

abbrev pub decreases-merge_anew : goal.decreases-merge_anew
decreases-merge_anew g l = 4 * (l.a + l.b) + 2

abbrev pub decreases-merge_case : goal.decreases-merge_case
decreases-merge_case g l = 4 * (l.a + l.b) + 1

abbrev pub decreases-merge_parts : goal.decreases-merge_parts
decreases-merge_parts g l = 4 * (l.a + l.b)

abbrev pub invariant-merge_parts-loop-parts : goal.invariant-merge_parts-loop-parts
invariant-merge_parts-loop-parts g l = record {
  grows : Grows l.fn.st l.st;
  within : l.from ≤ l.max;
  built : Built (pair_at (g.J.Join.joined l.j) l.fn.st l.f l.a l.b) l.st l.f l.from l.parts;
}

abbrev pub decreases-merge_parts-loop-parts : goal.decreases-merge_parts-loop-parts
decreases-merge_parts-loop-parts g l = l.max - l.from
