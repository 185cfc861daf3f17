use Rattle.std.proofs.Common.{ℕ, ◌+◌, ◌*◌, ◌<◌, get_or}
use Rattle.nk_determ.specs.Unchanged.{AreAmong, HasItems, AllHaveItems}
use Rattle.nk_determ.proofs.assigned.+collect.Given as goal

abbrev pub decreases-collect : goal.decreases-collect
decreases-collect g l = 3 * l.d + 2

abbrev pub decreases-collect_once : goal.decreases-collect_once
decreases-collect_once g l = 3 * l.d + 1

abbrev pub decreases-collect_new : goal.decreases-collect_new
decreases-collect_new g l = 3 * l.d

abbrev pub invariant-collect_new-loop-part : goal.invariant-collect_new-loop-part
invariant-collect_new-loop-part g l = record {
  more : AreAmong l.fn.found l.found;
  seen : AllHaveItems (g.C.Collector.items l.c) l.found l.st l.seen.keys;
  done : (k : ℕ) → k < l.part-index → HasItems (g.C.Collector.items l.c) l.found l.st (get_or l.part-items k (0, 0)).1;
}
